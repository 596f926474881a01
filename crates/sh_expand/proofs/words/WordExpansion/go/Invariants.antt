use Rattle.std.proofs.Common.{◌≡◌, List, ℕ}
use Rattle.sh_expand.specs.Expansion.{Done}
use Rattle.sh_expand.specs.WordProgress.{rest, state_of, weight}
use Rattle.sh_expand.proofs.words.WordExpansion.go.Given as goal

abbrev pub invariant-loop-step : goal.invariant-loop-step
invariant-loop-step l = ((bs : List (List ℕ)) → rest l.self (Done (state_of l.self l.vars bs)) ≡ rest l.initial.self (Done (state_of l.initial.self l.initial.vars bs))) × (l.self.words ≡ l.initial.self.words)

abbrev pub decreases-loop-step : goal.decreases-loop-step
decreases-loop-step l = weight l.self
