use Rattle.std.proofs.Common.{List, ℕ, ◌++◌, length}
use Rattle.sh_expand.specs.Waiting.{IsWaiting}
use Rattle.sh_expand.proofs.Waiting.{Stands}
use Rattle.sh_expand.proofs.pending.go_through.Given as goal
use Rattle.sh_vars.specs.Environment.{Environment}

abbrev pub invariant-answers : goal.invariant-answers
invariant-answers l = (start : Environment) (given : List (List ℕ)) → IsWaiting l.fn.program l.fn.expansion l.fn.vars start given
    → Stands l.files l.fn.expansion.words.words start (given ++ l.answers) l.step l.expansion l.vars l.rest

abbrev pub decreases-answers : goal.decreases-answers
decreases-answers l = length l.rest
