use Rattle.std.proofs.Common.{ℕ, ◌≤◌, length, take}
use Rattle.sh_exec.specs.State.{State}
use Rattle.sh_schedules_outcomes.specs.Shell.{shell}
use Rattle.sh_schedules.specs.Trying.{HasTaken}
use Rattle.sh_schedules.proofs.turns.take_rest.Given as goal

abbrev pub invariant-places : goal.invariant-places
invariant-places g l = (k : ℕ) (s : State _) → l.taken ≤ length l.path → HasTaken l.fn.world (shell g.S.Stock.meaning) k s (take l.taken l.path) l.fn.begun
    → HasTaken l.world (shell g.S.Stock.meaning) k s (take l.place l.path) l.standing
