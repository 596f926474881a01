use Rattle.std.proofs.Common.{ℕ, ◌-◌, ◌≤◌, length}
use Rattle.sh_exec.specs.State.{State}
use Rattle.sh_schedules_outcomes.specs.Shell.{shell}
use Rattle.sh_schedules.specs.Checkpoints.{AreCheckpoints}
use Rattle.sh_schedules.specs.Trying.{HasTaken, LeavesNoMore}
use Rattle.sh_schedules.proofs.turns.go_to_end.Given as goal

abbrev pub invariant-turns : goal.invariant-turns
invariant-turns g l = (k : ℕ) (s : State _) → HasTaken l.fn.world (shell g.S.Stock.meaning) k s l.fn.path.items l.fn.begun → length l.fn.path.items ≤ l.most
    → AreCheckpoints (shell g.S.Stock.meaning) k s l.fn.path.items l.fn.checkpoints.items
    → HasTaken l.world (shell g.S.Stock.meaning) k s l.path.items l.standing
    × LeavesNoMore (shell g.S.Stock.meaning) l.shard k l.most s l.fn.path.items l.path.items
    × (length l.path.items ≤ l.most)
    × AreCheckpoints (shell g.S.Stock.meaning) k s l.path.items l.checkpoints.items

abbrev pub decreases-turns : goal.decreases-turns
decreases-turns g l = l.most - length l.path.items
