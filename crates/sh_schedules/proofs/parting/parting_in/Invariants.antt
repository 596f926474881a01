use Rattle.std.proofs.Common.{◌≡◌, ◌+◌, length}
use Rattle.sh_exec.specs.State.{State}
use Rattle.sh_schedules_outcomes.specs.World.{WorldStands}
use Rattle.sh_schedules_outcomes.specs.Shell.{shell}
use Rattle.sh_schedules.proofs.Partings.{StandsHere}
use Rattle.sh_schedules.proofs.parting.parting_in.Given as goal

abbrev pub invariant-turns : goal.invariant-turns
invariant-turns g l =
    ((s : State _) → WorldStands l.fn.world s → StandsHere l.world (shell g.S.Stock.meaning) s l.common l.ones l.others l.fn.first l.fn.second)
    × (l.common + length l.ones ≡ length l.fn.first)

abbrev pub decreases-turns : goal.decreases-turns
decreases-turns g l = length l.ones
