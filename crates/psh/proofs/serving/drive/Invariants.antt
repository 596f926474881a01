use Rattle.std.proofs.Common.{take}
use Rattle.sh_world.specs.World.{WorldStands}
use Rattle.sh_exec.specs.State.{State, run}
use Rattle.psh_common.specs.Events.{each_event}
use Rattle.psh.proofs.serving.drive.Given as goal

abbrev pub invariant-loop-turns : goal.invariant-loop-turns
invariant-loop-turns g l = (s : State _) → WorldStands l.fn.world s → WorldStands l.world (run g.S.Stock.meaning s (each_event (take l.turns-index l.all)))
