use Rattle.std.proofs.Common.{take}
use Rattle.sh_exec.specs.State.{State, run}
use Rattle.sh_world.specs.World.{WorldStands}
use Rattle.sh_world.proofs.world.World.run.Given as goal

abbrev pub invariant-loop-event : goal.invariant-loop-event
invariant-loop-event g l = (s : State _) → WorldStands l.fn.self s → WorldStands l.self (run g.S.Stock.meaning s (take l.event-index l.events))
