use Rattle.std.proofs.Common.{replicate}
use Rattle.sh_world.specs.World.{WorldStands}
use Rattle.sh_exec.specs.State.{State, run}
use Rattle.psh.proofs.serving.drive_line.Given as goal

abbrev pub invariant-times : goal.invariant-times
invariant-times g l = (s : State _) → WorldStands l.fn.world s → WorldStands l.world (run g.S.Stock.meaning s (replicate l.done l.turns.event))
