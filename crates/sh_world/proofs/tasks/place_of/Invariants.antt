use Rattle.std.proofs.Common.{◌≡◌, ◌+◌, length}
use Rattle.sh_exec.specs.Processes.{place_of}
use Rattle.sh_world.proofs.tasks.place_of.Given as goal

abbrev pub invariant-tasks : goal.invariant-tasks
invariant-tasks g l = (l.place + length l.rest ≡ length l.tasks) × (l.place + place_of l.pid l.rest ≡ place_of l.pid l.tasks)

abbrev pub decreases-tasks : goal.decreases-tasks
decreases-tasks g l = length l.rest
