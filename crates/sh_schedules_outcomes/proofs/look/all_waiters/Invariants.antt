use Rattle.std.proofs.Common.{◌≡◌, map, take}
use Rattle.sh_schedules_outcomes.specs.Shell.{waiter_of}
use Rattle.sh_schedules_outcomes.proofs.look.all_waiters.Given as goal

abbrev pub invariant-loop-task : goal.invariant-loop-task
invariant-loop-task g l = l.waiters ≡ map waiter_of (take l.task-index l.tasks)
