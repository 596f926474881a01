use Rattle.std.proofs.Common.{◌≡◌, map, take}
use Rattle.sh_exec.specs.declared.event.Event.TheVariants.{Run}
use Rattle.sh_schedules.specs.Paths.{events_of}
use Rattle.sh_schedules.proofs.retracing.path_of.Given as goal

abbrev pub invariant-loop-place : goal.invariant-loop-place
invariant-loop-place l = events_of l.path.items ≡ map Run (take l.place-index l.places)
