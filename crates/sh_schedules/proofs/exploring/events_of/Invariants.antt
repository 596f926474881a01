use Rattle.std.proofs.Common.{◌≡◌, take}
use Rattle.sh_schedules.specs.Paths.{events_of}
use Rattle.sh_schedules.proofs.exploring.events_of.Given as goal

abbrev pub invariant-loop-turn : goal.invariant-loop-turn
invariant-loop-turn l = l.events ≡ events_of (take l.turn-index l.path)
