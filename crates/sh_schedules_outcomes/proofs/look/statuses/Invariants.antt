use Rattle.std.proofs.Common.{◌≡◌, ◌≤◌, length, take}
use Rattle.sh_world.specs.State.{State}
use Rattle.sh_world.specs.World.{WorldStands}
use Rattle.sh_schedules_outcomes.proofs.Looking.{statuses_of}
use Rattle.sh_schedules_outcomes.proofs.look.statuses.Given as goal

abbrev pub invariant-places : goal.invariant-places
invariant-places g l = (s : State _) → WorldStands l.world s
    → (l.statuses ≡ take l.place (statuses_of s.machine.machine.processes)) × (l.place ≤ length s.machine.machine.processes)
