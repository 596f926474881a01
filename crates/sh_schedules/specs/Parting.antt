-- Where two schedules part: the first turn that they give to different processes.
use Rattle.std.specs.Prelude.{◌≡◌, ◌≢◌, ℕ, ◌+◌, List, [], ◌∷◌, Bool, true, false, Option, Some, None, if◌then◌else◌, nat_eq, slice_get}
use Rattle.sh_exec.specs.declared.event.Event.{Event}
use Rattle.sh_exec.specs.declared.event.Event.TheVariants.{Run, Next, Key}
use Rattle.sh_schedules_outcomes.specs.Schedules.{IsSchedule, Machine}
use Rattle.sh_schedules.specs.declared.parting.Parting.{Parting}

-- the events name the same place; a schedule has no keys
abbrev pub is_same_turn : Event → Event → Bool
is_same_turn (Run place) (Run other) = nat_eq place other
is_same_turn (Run place) Next = false
is_same_turn (Run place) (Key byte) = false
is_same_turn Next (Run other) = false
is_same_turn Next Next = true
is_same_turn Next (Key byte) = false
is_same_turn (Key byte) (Run other) = false
is_same_turn (Key byte) Next = false
is_same_turn (Key byte) (Key other) = nat_eq byte other

-- the process that an event gives the turn to, by its place among those that can take one
abbrev pub mover : {A : Type 0} → Machine A → A → Event → Option ℕ
mover w s (Run place) = slice_get (w.runnable s) place
mover w s Next = None
mover w s (Key byte) = None

abbrev pub parting_by : (common : ℕ) → Option ℕ → Option ℕ → Option Parting
parting_by common None second = None
parting_by common (Some first) None = None
parting_by common (Some first) (Some second) = Some (record { common = common; first = first; second = second })

-- where events part that have so many turns in common before them; None where one of the lists has no further turn, or a turn there names
-- no process
unfoldable pub parting : {A : Type 0} → Machine A → A → (common : ℕ) → List Event → List Event → Option Parting
parting w s common [] others = None
parting w s common (e ∷ es) [] = None
parting w s common (e ∷ es) (f ∷ fs) =
    if is_same_turn e f then parting w (w.step s e) (common + 1) es fs else parting_by common (mover w s e) (mover w s f)

abbrev pub DoesPart : {A : Type 0} → Machine A → A → ℕ → List Event → List Event → Type 0
DoesPart w s common es fs = (p : Parting) × (parting w s common es fs ≡ Some p)

-- two different schedules from one state part, with whatever numbers of preemptions
abbrev pub DifferentSchedulesPart : {A : Type 0} → Machine A → Type 0
DifferentSchedulesPart w = (j k n : ℕ) (s : _) (es fs : List Event) → IsSchedule w j n s es → IsSchedule w k n s fs → es ≢ fs → DoesPart w s 0 es fs
