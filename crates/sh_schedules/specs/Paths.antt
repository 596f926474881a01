-- The schedule that is being tried, with what is left to try in the place of each of its turns.
use Rattle.std.specs.Prelude.{◌≡◌, ℕ, zero, suc, ◌-◌, List, [], ◌∷◌, ◌++◌, map, Bool, true, false}
use Rattle.sh_exec.specs.declared.event.Event.{Event}
use Rattle.sh_exec.specs.declared.event.Event.TheVariants.{Run}
use Rattle.sh_schedules_outcomes.specs.Schedules.{Machine, cost}
use Rattle.sh_schedules_outcomes.specs.Choices.{begun, begun_by, schedules}
use Rattle.sh_schedules.specs.declared.path.Turn.{Turn}

abbrev pub event_of : Turn → Event
event_of turn = Run turn.place

abbrev pub events_of : List Turn → List Event
events_of path = map event_of path

-- how many preemptions are left after events
abbrev pub spare : {A : Type 0} → Machine A → ℕ → A → List Event → ℕ
spare w k s [] = k
spare w k s (e ∷ es) = spare w (k - cost w s e) (w.step s e) es

-- the schedules that go on at one of these places
abbrev pub through : {A : Type 0} → Machine A → ℕ → ℕ → A → List ℕ → List (List Event)
through w k n s places = begun_by (λ place. schedules w (k - cost w s (Run place)) n (w.step s (Run place))) places

-- the schedules that are still to be tried, those that begin with the path's events among them
unfoldable pub to_try : {A : Type 0} → Machine A → ℕ → ℕ → A → List Turn → List (List Event)
to_try w k n s [] = schedules w k n s
to_try w k zero s (turn ∷ turns) = []
to_try w k (suc n) s (turn ∷ turns) =
    begun turn.place (to_try w (k - cost w s (event_of turn)) n (w.step s (event_of turn)) turns) ++ through w k n s turn.others.items

-- those without the ones that begin with the path's events
unfoldable pub behind : {A : Type 0} → Machine A → ℕ → ℕ → A → List Turn → List (List Event)
behind w k n s [] = []
behind w k zero s (turn ∷ turns) = []
behind w k (suc n) s (turn ∷ turns) =
    begun turn.place (behind w (k - cost w s (event_of turn)) n (w.step s (event_of turn)) turns) ++ through w k n s turn.others.items

abbrev pub HasNoOther : Turn → Type 0
HasNoOther turn = turn.others.items ≡ []

-- each turn has no other
abbrev pub HaveNoOther : List Turn → Type 0
HaveNoOther [] = Unit {0}
HaveNoOther (turn ∷ turns) = HasNoOther turn × HaveNoOther turns

-- the last turn that has others gives way to the first of them, and those after it are gone; false where no turn has others
pub data IsAdvance (old new : List Turn) : Bool → Type 0 where
  gives_way : (front spent : List Turn) (turn next : Turn) → old ≡ front ++ turn ∷ spent → HaveNoOther spent → turn.others.items ≡ next.place ∷ next.others.items
      → new ≡ front ++ next ∷ [] → IsAdvance old new true
  none_left : HaveNoOther old → IsAdvance old new false
