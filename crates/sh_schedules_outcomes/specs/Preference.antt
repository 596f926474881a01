-- Which of two schedules with one outcome is kept: the one with fewer preemptions, and of two with as many the first by its places.
use Rattle.std.specs.Prelude.{ℕ, List, [], ◌∷◌, Bool, true, false, if◌then◌else◌, nat_eq, nat_lt}
use Rattle.sh_world.specs.Event.{Event}
use Rattle.sh_world.specs.Event.TheVariants.{Run, Next, Key}

-- the place that an event names
abbrev pub place_in : Event → ℕ
place_in (Run place) = place
place_in Next = 0
place_in (Key byte) = 0

-- the smaller number comes first; where both are the same, this tells what does
abbrev pub first_by : (n m : ℕ) → Bool → Bool
first_by n m behind = if nat_eq n m then behind else nat_lt n m

-- by the first place that differs; a beginning comes before the whole
abbrev pub precedes : List Event → List Event → Bool
precedes events [] = false
precedes [] (f ∷ fs) = true
precedes (e ∷ es) (f ∷ fs) = first_by (place_in e) (place_in f) (precedes es fs)

-- events with so many preemptions come before others with so many
abbrev pub comes_before : (cost : ℕ) → List Event → (other : ℕ) → List Event → Bool
comes_before cost events other others = first_by cost other (precedes events others)
