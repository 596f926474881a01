-- The order in which the schedules are tried: in each turn the process of the last turn comes first, where it can go on.
use Rattle.std.specs.Prelude.{◌≡◌, ◌⊎◌, ℕ, zero, suc, ◌-◌, List, [], ◌∷◌, ◌++◌, length, map, Option, Some, None, if◌then◌else◌, nat_eq}
use Rattle.sh_world.specs.Event.{Event}
use Rattle.sh_world.specs.Event.TheVariants.{Run}
use Rattle.sh_schedules_outcomes.specs.Schedules.{Machine, cost, last_place}

-- one of a list
abbrev pub In : {X : Type 0} → List X → X → Type 0
In [] x = ⊥
In (y ∷ ys) x = (y ≡ x) ⊎ In ys x

-- none of a list is there twice
abbrev pub AreApart : {X : Type 0} → List X → Type 0
AreApart [] = Unit {0}
AreApart (x ∷ xs) = (In xs x → ⊥) × AreApart xs

-- the places below a number
abbrev pub places_below : ℕ → List ℕ
places_below zero = []
places_below (suc n) = places_below n ++ n ∷ []

-- those but for one of them
abbrev pub others_below : ℕ → ℕ → List ℕ
others_below here zero = []
others_below here (suc n) = if nat_eq n here then others_below here n else others_below here n ++ n ∷ []

-- the places to try, where so many processes can take a turn and so many preemptions are left
abbrev pub choices_by : Option ℕ → ℕ → ℕ → List ℕ
choices_by None count left = places_below count
choices_by (Some here) count left = here ∷ (if nat_eq left 0 then [] else others_below here count)

abbrev pub choices : {A : Type 0} → Machine A → ℕ → A → List ℕ
choices w left s = choices_by (last_place w s) (length (w.runnable s)) left

abbrev pub begun : ℕ → List (List Event) → List (List Event)
begun place all = map (λ es. Run place ∷ es) all

-- those that begin at each of these places in turn, where a function gives what follows it
abbrev pub begun_by : (ℕ → List (List Event)) → List ℕ → List (List Event)
begun_by rest [] = []
begun_by rest (place ∷ places) = begun place (rest place) ++ begun_by rest places

-- where there is no place the one schedule has no turn
abbrev pub of_choices : (ℕ → List (List Event)) → List ℕ → List (List Event)
of_choices rest [] = [] ∷ []
of_choices rest (place ∷ places) = begun_by rest (place ∷ places)

-- all schedules in the order in which they are tried
unfoldable pub schedules : {A : Type 0} → Machine A → ℕ → ℕ → A → List (List Event)
schedules w k zero s = [] ∷ []
schedules w k (suc n) s = of_choices (λ place. schedules w (k - cost w s (Run place)) n (w.step s (Run place))) (choices w k s)
