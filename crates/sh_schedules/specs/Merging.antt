-- What shards kept of the outcomes that they found, put together.
use Rattle.std.specs.Prelude.{◌≡◌, ℕ, List, [], ◌∷◌, map}
use Rattle.sh_exec.specs.declared.event.Event.TheVariants.{Run}
use Rattle.sh_schedules_outcomes.specs.Schedules.{Machine}
use Rattle.sh_schedules_outcomes.specs.Found.{IsRetraced, Joined}
use Rattle.sh_schedules_outcomes.specs.declared.found.Found.{Found}
use Rattle.sh_schedules.specs.declared.kept.Kept.{Kept}
use Rattle.sh_schedules_outcomes.specs.declared.outcome.Outcome.{Outcome}

-- what the schedule comes to that is kept is added, for as many schedules as are told
pub record IsJoined {A : Type 0} (w : Machine A) (outcome : A → Outcome) (s : A) (kept : Kept) (old new : List Found) : Type 0 where
  pub one : Found
  pub retraced : IsRetraced w outcome s (map Run kept.places.items) kept.schedules one
  pub joined : Joined old one new

-- each of those that are kept is added in turn
abbrev pub AreJoined : {A : Type 0} → Machine A → (A → Outcome) → A → List Kept → List Found → List Found → Type 0
AreJoined w outcome s [] old new = new ≡ old
AreJoined w outcome s (one ∷ rest) old new = (between : List Found) × IsJoined w outcome s one old between × AreJoined w outcome s rest between new

-- those that each shard kept are added, one shard after another
abbrev pub AreJoinedInTurn : {A : Type 0} → Machine A → (A → Outcome) → A → List (List Kept) → List Found → List Found → Type 0
AreJoinedInTurn w outcome s [] old new = new ≡ old
AreJoinedInTurn w outcome s (kept ∷ rest) old new = (between : List Found) × AreJoined w outcome s kept old between × AreJoinedInTurn w outcome s rest between new

-- this is what is kept of an outcome that was found
pub record IsKept (found : Found) (kept : Kept) : Type 0 where
  pub events_are : map Run kept.places.items ≡ found.events
  pub schedules_are : kept.schedules ≡ found.schedules

abbrev pub AreKept : List Found → List Kept → Type 0
AreKept [] [] = Unit {0}
AreKept [] (one ∷ rest) = ⊥
AreKept (f ∷ fs) [] = ⊥
AreKept (f ∷ fs) (one ∷ rest) = IsKept f one × AreKept fs rest

-- of the shards with so many before them, one after another
abbrev pub AreKeptInTurn : (ℕ → List Found) → List ℕ → List (List Kept) → Type 0
AreKeptInTurn found [] [] = Unit {0}
AreKeptInTurn found [] (kept ∷ rest) = ⊥
AreKeptInTurn found (before ∷ order) [] = ⊥
AreKeptInTurn found (before ∷ order) (kept ∷ rest) = AreKept (found before) kept × AreKeptInTurn found order rest
