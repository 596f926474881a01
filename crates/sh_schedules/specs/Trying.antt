-- How far the trying of schedules has come.
use Rattle.std.specs.Prelude.{◌≡◌, ℕ, ◌-◌, ◌<◌, ◌≤◌, ◌^◌, ◌⊎◌, List, [], ◌∷◌, ◌++◌, Bool, true, false, length, take, Ok, Option, Some, None}
use Rattle.sh_files.specs.Image.{read_image}
use Rattle.sh_files.specs.Nodes.{FileMap}
use Rattle.sh_stock.specs.Asking.{Meaning}
use Rattle.sh_exec.specs.declared.event.Event.{Event}
use Rattle.sh_exec.specs.State.{State, start}
use Rattle.sh_exec.specs.declared.settings.Settings.{Settings}
use Rattle.sh_schedules_outcomes.specs.World.{WorldKept, WorldStands}
use Rattle.sh_schedules_outcomes.specs.Schedules.{IsSchedule, Machine, cost, end_of}
use Rattle.sh_schedules_outcomes.specs.Choices.{choices, schedules}
use Rattle.sh_schedules.specs.Paths.{behind, events_of, spare, to_try}
use Rattle.sh_schedules_outcomes.specs.Found.{AreDistinct, AreFound, IsTally, Shows, counted}
use Rattle.sh_schedules.specs.Shards.{first_mark, is_of_shard, mark_after, marked, reaching, shard_of, those}
use Rattle.sh_schedules_outcomes.specs.Shell.{outcome_of, shell}
use Rattle.sh_schedules.specs.declared.exploring.Bounds.{Bounds}
use Rattle.sh_schedules_outcomes.specs.declared.fault.ExploreFault.{ExploreFault}
use Rattle.sh_schedules_outcomes.specs.declared.fault.ExploreFault.TheVariants.{TooMany}
use Rattle.sh_schedules_outcomes.specs.Refusals.{IsRefusedImage}
use Rattle.sh_schedules_outcomes.specs.declared.found.Found.{Found}
use Rattle.sh_schedules_outcomes.specs.declared.outcome.Outcome.{Outcome}
use Rattle.sh_schedules.specs.declared.path.Turn.{Turn}
use Rattle.sh_schedules.specs.declared.shard.Shard.{Shard}
use Rattle.sh_schedules.specs.declared.turns.Standing.{Standing}

-- how things stand after a turn
pub record IsAfter {A : Type 0} (w : Machine A) (s : A) (e : Event) (old new : Standing) : Type 0 where
  pub left_is : new.left ≡ old.left - cost w s e
  pub mark_is : new.mark ≡ mark_after w old.mark s e

-- a turn at the first of the places, with those of the others that may lead to a schedule of the shard; none where there is no place
abbrev pub IsFirstChoice : Shard → Standing → Option ℕ → List ℕ → Option Turn → Type 0
IsFirstChoice shard standing here places None = places ≡ []
IsFirstChoice shard standing here places (Some turn) =
    (others : List ℕ) × (places ≡ turn.place ∷ others) × (turn.others.items ≡ reaching shard standing.mark here others)

-- a world has taken the path's turns, and things stand so after them
pub record HasTaken {S : Type 0} (world : WorldKept S) (w : Machine (State S)) (k : ℕ) (s : State S) (path : List Turn) (standing : Standing) : Type 0 where
  pub stands : WorldStands world (end_of w s (events_of path))
  pub left_is : standing.left ≡ spare w k s (events_of path)
  pub mark_is : standing.mark ≡ marked w first_mark s (events_of path)

-- no choice is left after the path's turns, or there were as many as may be
abbrev pub IsOver : {A : Type 0} → Machine A → ℕ → ℕ → A → List Turn → Type 0
IsOver w k n s path = (choices w (spare w k s (events_of path)) (end_of w s (events_of path)) ≡ []) ⊎ (length path ≡ n)

-- the schedules of the shard that are still to be tried, those that begin with the path's events among them
abbrev pub left_of : {A : Type 0} → Machine A → Shard → ℕ → ℕ → A → List Turn → List (List Event)
left_of w shard k n s path = those (is_of_shard w shard s) (to_try w k n s path)

-- a path leaves as much of the shard to be tried as another, and no more of all schedules
pub record LeavesNoMore {A : Type 0} (w : Machine A) (shard : Shard) (k n : ℕ) (s : A) (old new : List Turn) : Type 0 where
  pub of_shard : left_of w shard k n s new ≡ left_of w shard k n s old
  pub of_all : length (to_try w k n s new) ≤ length (to_try w k n s old)

-- the path has gone on by one turn or not, at the first choice, and has as much to try
pub data HasGone {S : Type 0} (world : WorldKept S) (w : Machine (State S)) (k n : ℕ) (s : State S) (shard : Shard) (old new : List Turn) (standing : Standing) : Bool → Type 0 where
  went_on : HasTaken world w k s new standing → LeavesNoMore w shard k n s old new → HasGone world w k n s shard old new standing true
  went_nowhere : HasTaken world w k s new standing → new ≡ old → IsOver w k n s new → HasGone world w k n s shard old new standing false

-- the path is a whole schedule, and has as much to try
pub record HasEnded {S : Type 0} (world : WorldKept S) (w : Machine (State S)) (k n : ℕ) (s : State S) (shard : Shard) (old new : List Turn) (standing : Standing) : Type 0 where
  pub taken : HasTaken world w k s new standing
  pub tries : LeavesNoMore w shard k n s old new
  pub short : length new ≤ n
  pub over : IsOver w k n s new

-- once the path's own schedule was tried fewer are left than before
abbrev pub AreFewer : {A : Type 0} → Machine A → ℕ → ℕ → A → (old new : List Turn) → Type 0
AreFewer w k n s old new = length (behind w k n s new) < length (to_try w k n s old)

-- so many schedules of the shard were tried and counted, and the path's are still to be tried
pub record IsTrying {A : Type 0} (w : Machine A) (outcome : A → Outcome) (k n : ℕ) (s : A) (shard : Shard) (path : List Turn) (found : List Found) (tried : ℕ) : Type 0 where
  pub done : List (List Event)
  pub all : done ++ left_of w shard k n s path ≡ shard_of w shard k n s
  pub tally : IsTally w outcome k n s done found
  pub count : length done ≡ tried
  pub short : length path ≤ n

-- the same, with the path's own schedule among those that were tried, if it is of the shard
pub record IsTried {A : Type 0} (w : Machine A) (outcome : A → Outcome) (k n : ℕ) (s : A) (shard : Shard) (path : List Turn) (found : List Found) (tried : ℕ) : Type 0 where
  pub done : List (List Event)
  pub all : done ++ those (is_of_shard w shard s) (behind w k n s path) ≡ shard_of w shard k n s
  pub tally : IsTally w outcome k n s done found
  pub count : length done ≡ tried
  pub short : length path ≤ n

-- what the trying of a shard gives: so many of its schedules, the first in their order, were tried; each outcome is that of the machine on
-- its events, and counts the schedules that were tried and come to it; no outcome is there twice; and where all of the shard were tried,
-- each of its schedules comes to one
pub record IsShardExploration {A : Type 0} (w : Machine A) (outcome : A → Outcome) (k n : ℕ) (s : A) (shard : Shard) (found : List Found) (tried : ℕ) (is_complete : Bool) : Type 0 where
  pub each : AreFound w outcome k n s (take tried (shard_of w shard k n s)) found
  pub distinct : AreDistinct found
  pub counts : counted found ≡ tried
  pub complete :
      is_complete ≡ true → (events : List Event) → IsSchedule w k n s events → is_of_shard w shard s events ≡ true → Shows found (outcome (end_of w s events))
  pub number : is_complete ≡ true → tried ≡ length (shard_of w shard k n s)
  pub further : is_complete ≡ false → tried < length (shard_of w shard k n s)

-- the trying goes on with so many tried, or there is a further schedule and no more may be tried
abbrev pub HasWalked : {A : Type 0} → Machine A → (A → Outcome) → ℕ → ℕ → A → Shard → List Turn → List Found → ℕ → Option ℕ → Type 0
HasWalked w outcome k n s shard path found tried None = IsShardExploration w outcome k n s shard found tried false
HasWalked w outcome k n s shard path found tried (Some more) = IsTried w outcome k n s shard path found more

abbrev pub IsWithin : (most tried : ℕ) → Option ℕ → Type 0
IsWithin most tried None = tried ≡ most
IsWithin most tried (Some more) = more ≤ most

-- what an exploration gives: so many schedules, the first in their order, were tried; each outcome is that of the machine on its events,
-- and counts the schedules that were tried and come to it; no outcome is there twice; and where all were tried, each schedule comes to one
pub record IsExploration {A : Type 0} (w : Machine A) (outcome : A → Outcome) (k n : ℕ) (s : A) (found : List Found) (tried : ℕ) (is_complete : Bool) : Type 0 where
  pub each : AreFound w outcome k n s (take tried (schedules w k n s)) found
  pub distinct : AreDistinct found
  pub counts : counted found ≡ tried
  pub complete : is_complete ≡ true → (events : List Event) → IsSchedule w k n s events → Shows found (outcome (end_of w s events))
  pub number : is_complete ≡ true → tried ≡ length (schedules w k n s)
  pub further : is_complete ≡ false → tried < length (schedules w k n s)

-- what `explore` gives: the image is in order, and what was found is an exploration from its files; no more schedules were tried than may be,
-- and where there are more, just so many
pub record HasExplored {S : Type 0} (m : Meaning S) (image : List ℕ) (settings : Settings) (bounds : Bounds) (found : List Found) (tried : ℕ) (is_complete : Bool) : Type 0 where
  pub files : FileMap
  pub image_is : read_image image ≡ Ok files
  pub exploration : IsExploration (shell m) outcome_of bounds.preemptions bounds.turns (start files settings) found tried is_complete
  pub within : tried ≤ bounds.schedules
  pub stopped : is_complete ≡ false → tried ≡ bounds.schedules

-- why nothing is explored: an image that is refused has this fault, and where there are too many schedules there are 2^64 - 1 of them or more
pub record IsUnexplored {S : Type 0} (m : Meaning S) (image : List ℕ) (settings : Settings) (bounds : Bounds) (fault : ExploreFault) : Type 0 where
  pub refused : IsRefusedImage image fault
  pub too_many : fault ≡ TooMany → (files : FileMap) → read_image image ≡ Ok files →
      2 ^ 64 - 1 ≤ length (schedules (shell m) bounds.preemptions bounds.turns (start files settings))

-- what `explore_shard` gives, likewise
pub record HasExploredShard {S : Type 0} (m : Meaning S) (image : List ℕ) (settings : Settings) (bounds : Bounds) (shard : Shard) (found : List Found) (tried : ℕ) (is_complete : Bool) : Type 0 where
  pub files : FileMap
  pub image_is : read_image image ≡ Ok files
  pub exploration : IsShardExploration (shell m) outcome_of bounds.preemptions bounds.turns (start files settings) shard found tried is_complete
  pub within : tried ≤ bounds.schedules
  pub stopped : is_complete ≡ false → tried ≡ bounds.schedules
