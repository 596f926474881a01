-- The outcomes that were found, as schedules are counted to them.
use Rattle.std.specs.Prelude.{◌≡◌, ◌≢◌, ℕ, zero, suc, ◌+◌, ◌-◌, min, ◌<◌, ◌^◌, ◌⊎◌, List, [], ◌∷◌, length, Bool, true, false}
use Rattle.sh_world.specs.Event.{Event}
use Rattle.sh_schedules_outcomes.specs.Schedules.{IsSchedule, Machine, end_of, preemptions}
use Rattle.sh_schedules_outcomes.specs.Preference.{comes_before}
use Rattle.sh_schedules_outcomes.specs.declared.found.Found.{Found}
use Rattle.sh_schedules_outcomes.specs.declared.outcome.Outcome.{Outcome}

-- it is the place of the first with this outcome, or their number where none has it
abbrev pub IsPlace : List Found → Outcome → ℕ → Type 0
IsPlace [] outcome zero = Unit {0}
IsPlace [] outcome (suc i) = ⊥
IsPlace (f ∷ fs) outcome zero = f.outcome ≡ outcome
IsPlace (f ∷ fs) outcome (suc i) = (f.outcome ≢ outcome) × IsPlace fs outcome i

-- its schedule comes before that of another
abbrev pub is_before : Found → Found → Bool
is_before f g = comes_before f.preemptions f.events g.preemptions g.events

-- these events are kept with so many preemptions, if they come before those that were kept
abbrev pub IsPreferred : (cost : ℕ) → List Event → (old new : Found) → Type 0
IsPreferred cost events old new =
    ((comes_before cost events old.preemptions old.events ≡ true) × (new.events ≡ events) × (new.preemptions ≡ cost))
    ⊎ ((comes_before cost events old.preemptions old.events ≡ false) × (new.events ≡ old.events) × (new.preemptions ≡ old.preemptions))

-- one more schedule with this outcome; at 2^64 - 1 their number stays
pub record IsAgain (old : Found) (events : List Event) (cost : ℕ) (new : Found) : Type 0 where
  pub outcome_is : new.outcome ≡ old.outcome
  pub counts : new.schedules ≡ min (old.schedules + 1) (2 ^ 64 - 1)
  pub kept : IsPreferred cost events old new

-- a schedule with this outcome is counted
abbrev pub Noted : List Found → Outcome → List Event → ℕ → List Found → Type 0
Noted [] outcome events cost new = new ≡ record { outcome = outcome; schedules = 1; preemptions = cost; events = events } ∷ []
Noted (f ∷ fs) outcome events cost [] = ⊥
Noted (f ∷ fs) outcome events cost (g ∷ gs) =
    ((f.outcome ≡ outcome) × IsAgain f events cost g × (gs ≡ fs)) ⊎ ((f.outcome ≢ outcome) × (g ≡ f) × Noted fs outcome events cost gs)

-- two with one outcome are counted together, up to 2^64 - 1
pub record IsSum (old one new : Found) : Type 0 where
  pub outcome_is : new.outcome ≡ old.outcome
  pub counts : new.schedules ≡ min (old.schedules + one.schedules) (2 ^ 64 - 1)
  pub kept : IsPreferred one.preemptions one.events old new

-- one that was found elsewhere is added
abbrev pub Joined : List Found → Found → List Found → Type 0
Joined [] one new = new ≡ one ∷ []
Joined (f ∷ fs) one [] = ⊥
Joined (f ∷ fs) one (g ∷ gs) = ((f.outcome ≡ one.outcome) × IsSum f one g × (gs ≡ fs)) ⊎ ((f.outcome ≢ one.outcome) × (g ≡ f) × Joined fs one gs)

-- each of those that were found elsewhere is added in turn
abbrev pub JoinedAll : List Found → List Found → List Found → Type 0
JoinedAll found [] new = new ≡ found
JoinedAll found (one ∷ others) new = (between : List Found) × Joined found one between × JoinedAll between others new

-- what was found in shards with so many before them is added, one shard after another
abbrev pub JoinedInTurn : (ℕ → List Found) → List ℕ → List Found → List Found → Type 0
JoinedInTurn found [] old new = new ≡ old
JoinedInTurn found (before ∷ order) old new = (between : List Found) × JoinedAll old (found before) between × JoinedInTurn found order between new

-- one of them has this outcome
abbrev pub Shows : List Found → Outcome → Type 0
Shows [] outcome = ⊥
Shows (f ∷ fs) outcome = (f.outcome ≡ outcome) ⊎ Shows fs outcome

-- no two have the same outcome
abbrev pub AreDistinct : List Found → Type 0
AreDistinct [] = Unit {0}
AreDistinct (f ∷ fs) = (Shows fs f.outcome → ⊥) × AreDistinct fs

-- how many schedules were counted
abbrev pub counted : List Found → ℕ
counted [] = 0
counted (f ∷ fs) = f.schedules + counted fs

-- so many of these schedules come to an outcome
abbrev pub IsNumber : {A : Type 0} → Machine A → (A → Outcome) → A → Outcome → List (List Event) → ℕ → Type 0
IsNumber w outcome s seen [] n = n ≡ 0
IsNumber w outcome s seen (es ∷ rest) n =
    ((outcome (end_of w s es) ≢ seen) × IsNumber w outcome s seen rest n)
    ⊎ ((m : ℕ) × (n ≡ suc m) × (outcome (end_of w s es) ≡ seen) × IsNumber w outcome s seen rest m)

-- none of them that comes to it comes before these events with so many preemptions
abbrev pub HaveNoneBefore : {A : Type 0} → Machine A → (A → Outcome) → A → Outcome → (cost : ℕ) → List Event → List (List Event) → Type 0
HaveNoneBefore w outcome s seen cost events [] = Unit {0}
HaveNoneBefore w outcome s seen cost events (es ∷ rest) =
    (outcome (end_of w s es) ≡ seen → comes_before (preemptions w s es) es cost events ≡ false) × HaveNoneBefore w outcome s seen cost events rest

-- its events are a schedule from this state that comes to its outcome; of those that were tried as many come to it as it counts, and none
-- of these comes before it: none has fewer preemptions, and of those with as many it is the first by its places
pub record IsFound {A : Type 0} (w : Machine A) (outcome : A → Outcome) (k n : ℕ) (s : A) (done : List (List Event)) (f : Found) : Type 0 where
  pub schedule : IsSchedule w k n s f.events
  pub outcome_is : f.outcome ≡ outcome (end_of w s f.events)
  pub preempts : f.preemptions ≡ preemptions w s f.events
  pub number : IsNumber w outcome s f.outcome done f.schedules
  pub first : HaveNoneBefore w outcome s f.outcome f.preemptions f.events done

abbrev pub AreFound : {A : Type 0} → Machine A → (A → Outcome) → ℕ → ℕ → A → List (List Event) → List Found → Type 0
AreFound w outcome k n s done [] = Unit {0}
AreFound w outcome k n s done (f ∷ fs) = IsFound w outcome k n s done f × AreFound w outcome k n s done fs

-- each of these schedules comes to one of the outcomes
abbrev pub AreShown : {A : Type 0} → Machine A → (A → Outcome) → A → List Found → List (List Event) → Type 0
AreShown w outcome s found [] = Unit {0}
AreShown w outcome s found (es ∷ rest) = Shows found (outcome (end_of w s es)) × AreShown w outcome s found rest

-- just these schedules were counted
pub record IsTally {A : Type 0} (w : Machine A) (outcome : A → Outcome) (k n : ℕ) (s : A) (done : List (List Event)) (found : List Found) : Type 0 where
  pub each : AreFound w outcome k n s done found
  pub distinct : AreDistinct found
  pub counts : counted found ≡ length done
  pub shown : AreShown w outcome s found done

-- it is what these events come to, for so many schedules
pub record IsRetraced {A : Type 0} (w : Machine A) (outcome : A → Outcome) (s : A) (events : List Event) (schedules : ℕ) (f : Found) : Type 0 where
  pub events_are : f.events ≡ events
  pub outcome_is : f.outcome ≡ outcome (end_of w s events)
  pub preempts : preemptions w s events < 2 ^ 32 → f.preemptions ≡ preemptions w s events
  pub schedules_are : f.schedules ≡ schedules
