-- The schedules of a machine whose processes take turns, and how many of the turns are preemptions.
use Rattle.std.specs.Prelude.{◌≡◌, ℕ, ◌+◌, ◌<◌, ◌≤◌, ◌⊎◌, List, [], ◌∷◌, length, Option, Some, None, if◌then◌else◌, nat_eq, ◌==◌, position}
use Rattle.sh_world.specs.Event.{Event}
use Rattle.sh_world.specs.Event.TheVariants.{Run, Next, Key}

-- a machine: what an event makes of a state, which processes can take a turn there, and which one took the last turn
pub record Machine (A : Type 0) : Type 0 where
  pub step : A → Event → A
  pub runnable : A → List ℕ
  pub last : A → Option ℕ

-- the state after all events
abbrev pub end_of : {A : Type 0} → Machine A → A → List Event → A
end_of w s [] = s
end_of w s (e ∷ es) = end_of w (w.step s e) es

abbrev pub place_of : Option ℕ → List ℕ → Option ℕ
place_of None pids = None
place_of (Some pid) pids = position (λ p. p == pid) pids

-- the place, among the processes that can take a turn, of the one that took the last turn, where it is one of them
abbrev pub last_place : {A : Type 0} → Machine A → A → Option ℕ
last_place w s = place_of (w.last s) (w.runnable s)

-- where the last process can go on, a turn of another one is a preemption
abbrev pub cost_by : Option ℕ → ℕ → ℕ
cost_by None place = 0
cost_by (Some here) place = if nat_eq place here then 0 else 1

abbrev pub cost : {A : Type 0} → Machine A → A → Event → ℕ
cost w s (Run place) = cost_by (last_place w s) place
cost w s Next = 0
cost w s (Key byte) = 0

-- how many of the turns are preemptions
abbrev pub preemptions : {A : Type 0} → Machine A → A → List Event → ℕ
preemptions w s [] = 0
preemptions w s (e ∷ es) = cost w s e + preemptions w (w.step s e) es

-- the event names, by its place, a process that can take a turn
abbrev pub IsTurn : {A : Type 0} → Machine A → A → Event → Type 0
IsTurn w s (Run place) = place < length (w.runnable s)
IsTurn w s Next = ⊥
IsTurn w s (Key byte) = ⊥

abbrev pub AreTurns : {A : Type 0} → Machine A → A → List Event → Type 0
AreTurns w s [] = Unit {0}
AreTurns w s (e ∷ es) = IsTurn w s e × AreTurns w (w.step s e) es

-- a schedule of at most so many turns, with any number of preemptions: it ends where no process can take a turn, or after that many turns
pub record IsAnySchedule {A : Type 0} (w : Machine A) (most_turns : ℕ) (s : A) (events : List Event) : Type 0 where
  pub turns : AreTurns w s events
  pub within : length events ≤ most_turns
  pub ends : (w.runnable (end_of w s events) ≡ []) ⊎ (length events ≡ most_turns)

-- one with at most so many preemptions
pub record IsSchedule {A : Type 0} (w : Machine A) (most_preemptions most_turns : ℕ) (s : A) (events : List Event) : Type 0 where
  pub any : IsAnySchedule w most_turns s events
  pub preempted : preemptions w s events ≤ most_preemptions
