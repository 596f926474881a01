-- The parts into which the schedules of a script are shared out, so that several runs try them: each schedule is in one of them.
use Rattle.std.specs.Prelude.{ℕ, zero, suc, ◌+◌, ◌-◌, ◌*◌, ◌%◌, ◌≤◌, List, [], ◌∷◌, Bool, true, false, Option, Some, None, if◌then◌else◌, nat_eq}
use Rattle.sh_exec.specs.declared.event.Event.{Event}
use Rattle.sh_exec.specs.declared.event.Event.TheVariants.{Run, Next, Key}
use Rattle.sh_schedules_outcomes.specs.Schedules.{Machine, last_place}
use Rattle.sh_schedules_outcomes.specs.Choices.{AreApart, In, schedules}
use Rattle.sh_schedules.specs.declared.shard.Mark.{Mark}
use Rattle.sh_schedules.specs.declared.shard.Shard.{Shard}

-- the place that is tried first in a turn: that of the last process, where it can go on, else the first one
abbrev pub first_by : Option ℕ → ℕ
first_by None = 0
first_by (Some here) = here

abbrev pub is_first_by : Option ℕ → ℕ → Bool
is_first_by here place = nat_eq place (first_by here)

-- a turn's place goes into the number. A turn that isn't given to the first place strays: it multiplies the number, so that the two turns
-- that stray don't stand for one another
abbrev pub grown : Mark → (is_first : Bool) → ℕ → Mark
grown mark true place = record { strays = mark.strays; key = (mark.key + place + 1) % 4294967296 }
grown mark false place = record { strays = mark.strays - 1; key = (mark.key + place + 1) * 1009 % 4294967296 }

-- no turn counts after the last one that may stray
abbrev pub next_mark : Mark → (is_first : Bool) → ℕ → Mark
next_mark mark is_first place = if nat_eq mark.strays 0 then mark else grown mark is_first place

abbrev pub mark_after : {A : Type 0} → Machine A → Mark → A → Event → Mark
mark_after w mark s (Run place) = next_mark mark (is_first_by (last_place w s) place) place
mark_after w mark s Next = mark
mark_after w mark s (Key byte) = mark

-- the mark of events: of their beginning, up to and with the second turn that strays
abbrev pub marked : {A : Type 0} → Machine A → Mark → A → List Event → Mark
marked w mark s [] = mark
marked w mark s (e ∷ es) = marked w (mark_after w mark s e) (w.step s e) es

abbrev pub first_mark : Mark
first_mark = record { strays = 2; key = 0 }

-- numbers are dealt out to the shards in turn
abbrev pub is_dealt : Shard → ℕ → Bool
is_dealt shard key = nat_eq (key % (shard.before + shard.behind + 1)) shard.before

-- the shard to which events belong is told by their beginning
abbrev pub is_of_shard : {A : Type 0} → Machine A → Shard → A → List Event → Bool
is_of_shard w shard s es = is_dealt shard (marked w first_mark s es).key

-- those that are meant, in their order
abbrev pub with_next : Bool → List Event → List (List Event) → List (List Event)
with_next true es rest = es ∷ rest
with_next false es rest = rest

abbrev pub those : (List Event → Bool) → List (List Event) → List (List Event)
those mine [] = []
those mine (es ∷ rest) = with_next (mine es) es (those mine rest)

-- the schedules of a shard, in their order
abbrev pub shard_of : {A : Type 0} → Machine A → Shard → ℕ → ℕ → A → List (List Event)
shard_of w shard k n s = those (is_of_shard w shard s) (schedules w k n s)

-- whether events with this mark may go on to some of the shard
abbrev pub may_reach : Shard → Mark → Bool
may_reach shard mark = if nat_eq mark.strays 0 then is_dealt shard mark.key else true

abbrev pub with_place : Bool → ℕ → List ℕ → List ℕ
with_place true place rest = place ∷ rest
with_place false place rest = rest

-- the places that may go on to some of the shard
abbrev pub reaching : Shard → Mark → Option ℕ → List ℕ → List ℕ
reaching shard mark here [] = []
reaching shard mark here (place ∷ places) =
    with_place (may_reach shard (next_mark mark (is_first_by here place) place)) place (reaching shard mark here places)

-- the shard with so many before it, of one more than so many
abbrev pub shard_at : (before last : ℕ) → Shard
shard_at before last = record { before = before; behind = last - before }

abbrev pub numbers_up_to : (ℕ → ℕ) → ℕ → ℕ
numbers_up_to number zero = number 0
numbers_up_to number (suc last) = number (suc last) + numbers_up_to number last

-- each of so many shards and one more is there once, by how many are before it
pub record AreAllShards (last : ℕ) (order : List ℕ) : Type 0 where
  pub all : (before : ℕ) → before ≤ last → In order before
  pub only : (before : ℕ) → In order before → before ≤ last
  pub once : AreApart order
