-- The tables of descriptors of the processes (XBD 3.141), each under its process's number.
use Rattle.std.specs.Prelude.{◌≡◌, ◌≢◌, ◌+◌, ◌≤◌, ◌==◌, ◌++◌, ℕ, List, [], ◌∷◌, filter, ⊤, Bool, Some, Vec, vec_capacity, vec_len}
use Rattle.std.specs.BTreeMap.{is_at}
use Rattle.std.specs.Map.{lookup}
use Rattle.std.specs.Ordering.{nat_cmp}
use Rattle.sh_kernel_descriptors.specs.Kept.{Within, listed, named}
use Rattle.sh_kernel_descriptors.specs.Counts.{copies}
use Rattle.sh_kernel_descriptors.specs.Starting.{to_terminal}
use Rattle.sh_kernel_descriptors.specs.declared.descriptor.Descriptor.{Descriptor}
use Rattle.sh_kernel_descriptors.specs.declared.kept.Held.{Held}

module _ {Y : Type 0} where
  -- one table after another
  abbrev pub held_in : List (ℕ × Vec Held Y) → List Held
  held_in [] = []
  held_in (e ∷ es) = e.1.items ++ held_in es

-- ---- descriptors by process
abbrev pub is_of : ℕ → Descriptor → Bool
is_of pid d = d.pid == pid

abbrev pub own : ℕ → List Descriptor → List Descriptor
own pid ds = filter (is_of pid) ds

module _ {Y : Type 0} where
  -- in each table there are descriptors of its process alone
  abbrev pub AreOwn : List (ℕ × Vec Held Y) → Type 0
  AreOwn [] = ⊤
  AreOwn (e ∷ es) = (own e.0 (listed e.1.items) ≡ listed e.1.items) × AreOwn es

  -- the process has a table, with room for so many descriptors more
  abbrev pub HasRoom : List (ℕ × Vec Held Y) → ℕ → ℕ → Type 0
  HasRoom es pid n = (t : Vec Held Y) × (lookup (is_at (nat_cmp pid)) es ≡ Some t) × (vec_len t + n ≤ vec_capacity t)

-- each process has the same descriptors in the same order
abbrev pub SameTables : List Descriptor → List Descriptor → Type 0
SameTables ds ds' = (pid : ℕ) → own pid ds ≡ own pid ds'

-- a process's descriptors are these now, and those of the others are as they were
pub record Changes (pid : ℕ) (old new : List Held) (table : List Descriptor) : Type 0 where
  pub its : own pid (listed new) ≡ table
  pub others : (q : ℕ) → q ≢ pid → own q (listed new) ≡ own q (listed old)

-- the same descriptors, in another order
pub record SameHeld (xs ys : List Held) : Type 0 where
  pub counts : (k : ℕ) → named k xs ≡ named k ys
  pub front : Within xs ys
  pub back : Within ys xs

-- what a fork copies of a process's table
abbrev pub CopiesOf : List Held → ℕ → ℕ → List Held → Type 0
CopiesOf all pid child copied = (hs : List Held) × (copied ≡ copies hs pid child) × (listed hs ≡ own pid (listed all)) × Within hs all

-- the first process's descriptors of the terminal
abbrev pub first_held : ℕ → List Held
first_held key = record { descriptor = to_terminal 0; key = key } ∷ record { descriptor = to_terminal 1; key = key } ∷ record { descriptor = to_terminal 2; key = key } ∷ []
