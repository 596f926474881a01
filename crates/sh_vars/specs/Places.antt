-- What a search for a name in a list of entries answers: the index of the name, or the index where it
-- belongs.
use Rattle.std.specs.Prelude.{◌≡◌, ℕ, ◌<◌, ◌≤◌, List, length, MatchResult, Result, slice_get, unwrap_or, Some}
use Rattle.std.specs.List.{HoldsAt}
use Rattle.std.specs.List.Sorted.{IsPartitionPoint}
use Rattle.std.specs.Ordering.{nat_cmp}
use Rattle.std.specs.declared.cmp.Ordering.TheVariants.{Less, Greater}
use Rattle.std.specs.Cmp.Lexicographic.{slice_cmp}
use Rattle.std.specs.FinMap.{find, put}
use Rattle.sh_vars.specs.Environment.{Variable, absent}

abbrev pub Entries : Type 0
Entries = List (List ℕ × Variable)

-- `Ok i`: the entry at index i has the name; `Err i`: the names before i sort before it, and those from i on
-- after it
abbrev pub IsPlace : Entries → List ℕ → Result ℕ ℕ → Type 0
IsPlace entries name place =
    MatchResult place
    (λ i. (i < length entries) × HoldsAt (λ e. e.0 ≡ name) entries i)
    (λ i. (i ≤ length entries) × IsPartitionPoint (λ e. slice_cmp nat_cmp e.0 name ≡ Less) (λ e. slice_cmp nat_cmp e.0 name ≡ Greater) entries i)

-- the variable of this name is at index i; where there was none, it was added without value and attributes
abbrev pub IsHeld : Entries → List ℕ → Entries → ℕ → Type 0
IsHeld old name new i =
    (new ≡ put (slice_cmp nat_cmp) name (unwrap_or (find (slice_cmp nat_cmp) name old) absent) old)
    × (slice_get new i ≡ Some (name, unwrap_or (find (slice_cmp nat_cmp) name old) absent))
