-- What a search for a path answers in a list of entries: the place of the path, or the place where it
-- belongs.
use Rattle.std.specs.Prelude.{◌≡◌, ℕ, ◌<◌, ◌≤◌, List, length, MatchResult, Result}
use Rattle.std.specs.List.{HoldsAt}
use Rattle.std.specs.List.Sorted.{IsPartitionPoint}
use Rattle.std.specs.Ordering.{nat_cmp}
use Rattle.std.specs.declared.cmp.Ordering.TheVariants.{Less, Greater}
use Rattle.std.specs.Cmp.Lexicographic.{slice_cmp}

abbrev pub Entries : Type 0
Entries = List (List ℕ × ℕ)

-- `Ok i`: the path is at i; `Err i`: the paths before i come before it, and those from i on come after it
abbrev pub IsPlace : Entries → List ℕ → Result ℕ ℕ → Type 0
IsPlace entries path place =
    MatchResult place
    (λ i. (i < length entries) × HoldsAt (λ e. e.0 ≡ path) entries i)
    (λ i. (i ≤ length entries) × IsPartitionPoint (λ e. slice_cmp nat_cmp e.0 path ≡ Less) (λ e. slice_cmp nat_cmp e.0 path ≡ Greater) entries i)
