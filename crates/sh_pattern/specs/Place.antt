-- The state of a search for a match.
use Rattle.std.specs.Prelude.{ℕ, ◌+◌, ◌-◌, ◌*◌, ◌≤◌, List, length, drop}
use Rattle.sh_pattern.specs.declared.pattern_byte.PatternByte.{PatternByte}
use Rattle.sh_pattern.specs.declared.search.Place.{Place}
use Rattle.sh_pattern.specs.Match.{Element, AreMatched, elements}

-- the elements of a pattern from an index on
abbrev pub from : List PatternByte → ℕ → List Element
from p i = elements 0 (drop i p)

-- the elements from `star` to `at` take the bytes from `from` to `byte`. `on`: in any text that the elements
-- from `star` match, they take as many bytes. `back`: a match of what follows them is a match of all from
-- `star`
pub record IsPlaced (p : List PatternByte) (t : List ℕ) (s : Place) : Type 0 where
  pub star : s.star ≤ s.at
  pub end : s.at ≤ length p
  pub byte_end : s.byte ≤ length t
  pub byte_from : s.from ≤ s.byte
  pub on : (u : List ℕ) → AreMatched (from p s.star) u → AreMatched (from p s.at) (drop (s.byte - s.from) u)
  pub back : AreMatched (from p s.at) (drop s.byte t) → AreMatched (from p s.star) (drop s.from t)

-- the last `*` and the pattern after it match the text from `from` on
abbrev pub Reached : List PatternByte → List ℕ → Place → Type 0
Reached p t s = (k : ℕ) × AreMatched (from p s.star) (drop k (drop s.from t))

-- how many steps are left at most
abbrev pub work : List PatternByte → List ℕ → Place → ℕ
work p t s = (length t + 1 - s.from) * (length p + 1) + (length p - s.at)
