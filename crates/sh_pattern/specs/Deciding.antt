-- The relations of `Match.antt` as functions: whether a pattern matches a text, and how long the parts are
-- that it matches. The laws `matching_is_decided` and `parts_are_decided` tie the functions to the relations.
use Rattle.std.specs.Prelude.{ℕ, zero, suc, List, [], ◌∷◌, Bool, true, false, ◌&&◌, ◌||◌, Option, Some, None, if◌then◌else◌}
use Rattle.sh_pattern.specs.declared.pattern_byte.PatternByte.{PatternByte}
use Rattle.sh_pattern.specs.declared.element.Kind.{Kind}
use Rattle.sh_pattern.specs.declared.element.Kind.TheVariants.{Star, Any, Byte, Bracket}
use Rattle.sh_pattern.specs.Match.{Element, elements, one_of}

-- whether some suffix of a text passes the test `rest`
abbrev pub some_end : (List ℕ → Bool) → List ℕ → Bool
some_end rest [] = rest []
some_end rest (b ∷ t) = rest (b ∷ t) || some_end rest t

abbrev pub begins : (ℕ → Bool) → (List ℕ → Bool) → List ℕ → Bool
begins takes rest [] = false
begins takes rest (b ∷ t) = takes b && rest t

-- whether a text begins with what an element of this kind matches, and the text after that passes `rest`
abbrev pub first : Kind → List PatternByte → (List ℕ → Bool) → List ℕ → Bool
first Star inside rest t = some_end rest t
first Any inside rest t = begins (one_of Any inside) rest t
first (Byte c) inside rest t = begins (one_of (Byte c) inside) rest t
first Bracket inside rest t = begins (one_of Bracket inside) rest t

abbrev pub is_empty : List ℕ → Bool
is_empty [] = true
is_empty (b ∷ t) = false

abbrev pub are_matched : List Element → List ℕ → Bool
are_matched [] t = is_empty t
are_matched (e ∷ p) t = first e.kind e.inside (are_matched p) t

-- whether a pattern matches a text
unfoldable pub is_match : List PatternByte → List ℕ → Bool
is_match p t = are_matched (elements 0 p) t

abbrev pub or_number : Option ℕ → Bool → ℕ → Option ℕ
or_number (Some n) passes m = Some n
or_number None passes m = if passes then Some m else None

-- the least number up to a limit that passes a test, and the greatest
abbrev pub least : (ℕ → Bool) → ℕ → Option ℕ
least test zero = if test 0 then Some 0 else None
least test (suc n) = or_number (least test n) (test (suc n)) (suc n)

abbrev pub greatest : (ℕ → Bool) → ℕ → Option ℕ
greatest test zero = if test 0 then Some 0 else None
greatest test (suc n) = if test (suc n) then Some (suc n) else greatest test n

-- the lengths of the shortest and the longest part with at most `most` bytes that the pattern matches
unfoldable pub shortest : List PatternByte → (ℕ → List ℕ) → ℕ → Option ℕ
shortest p part most = least (λ n. is_match p (part n)) most

unfoldable pub longest : List PatternByte → (ℕ → List ℕ) → ℕ → Option ℕ
longest p part most = greatest (λ n. is_match p (part n)) most
