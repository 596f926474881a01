-- When a pattern matches a text (XCU 2.14): a relation by cases on the pattern's first element. A mark is a
-- byte of a pattern, quoted or not.
use Rattle.std.specs.Prelude.{◌≡◌, ℕ, zero, suc, ◌+◌, ◌-◌, ◌<◌, ◌≤◌, List, [], ◌∷◌, Bool, true, false, ◌==◌, IsTrue, drop, take, length, Option, Some, None, MatchOption, if◌then◌else◌}
use Rattle.sh_pattern.specs.declared.pattern_byte.PatternByte.{PatternByte}
use Rattle.sh_pattern.specs.declared.element.Kind.{Kind}
use Rattle.sh_pattern.specs.declared.element.Kind.TheVariants.{Star, Any, Byte, Bracket}
use Rattle.sh_pattern.specs.Items.{close_of, list_has}

-- a `[` that isn't closed matches itself; the number is how many marks are between a `[` and its `]`
abbrev pub bracket_kind : Option ℕ → Kind
bracket_kind None = Byte 91
bracket_kind (Some n) = Bracket

abbrev pub bracket_skip : Option ℕ → ℕ
bracket_skip None = 0
bracket_skip (Some n) = n + 1

-- the kind of the element that begins with an unquoted byte, or with a mark (2.14.1)
abbrev pub bare_kind : ℕ → List PatternByte → Kind
bare_kind b behind =
    if b == 42 then Star
    else if b == 63 then Any
    else if b == 91 then bracket_kind (close_of behind)
    else Byte b

abbrev pub read_kind : PatternByte → List PatternByte → Kind
read_kind m behind = if m.literal then Byte m.byte else bare_kind m.byte behind

-- how many marks after that first one belong to the element
abbrev pub bare_skip : ℕ → List PatternByte → ℕ
bare_skip b behind = if b == 91 then bracket_skip (close_of behind) else 0

abbrev pub read_skip : PatternByte → List PatternByte → ℕ
read_skip m behind = if m.literal then 0 else bare_skip m.byte behind

-- an element: its kind, and its marks after the first one
pub record Element : Type 0 where
  pub kind : Kind
  pub inside : List PatternByte

-- the elements of a pattern; its first k marks belong to an earlier element
abbrev pub elements : ℕ → List PatternByte → List Element
elements k [] = []
elements zero (m ∷ ms) = record { kind = read_kind m ms; inside = take (read_skip m ms) ms } ∷ elements (read_skip m ms) ms
elements (suc k) (m ∷ ms) = elements k ms

-- whether an element other than `*` takes a byte
abbrev pub one_of : Kind → List PatternByte → ℕ → Bool
one_of Star inside b = false
one_of Any inside b = true
one_of (Byte c) inside b = b == c
one_of Bracket inside b = list_has inside b

-- a text whose first byte passes `takes`, and for whose other bytes `Rest` holds
abbrev pub Begins : (ℕ → Bool) → (List ℕ → Type 0) → List ℕ → Type 0
Begins takes Rest [] = ⊥
Begins takes Rest (b ∷ t) = IsTrue (takes b) × Rest t

-- a text that begins with what an element of this kind matches, and for the text after that `Rest` holds; `*`
-- takes any number of bytes
abbrev pub First : Kind → List PatternByte → (List ℕ → Type 0) → List ℕ → Type 0
First Star inside Rest t = (k : ℕ) × Rest (drop k t)
First Any inside Rest t = Begins (one_of Any inside) Rest t
First (Byte c) inside Rest t = Begins (one_of (Byte c) inside) Rest t
First Bracket inside Rest t = Begins (one_of Bracket inside) Rest t

abbrev pub AreMatched : List Element → List ℕ → Type 0
AreMatched [] t = t ≡ []
AreMatched (e ∷ p) t = First e.kind e.inside (AreMatched p) t

-- a pattern matches a text
abbrev pub Matches : List PatternByte → List ℕ → Type 0
Matches p t = AreMatched (elements 0 p) t

abbrev pub is_star : Kind → Bool
is_star Star = true
is_star Any = false
is_star (Byte c) = false
is_star Bracket = false

-- the prefix and the suffix of a text that have this length
abbrev pub prefix : List ℕ → ℕ → List ℕ
prefix t n = take n t

abbrev pub suffix : List ℕ → ℕ → List ℕ
suffix t n = drop (length t - n) t

-- the length of the shortest part with at most `most` bytes that the pattern matches, `None` where there is
-- none
abbrev pub IsShortest : List PatternByte → (ℕ → List ℕ) → ℕ → Option ℕ → Type 0
IsShortest p part most result =
    MatchOption result ((n : ℕ) → n ≤ most → Matches p (part n) → ⊥)
    (λ n. (n ≤ most) × Matches p (part n) × ((m : ℕ) → m < n → Matches p (part m) → ⊥))

-- the same of the longest part
abbrev pub IsLongest : List PatternByte → (ℕ → List ℕ) → ℕ → Option ℕ → Type 0
IsLongest p part most result =
    MatchOption result ((n : ℕ) → n ≤ most → Matches p (part n) → ⊥)
    (λ n. (n ≤ most) × Matches p (part n) × ((m : ℕ) → n < m → m ≤ most → Matches p (part m) → ⊥))
