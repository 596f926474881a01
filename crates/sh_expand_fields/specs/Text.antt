-- A field as text (quote removal, XCU 2.6.7) and as a pattern (2.14.1).
use Rattle.std.specs.Prelude.{ℕ, List, [], ◌∷◌, ◌==◌, Bool, true, false, if◌then◌else◌}
use Rattle.sh_pattern.specs.declared.pattern_byte.PatternByte.{PatternByte}
use Rattle.sh_expand_fields.specs.declared.item.Item.{Item}
use Rattle.sh_expand_fields.specs.declared.item.Item.TheVariants.{Literal, Quoted, Expanded, Null, Break}

-- the bytes of a field
abbrev pub text_of : List Item → List ℕ
text_of [] = []
text_of (Literal b ∷ xs) = b ∷ text_of xs
text_of (Quoted b ∷ xs) = b ∷ text_of xs
text_of (Expanded b ∷ xs) = b ∷ text_of xs
text_of (Null ∷ xs) = text_of xs
text_of (Break ∷ xs) = text_of xs

abbrev pub mark : ℕ → Bool → PatternByte
mark b literal = record { byte = b; literal = literal }

-- quoted bytes are literal, others are not. A backslash that an expansion gave makes the next byte literal;
-- where no byte follows, the backslash is a literal byte. The first argument says whether such a backslash
-- comes right before
abbrev pub marks : Bool → List Item → List PatternByte
marks true [] = mark 92 true ∷ []
marks false [] = []
marks escaped (Literal b ∷ xs) = mark b escaped ∷ marks false xs
marks escaped (Quoted b ∷ xs) = mark b true ∷ marks false xs
marks true (Expanded b ∷ xs) = mark b true ∷ marks false xs
marks false (Expanded b ∷ xs) = if b == 92 then marks true xs else mark b false ∷ marks false xs
marks escaped (Null ∷ xs) = marks escaped xs
marks escaped (Break ∷ xs) = marks escaped xs

abbrev pub marks_of : List Item → List PatternByte
marks_of field = marks false field
