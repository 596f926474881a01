-- Options before operands (XBD 12.2): words of a hyphen and letters, up to a word `--`, which is dropped, or
-- to the first other word.
use Rattle.std.specs.Prelude.{ℕ, List, [], ◌∷◌, ◌==◌, Bool, Option, Some, None, codes, if◌then◌else◌}
use Rattle.std.specs.List.{list_all, list_any}
use Rattle.std.specs.Str.{bytes_eq}

-- a hyphen alone is an operand
abbrev pub some_letters : List ℕ → Option (List ℕ)
some_letters [] = None
some_letters (letter ∷ letters) = Some (letter ∷ letters)

abbrev pub letters_of : List ℕ → Option (List ℕ)
letters_of [] = None
letters_of (b ∷ bs) = if b == 45 then some_letters bs else None

abbrev pub is_among : List ℕ → ℕ → Bool
is_among allowed letter = list_any (λ it. it == letter) allowed

abbrev pub are_among : List ℕ → List ℕ → Bool
are_among allowed letters = list_all (is_among allowed) letters

-- the last of these letters or, where there is none, the last letter before them
abbrev pub last_letter : Option ℕ → List ℕ → Option ℕ
last_letter last [] = last
last_letter last (letter ∷ letters) = last_letter (Some letter) letters

-- the letter of the last option, and the operands
abbrev pub Parsed : Type 0
Parsed = Option ℕ × List (List ℕ)

abbrev pub word_parsed : List ℕ → Option ℕ → List ℕ → List (List ℕ) → Option (List ℕ) → (Option ℕ → Option Parsed) → Option Parsed
word_parsed allowed last word words None next = Some (last, word ∷ words)
word_parsed allowed last word words (Some letters) next = if are_among allowed letters then next (last_letter last letters) else None

-- after options whose last letter is `last`; none where a letter isn't among those allowed
abbrev pub parsed_behind : List ℕ → Option ℕ → List (List ℕ) → Option Parsed
parsed_behind allowed last [] = Some (last, [])
parsed_behind allowed last (word ∷ words) =
    if bytes_eq word (codes "--") then Some (last, words)
    else word_parsed allowed last word words (letters_of word) (λ letter. parsed_behind allowed letter words)

abbrev pub options_and_operands : List ℕ → List (List ℕ) → Option Parsed
options_and_operands allowed arguments = parsed_behind allowed None arguments
