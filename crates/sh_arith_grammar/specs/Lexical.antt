-- What an arithmetic text is made of: blanks, words (names and constants) and operators (XCU 2.6.4, C 6.4).
use Rattle.std.specs.Prelude.{ℕ, zero, suc, ◌+◌, ◌-◌, Bool, true, false, ◌&&◌, ◌||◌, nat_eq, nat_lt, List, [], ◌∷◌, take, drop, length, Option, Some, None, if◌then◌else◌}
use Rattle.std.specs.Char.{is_ascii_digit}
use Rattle.sh_grammar.specs.declared.Token.{Token}
use Rattle.sh_base.specs.Names.{continues_name}
use Rattle.sh_arith_grammar.specs.Constants.{is_constant}
use Rattle.sh_arith_grammar.specs.Classes.{constant_class, name_class, first_operator, unknown_class, spellings}

-- space, tab, newline
abbrev pub is_blank : ℕ → Bool
is_blank b = nat_eq b 32 || (nat_eq b 9 || nat_eq b 10)

-- how many letters, digits and underscores a text begins with
abbrev pub word_length : List ℕ → ℕ
word_length [] = 0
word_length (b ∷ bytes) = if continues_name b then word_length bytes + 1 else 0

-- the word that a text begins with
abbrev pub first_word : List ℕ → List ℕ
first_word text = take (word_length text) text

-- the word at a place of a text
abbrev pub word_at : List ℕ → ℕ → List ℕ
word_at text place = first_word (drop place text)

abbrev pub begins_with : List ℕ → List ℕ → Bool
begins_with [] text = true
begins_with (s ∷ spelling) [] = false
begins_with (s ∷ spelling) (b ∷ text) = nat_eq b s && begins_with spelling text

-- the first of the spellings that the text begins with: its number, counted from n, and its length
abbrev pub first_spelling : ℕ → List (List ℕ) → List ℕ → Option (ℕ × ℕ)
first_spelling n [] text = None
first_spelling n (s ∷ others) text = if begins_with s text then Some (n, length s) else first_spelling (n + 1) others text

abbrev pub begins_with_digit : List ℕ → Bool
begins_with_digit [] = false
begins_with_digit (b ∷ bytes) = is_ascii_digit b

-- a word that begins with a digit is a constant, or a token that no expression has
abbrev pub word_class : List ℕ → ℕ
word_class word = if begins_with_digit word then (if is_constant word then constant_class else unknown_class) else name_class

-- where no operator begins, one byte is a token that no expression has
abbrev pub operator_head : Option (ℕ × ℕ) → ℕ × ℕ
operator_head None = (unknown_class, 1)
operator_head (Some found) = (first_operator + found.0, found.1)

-- the longest token that a text begins with: its class and its length
unfoldable pub head : List ℕ → ℕ × ℕ
head text =
    if nat_lt 0 (word_length text) then (word_class (first_word text), word_length text)
    else operator_head (first_spelling 0 spellings text)

-- the tokens of the bytes from a place on, without the first `skipped` bytes; each token has its place as its
-- id
abbrev pub tokens_from : ℕ → ℕ → List ℕ → List Token
tokens_from place skipped [] = []
tokens_from place (suc skipped) (b ∷ bytes) = tokens_from (place + 1) skipped bytes
tokens_from place zero (b ∷ bytes) =
    if is_blank b then tokens_from (place + 1) 0 bytes
    else (record { class = (head (b ∷ bytes)).0; id = place }) ∷ tokens_from (place + 1) ((head (b ∷ bytes)).1 - 1) bytes

-- the tokens of a text
abbrev pub tokens_of : List ℕ → List Token
tokens_of text = tokens_from 0 0 text
