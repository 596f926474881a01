-- What characters in a row take of a text.
use Rattle.std.proofs.Common.{◌≡◌, ℕ, zero, suc, List, [], ◌∷◌, ◌++◌, refl, ap, ◌∙◌, length, drop}
use Rattle.sh_token_pieces.specs.declared.character.Character.TheVariants.{Raw}
use Rattle.sh_token_pieces.specs.Characters.{plain, raw}
use Rattle.sh_parse_words.specs.Places.{behind_joins, behind_characters, behind_plain}

pub plain_is : (bs : List ℕ) (bytes : List ℕ) → behind_characters (plain bs) bytes ≡ behind_plain (length bs) bytes
plain_is [] bytes = refl
plain_is (b ∷ bs) bytes = plain_is bs (drop 1 (behind_joins bytes))

abbrev none : List ℕ
none = []

pub drop_nil : (n : ℕ) → drop n none ≡ []
drop_nil zero = refl
drop_nil (suc n) = refl

pub drop_more : (n : ℕ) (bytes : List ℕ) → drop n (drop 1 bytes) ≡ drop (suc n) bytes
drop_more n [] = drop_nil n
drop_more n (b ∷ bytes) = refl

pub raw_is : (bs : List ℕ) (bytes : List ℕ) → behind_characters (raw bs) bytes ≡ drop (length bs) bytes
raw_is [] bytes = refl
raw_is (b ∷ bs) bytes = raw_is bs (drop 1 bytes) ∙ drop_more (length bs) bytes

-- with a closing byte
pub raw_closed : (bs : List ℕ) (c : ℕ) (bytes : List ℕ) → behind_characters (raw bs ++ Raw c ∷ []) bytes ≡ drop 1 (drop (length bs) bytes)
raw_closed [] c bytes = refl
raw_closed (b ∷ bs) c bytes = raw_closed bs c (drop 1 bytes) ∙ ap (drop 1) (drop_more (length bs) bytes)
