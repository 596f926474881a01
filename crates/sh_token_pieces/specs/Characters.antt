-- Characters: what a text has once its joined lines are gone (XCU 2.2.1), and how they are written.
use Rattle.std.specs.Prelude.{◌≡◌, ◌⊎◌, ℕ, zero, suc, Bool, true, false, nat_eq, List, [], ◌∷◌, ◌++◌, if◌then◌else◌}
use Rattle.sh_token_pieces.specs.declared.character.Character.{Character}
use Rattle.sh_token_pieces.specs.declared.character.Character.TheVariants.{Plain, Quoted, Raw}

-- n joined lines: a backslash and a newline each
abbrev pub joins : ℕ → List ℕ
joins zero = []
joins (suc n) = 92 ∷ 10 ∷ joins n

-- the bytes are the character and then the rest. Joined lines may come before a character that isn't raw.
-- A backslash always belongs to the byte after it; as the last byte of the input it stands for itself.
abbrev pub Reads : Bool → Character → List ℕ → List ℕ → Type 0
Reads e (Plain b) bytes rest =
    (n : ℕ) × (bytes ≡ joins n ++ (b ∷ rest)) × ((nat_eq b 92 ≡ false) ⊎ ((b ≡ 92) × (e ≡ true) × (rest ≡ [])))
Reads e (Quoted b) bytes rest = (n : ℕ) × (bytes ≡ joins n ++ (92 ∷ b ∷ rest)) × (nat_eq b 10 ≡ false)
Reads e (Raw b) bytes rest = bytes ≡ b ∷ rest

-- the bytes are these characters, one after another, and then the rest
abbrev pub Written : Bool → List Character → List ℕ → List ℕ → Type 0
Written e [] bytes rest = bytes ≡ rest
Written e (c ∷ cs) bytes rest = (middle : List ℕ) × Reads e c bytes middle × Written e cs middle rest

-- what comes next in a text: a character, the end of the input, or what isn't known yet
pub data Ahead : Type 0 where
  Next : (c : Character) → Ahead
  InputEnd : Ahead
  Unknown : Ahead

-- what comes next in these bytes, after a backslash if h; e: they are the last of the input
abbrev pub ahead_behind : Bool → Bool → List ℕ → Ahead
ahead_behind e false [] = if e then InputEnd else Unknown
ahead_behind e true [] = if e then Next (Plain 92) else Unknown
ahead_behind e false (b ∷ bs) = if nat_eq b 92 then ahead_behind e true bs else Next (Plain b)
ahead_behind e true (b ∷ bs) = if nat_eq b 10 then ahead_behind e false bs else Next (Quoted b)

-- what comes next in these bytes, joined lines left out
abbrev pub ahead : Bool → List ℕ → Ahead
ahead e bytes = ahead_behind e false bytes

-- what comes next where these characters come first
abbrev pub first_of : List Character → Ahead → Ahead
first_of [] next = next
first_of (c ∷ cs) next = Next c

-- the next character is a byte, unquoted, that passes the test
abbrev pub next_is : (ℕ → Bool) → Ahead → Bool
next_is f (Next (Plain b)) = f b
next_is f (Next (Quoted b)) = false
next_is f (Next (Raw b)) = false
next_is f InputEnd = false
next_is f Unknown = false

-- bytes that stand for themselves, as characters
abbrev pub plain : List ℕ → List Character
plain [] = []
plain (b ∷ bs) = Plain b ∷ plain bs

abbrev pub raw : List ℕ → List Character
raw [] = []
raw (b ∷ bs) = Raw b ∷ raw bs
