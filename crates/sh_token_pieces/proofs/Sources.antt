-- The bytes of pieces.
use Rattle.std.proofs.Common.{◌≡◌, List, ℕ, [], ◌∷◌, ◌++◌, refl, ap}
use Rattle.sh_token_pieces.specs.declared.character.Character.{Character}
use Rattle.sh_token_pieces.specs.Characters.{plain, raw}
use Rattle.sh_token_pieces.specs.Here.{bytes_of}

pub plain_bytes : (bs : List ℕ) → bytes_of (plain bs) ≡ bs
plain_bytes [] = refl
plain_bytes (b ∷ bs) = ap (λ z. b ∷ z) (plain_bytes bs)

pub raw_bytes : (bs : List ℕ) → bytes_of (raw bs) ≡ bs
raw_bytes [] = refl
raw_bytes (b ∷ bs) = ap (λ z. b ∷ z) (raw_bytes bs)

pub raw_before : (bs : List ℕ) (cs : List Character) → bytes_of (raw bs ++ cs) ≡ bs ++ bytes_of cs
raw_before [] cs = refl
raw_before (b ∷ bs) cs = ap (λ z. b ∷ z) (raw_before bs cs)
