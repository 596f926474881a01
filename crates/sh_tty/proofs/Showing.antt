-- What the terminal shows of a key.
use Rattle.std.proofs.Common.{◌≡◌, ℕ, List, ◌∷◌, ◌++◌, refl}
use Rattle.sh_tty.specs.Happenings.{Happening, Typed, after_key, bytes_of, discards, line_of}
use Rattle.sh_tty.specs.Keys.{echo, key_of}
use Rattle.sh_tty.specs.declared.key.Key.{Key}
use Rattle.sh_tty.specs.declared.key.Key.TheVariants.{Newline, EndOfFile, Erase, Raise, Text, Dropped}

discards_show : (key : Key) (hs : List Happening) → bytes_of (discards key hs) ≡ bytes_of hs
discards_show Newline hs = refl
discards_show EndOfFile hs = refl
discards_show Erase hs = refl
discards_show (Raise signal) hs = refl
discards_show (Text byte) hs = refl
discards_show Dropped hs = refl

-- its echo comes behind what the terminal shows
pub key_shows : (byte : ℕ) (hs : List Happening) → bytes_of (after_key byte hs) ≡ bytes_of hs ++ echo (key_of byte) (line_of hs)
key_shows byte hs = discards_show (key_of byte) (Typed byte ∷ hs)
