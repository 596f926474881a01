-- The terminal (XBD 11): the list of all that happened to it, the newest first, and what that makes of it.
use Rattle.std.specs.Prelude.{ℕ, List, [], ◌∷◌, ◌++◌}
use Rattle.sh_tty.specs.declared.entry.Entry.{Entry}
use Rattle.sh_tty.specs.declared.key.Key.{Key}
use Rattle.sh_tty.specs.declared.key.Key.TheVariants.{Newline, EndOfFile, Erase, Raise, Text, Dropped}
use Rattle.sh_tty.specs.Keys.{key_of, echo, line_after, new_entries, entries_after_read}

pub data Happening : Type 0 where
  -- a key came
  Typed : (byte : ℕ) → Happening
  -- the unread input was thrown away
  Discarded : Happening
  -- a read of up to so many bytes took what there was
  Took : (count : ℕ) → Happening
  -- a process wrote
  Wrote : (bytes : List ℕ) → Happening

-- the line that is being typed
abbrev pub line_of : List Happening → List ℕ
line_of [] = []
line_of (Typed b ∷ hs) = line_after (key_of b) (line_of hs)
line_of (Discarded ∷ hs) = []
line_of (Took n ∷ hs) = line_of hs
line_of (Wrote bs ∷ hs) = line_of hs

-- what was handed over and is unread: lines and ends of file, in order
abbrev pub entries_of : List Happening → List Entry
entries_of [] = []
entries_of (Typed b ∷ hs) = entries_of hs ++ new_entries (key_of b) (line_of hs)
entries_of (Discarded ∷ hs) = []
entries_of (Took n ∷ hs) = entries_after_read n (entries_of hs)
entries_of (Wrote bs ∷ hs) = entries_of hs

-- the terminal's bytes: what was written, and the echo of the keys
abbrev pub bytes_of : List Happening → List ℕ
bytes_of [] = []
bytes_of (Typed b ∷ hs) = bytes_of hs ++ echo (key_of b) (line_of hs)
bytes_of (Discarded ∷ hs) = bytes_of hs
bytes_of (Took n ∷ hs) = bytes_of hs
bytes_of (Wrote bs ∷ hs) = bytes_of hs ++ bs

-- a key happens; one that raises a signal throws the unread input away
abbrev pub discards : Key → List Happening → List Happening
discards Newline hs = hs
discards EndOfFile hs = hs
discards Erase hs = hs
discards (Raise key) hs = Discarded ∷ hs
discards (Text b) hs = hs
discards Dropped hs = hs

abbrev pub after_key : ℕ → List Happening → List Happening
after_key b hs = discards (key_of b) (Typed b ∷ hs)
