-- What a terminal keeps, and which happenings make that.
use Rattle.std.specs.Prelude.{◌≡◌, ℕ, List, [], ◌++◌}
use Rattle.sh_tty.specs.declared.entry.Entry.{Entry}
use Rattle.sh_tty.specs.declared.key.Key.{Key}
use Rattle.sh_tty.specs.declared.key.Key.TheVariants.{Newline, EndOfFile, Erase, Raise, Text, Dropped}
use Rattle.sh_tty.specs.Keys.{line_after, new_entries}
use Rattle.sh_tty.specs.Happenings.{Happening, line_of, entries_of, bytes_of}

pub record TtyKept : Type 0 where
  pub bytes : List ℕ
  pub entries : List Entry
  pub line : List ℕ
  -- the number of the foreground process group
  pub foreground : ℕ

-- what is kept is that of these happenings
pub record StandsAt (kept : TtyKept) (hs : List Happening) : Type 0 where
  pub bytes : kept.bytes ≡ bytes_of hs
  pub entries : kept.entries ≡ entries_of hs
  pub line : kept.line ≡ line_of hs

-- what is kept of the line and of the entries after a key
abbrev pub kept_line : Key → List ℕ → List ℕ
kept_line Newline line = line_after Newline line
kept_line EndOfFile line = line_after EndOfFile line
kept_line Erase line = line_after Erase line
kept_line (Raise key) line = []
kept_line (Text b) line = line_after (Text b) line
kept_line Dropped line = line_after Dropped line

abbrev pub kept_entries : Key → List Entry → List ℕ → List Entry
kept_entries Newline entries line = entries ++ new_entries Newline line
kept_entries EndOfFile entries line = entries ++ new_entries EndOfFile line
kept_entries Erase entries line = entries ++ new_entries Erase line
kept_entries (Raise key) entries line = []
kept_entries (Text b) entries line = entries ++ new_entries (Text b) line
kept_entries Dropped entries line = entries ++ new_entries Dropped line

-- the terminal's bytes still begin with the earlier ones
abbrev pub Extends : List ℕ → List ℕ → Type 0
Extends old new = (more : List ℕ) × (new ≡ old ++ more)
