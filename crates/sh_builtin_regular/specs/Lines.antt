-- The bytes of a line that `read` reads (XCU read).
use Rattle.std.specs.Prelude.{ℕ, List, [], ◌∷◌, ◌++◌, ◌==◌, ◌&&◌, not, Bool, true, false, if◌then◌else◌}
use Rattle.sh_builtin_regular.specs.declared.reader.LineReader.{LineReader}

-- whether a line is over, and what there is of it then
pub record Progress : Type 0 where
  pub over : Bool
  pub reader : LineReader

abbrev pub going_on : LineReader → Progress
going_on reader = record { over = false; reader = reader }

abbrev pub with_byte : LineReader → (literal : Bool) → ℕ → LineReader
with_byte reader literal byte =
    record reader { line = reader.line ++ record { byte = byte; literal = literal } ∷ []; escaped = false }

-- behind a backslash a newline joins two lines, and any other byte stands for itself
abbrev pub behind_backslash : LineReader → ℕ → Progress
behind_backslash reader byte =
    going_on (if byte == 10 then record reader { escaped = false } else with_byte reader true byte)

-- a newline ends the line; a backslash quotes the next byte, but with -r
abbrev pub plain_byte : LineReader → ℕ → Progress
plain_byte reader byte =
    if byte == 10 then record { over = true; reader = reader }
    else if byte == 92 && not reader.raw then going_on (record reader { escaped = true })
    else going_on (with_byte reader false byte)

-- a NUL is dropped
abbrev pub byte_taken : LineReader → ℕ → Progress
byte_taken reader byte =
    if byte == 0 then going_on reader
    else if reader.escaped then behind_backslash reader byte
    else plain_byte reader byte

-- bytes behind the newline are no part of the line
abbrev pub behind : Progress → (LineReader → Progress) → Progress
behind p next = if p.over then p else next p.reader

abbrev pub bytes_taken : LineReader → List ℕ → Progress
bytes_taken reader [] = going_on reader
bytes_taken reader (byte ∷ bytes) = behind (byte_taken reader byte) (λ reader. bytes_taken reader bytes)
