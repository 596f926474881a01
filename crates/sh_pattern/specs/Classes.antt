-- The character classes of the POSIX locale (XBD 7.3.1), in which a character is a byte.
use Rattle.std.specs.Prelude.{ℕ, Bool, ◌||◌, ◌&&◌, ◌==◌, not, nat_le}
use Rattle.sh_pattern.specs.declared.class.Class.{Class}
use Rattle.sh_pattern.specs.declared.class.Class.TheVariants.{Alnum, Alpha, Blank, Cntrl, Digit, Graph, Lower, Print, Punct, Space, Upper, Xdigit}

-- from low to high
abbrev pub is_between : ℕ → ℕ → ℕ → Bool
is_between low high b = nat_le low b && nat_le b high

abbrev pub is_letter : ℕ → Bool
is_letter b = is_between 65 90 b || is_between 97 122 b

-- whether a class has a byte
abbrev pub has : Class → ℕ → Bool
has Alnum b = is_letter b || is_between 48 57 b
has Alpha b = is_letter b
has Blank b = b == 32 || b == 9
has Cntrl b = nat_le b 31 || b == 127
has Digit b = is_between 48 57 b
has Graph b = is_between 33 126 b
has Lower b = is_between 97 122 b
has Print b = is_between 32 126 b
has Punct b = is_between 33 126 b && not (is_letter b || is_between 48 57 b)
has Space b = is_between 9 13 b || b == 32
has Upper b = is_between 65 90 b
has Xdigit b = is_between 48 57 b || (is_between 65 70 b || is_between 97 102 b)
