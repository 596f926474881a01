-- The lines of an image of files, and their fields.
use Rattle.std.specs.Prelude.{ℕ, suc, ◌+◌, ◌-◌, List, [], ◌∷◌, ◌&&◌, ◌==◌, not, Bool, true, false, if◌then◌else◌, Option, Some, None, option_map, position, length, nat_eq, take, drop}
use Rattle.std.specs.Char.{is_ascii_digit}
use Rattle.sh_base.specs.Decimals.{at_most, value_of}
use Rattle.std.specs.List.{list_all, starts_with}
use Rattle.sh_files_image.specs.declared.node.Flags.{Flags}

-- ---- lines and fields
-- the first line, without its newline, and what comes after it; none where there is no newline
abbrev pub line_of : List ℕ → Option (List ℕ × List ℕ)
line_of bytes = option_map (λ i. (take i bytes, drop (i + 1) bytes)) (position (λ b. b == 10) bytes)

-- what follows a word that the line begins with
abbrev pub behind : List ℕ → List ℕ → Option (List ℕ)
behind word line = if starts_with nat_eq line word then Some (drop (length word) line) else None

abbrev pub further : ℕ → Option ℕ → Option ℕ
further byte (Some i) = Some (suc i)
further byte None = if byte == 32 then Some 0 else None

-- the place of the last space
abbrev pub last_space : List ℕ → Option ℕ
last_space [] = None
last_space (b ∷ bs) = further b (last_space bs)

-- what is before the last space, and what is after it
abbrev pub fields_of : List ℕ → Option (List ℕ × List ℕ)
fields_of line = option_map (λ i. (take i line, drop (i + 1) line)) (last_space line)

-- a letter says yes and a hyphen no
abbrev pub flag_of : ℕ → ℕ → Option Bool
flag_of letter byte = if byte == letter then Some true else if byte == 45 then Some false else None

abbrev pub flags_by : Option Bool → Option Bool → Option Bool → Option Flags
flags_by (Some read) (Some write) (Some execute) = Some (record { read = read; write = write; execute = execute })
flags_by (Some read) (Some write) None = None
flags_by (Some read) None execute = None
flags_by None write execute = None

-- three bytes: r or a hyphen, w or a hyphen, x or a hyphen
abbrev pub flags_of : List ℕ → Option Flags
flags_of (r ∷ w ∷ x ∷ []) = flags_by (flag_of 114 r) (flag_of 119 w) (flag_of 120 x)
flags_of (r ∷ w ∷ x ∷ y ∷ more) = None
flags_of (r ∷ w ∷ []) = None
flags_of (r ∷ []) = None
flags_of [] = None

-- a digit at least, and no zero before another
abbrev pub begins_well : List ℕ → Bool
begins_well [] = false
begins_well (d ∷ []) = true
begins_well (d ∷ e ∷ ds) = not (d == 48)

abbrev pub is_decimal : List ℕ → Bool
is_decimal digits = list_all is_ascii_digit digits && begins_well digits

-- a length of at most 2^28 bytes
abbrev pub small : ℕ → Option ℕ
small n = at_most 268435456 n

-- ---- newlines
abbrev pub newlines : List ℕ → ℕ
newlines [] = 0
newlines (b ∷ bs) = (if b == 10 then 1 else 0) + newlines bs

-- the line, counted from 1, that begins so many bytes before the end
abbrev pub line_before : List ℕ → ℕ → ℕ
line_before bytes left = 1 + newlines (take (length bytes - left) bytes)

-- ---- one line
-- LENGTH, or none where it is above 2^28, of a field of digits
abbrev pub length_field : List ℕ → Option (Option ℕ)
length_field digits = if is_decimal digits then Some (small (value_of digits)) else None

abbrev pub file_by : List ℕ → Option Flags → Option (Option ℕ) → Option (List ℕ × (Flags × Option ℕ))
file_by path (Some flags) (Some size) = Some (path, (flags, size))
file_by path (Some flags) None = None
file_by path None size = None

abbrev pub path_and_flags : List ℕ → Option (List ℕ × List ℕ) → Option (List ℕ × (Flags × Option ℕ))
path_and_flags digits None = None
path_and_flags digits (Some p) = file_by p.0 (flags_of p.1) (length_field digits)

abbrev pub prefix_and_length : Option (List ℕ × List ℕ) → Option (List ℕ × (Flags × Option ℕ))
prefix_and_length None = None
prefix_and_length (Some p) = path_and_flags p.1 (fields_of p.0)

-- PATH FLAGS LENGTH: the last two fields are FLAGS and LENGTH, so PATH may hold spaces
abbrev pub file_fields : List ℕ → Option (List ℕ × (Flags × Option ℕ))
file_fields line = prefix_and_length (fields_of line)
