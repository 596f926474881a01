-- What is between `${` and the word of a parameter expansion (XCU 2.6.2), byte by byte: `#`, the parameter,
-- the operator.
use Rattle.std.specs.Prelude.{ℕ, Bool, true, false, nat_eq, List, [], ◌∷◌, Option, Some, None, if◌then◌else◌}
use Rattle.sh_token_pieces.specs.declared.head.Head.{Head}
use Rattle.sh_token_pieces.specs.declared.head.Head.TheVariants.{Start, Hash, Name, Number, Special, LengthName, LengthNumber, Length, HashPound, Colon, Word, Percent, DoublePercent, Pound, DoublePound}
use Rattle.sh_token_pieces.specs.Bytes.{is_special, is_word_operator}
use Rattle.std.specs.Char.{is_ascii_digit}
use Rattle.sh_base.specs.Names.{begins_name, continues_name}

abbrev pub behind_parameter : ℕ → Option Head
behind_parameter b =
    if nat_eq b 58 then Some Colon
    else if is_word_operator b then Some Word
    else if nat_eq b 37 then Some Percent
    else if nat_eq b 35 then Some Pound
    else None

abbrev pub grown_start : ℕ → Option Head
grown_start b =
    if nat_eq b 35 then Some Hash
    else if begins_name b then Some Name
    else if is_ascii_digit b then Some Number
    else if is_special b then Some Special
    else None

-- after `${#`. A special parameter there may also be an operator of `$#` (`${#-w}`): in either case the head
-- takes no byte after it
abbrev pub grown_hash : ℕ → Option Head
grown_hash b =
    if begins_name b then Some LengthName
    else if is_ascii_digit b then Some LengthNumber
    else if nat_eq b 35 then Some HashPound
    else if is_special b then Some Length
    else behind_parameter b

-- the head with one more byte, where it takes this byte
abbrev pub grown_head : Head → ℕ → Option Head
grown_head Start b = grown_start b
grown_head Hash b = grown_hash b
grown_head Name b = if continues_name b then Some Name else behind_parameter b
grown_head Number b = if is_ascii_digit b then Some Number else behind_parameter b
grown_head Special b = behind_parameter b
grown_head LengthName b = if continues_name b then Some LengthName else None
grown_head LengthNumber b = if is_ascii_digit b then Some LengthNumber else None
grown_head Length b = None
grown_head HashPound b = if nat_eq b 35 then Some DoublePound else None
grown_head Colon b = if is_word_operator b then Some Word else None
grown_head Word b = None
grown_head Percent b = if nat_eq b 37 then Some DoublePercent else None
grown_head DoublePercent b = None
grown_head Pound b = if nat_eq b 35 then Some DoublePound else None
grown_head DoublePound b = None

-- the patterns of % and # are read as outside of double quotes wherever they are
abbrev pub reads_bare : Head → Bool
reads_bare Start = false
reads_bare Hash = false
reads_bare Name = false
reads_bare Number = false
reads_bare Special = false
reads_bare LengthName = false
reads_bare LengthNumber = false
reads_bare Length = false
reads_bare HashPound = true
reads_bare Colon = false
reads_bare Word = false
reads_bare Percent = true
reads_bare DoublePercent = true
reads_bare Pound = true
reads_bare DoublePound = true

abbrev pub head_step : Option Head → ℕ → Option Head
head_step None b = None
head_step (Some h) b = grown_head h b

-- the head that these bytes are
abbrev pub head_from : Option Head → List ℕ → Option Head
head_from h [] = h
head_from h (b ∷ bs) = head_from (head_step h b) bs

abbrev pub head_of : List ℕ → Option Head
head_of bytes = head_from (Some Start) bytes

abbrev pub is_some_head : Option Head → Bool
is_some_head None = false
is_some_head (Some g) = true

abbrev pub grows_head : Head → ℕ → Bool
grows_head h b = is_some_head (grown_head h b)
