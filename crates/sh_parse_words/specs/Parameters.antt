-- What a `${..}` asks for (XCU 2.6.2), by the bytes between `${` and its word, and by whether the `}` comes
-- directly after them.
use Rattle.std.specs.Prelude.{ℕ, zero, suc, ◌+◌, ◌*◌, ◌-◌, ◌^◌, min, Bool, true, false, not, nat_eq, List, [], ◌∷◌, length, take, drop, position, Option, Some, None, if◌then◌else◌}
use Rattle.std.specs.Option.{option_map, unwrap_or}
use Rattle.std.specs.Char.{is_ascii_digit}
use Rattle.sh_base.specs.Names.{begins_name, continues_name}
use Rattle.sh_syntax.specs.declared.tree.Parameter.{Parameter}
use Rattle.sh_syntax.specs.declared.tree.Parameter.TheVariants.{Variable, Positional, Special}
use Rattle.sh_syntax.specs.declared.tree.SpecialParameter.TheVariants.{At, Asterisk, Count, Status, Options, Process, Background, Zero}
use Rattle.sh_syntax.specs.declared.tree.Absence.{Absence}
use Rattle.sh_syntax.specs.declared.tree.Absence.TheVariants.{Unset, UnsetOrNull}
use Rattle.sh_syntax.specs.declared.tree.ConditionalAction.{ConditionalAction}
use Rattle.sh_syntax.specs.declared.tree.ConditionalAction.TheVariants.{Default, Assign, Error, Alternative}
use Rattle.sh_syntax.specs.declared.tree.Affix.TheVariants.{Prefix, Suffix}
use Rattle.sh_syntax.specs.declared.tree.Extent.{Extent}
use Rattle.sh_syntax.specs.declared.tree.Extent.TheVariants.{Smallest, Largest}
use Rattle.sh_parse_words.specs.declared.parameter.Braces.{Braces}
use Rattle.sh_parse_words.specs.declared.parameter.Braces.TheVariants as braces

-- a number above the largest of the machine counts as the largest
abbrev pub machine_number : ℕ → ℕ
machine_number n = min n (2 ^ 64 - 1)

-- the value of decimal digits, where the digits before them have the value `n`
abbrev pub number_behind : ℕ → List ℕ → ℕ
number_behind n [] = n
number_behind n (b ∷ bs) = number_behind (machine_number (machine_number (n * 10) + (b - 48))) bs

-- `${01}` is `$1`, and `${00}` is `$0`
abbrev pub parameter_by_number : ℕ → Parameter
parameter_by_number zero = Special Zero
parameter_by_number (suc n) = Positional (suc n)

abbrev pub special : ℕ → Option Parameter
special b =
    if nat_eq b 64 then Some (Special At)
    else if nat_eq b 42 then Some (Special Asterisk)
    else if nat_eq b 35 then Some (Special Count)
    else if nat_eq b 63 then Some (Special Status)
    else if nat_eq b 45 then Some (Special Options)
    else if nat_eq b 36 then Some (Special Process)
    else if nat_eq b 33 then Some (Special Background)
    else None

-- how many of the bytes are the parameter: a name, digits, or one byte
abbrev pub count_while : (ℕ → Bool) → List ℕ → ℕ
count_while f bytes = unwrap_or (position (λ b. not (f b)) bytes) (length bytes)

abbrev pub parameter_size : List ℕ → ℕ
parameter_size [] = 0
parameter_size (b ∷ bs) =
    if begins_name b then count_while continues_name (b ∷ bs) else if is_ascii_digit b then count_while is_ascii_digit (b ∷ bs) else 1

-- the parameter that the bytes are
abbrev pub parameter : List ℕ → Option Parameter
parameter [] = None
parameter (b ∷ bs) =
    if begins_name b then Some (Variable (b ∷ bs)) else if is_ascii_digit b then Some (parameter_by_number (number_behind 0 (b ∷ bs))) else special b

abbrev pub action : ℕ → Option ConditionalAction
action b =
    if nat_eq b 45 then Some Default
    else if nat_eq b 61 then Some Assign
    else if nat_eq b 63 then Some Error
    else if nat_eq b 43 then Some Alternative
    else None

abbrev pub conditional : Parameter → Absence → Option ConditionalAction → Option Braces
conditional p absence a = option_map (λ act. braces.Conditional p absence act) a

abbrev pub removal : Parameter → ℕ → Extent → Option Braces
removal p b extent =
    if nat_eq b 37 then Some (braces.Removal p Suffix extent) else if nat_eq b 35 then Some (braces.Removal p Prefix extent) else None

abbrev pub or_removal : Option Braces → Option Braces → Option Braces
or_removal (Some x) other = Some x
or_removal None other = other

-- what an operator after the parameter asks for; without an operator the `}` has to come after the parameter
abbrev pub by_operator : Parameter → List ℕ → Bool → Option Braces
by_operator p [] empty = if empty then Some (braces.Value p) else None
by_operator p (b ∷ []) empty = or_removal (conditional p Unset (action b)) (removal p b Smallest)
by_operator p (b ∷ c ∷ []) empty =
    if nat_eq b 58 then conditional p UnsetOrNull (action c) else if nat_eq b c then removal p b Largest else None
by_operator p (b ∷ c ∷ d ∷ bs) empty = None

-- the parameter that all the bytes together are
abbrev pub whole_parameter : List ℕ → Option Parameter
whole_parameter bytes = if nat_eq (parameter_size bytes) (length bytes) then parameter bytes else None

-- `${#@}` and `${#*}` are no lengths
abbrev pub length_of : Parameter → Option Braces
length_of (Special At) = None
length_of (Special Asterisk) = None
length_of p = Some (braces.Length p)

abbrev pub length_or : Option Parameter → List ℕ → Option Braces
length_or (Some p) bytes = length_of p
length_or None bytes = by_operator (Special Count) bytes true

-- after `${#`: where a parameter and nothing else comes, its length is asked for; else `$#` is the parameter
abbrev pub behind_hash : List ℕ → Bool → Option Braces
behind_hash bytes empty = if empty then length_or (whole_parameter bytes) bytes else by_operator (Special Count) bytes false

abbrev pub with_parameter : Option Parameter → List ℕ → Bool → Option Braces
with_parameter None bytes empty = None
with_parameter (Some p) bytes empty = by_operator p bytes empty

abbrev pub behind_other : List ℕ → Bool → Option Braces
behind_other bytes empty = with_parameter (parameter (take (parameter_size bytes) bytes)) (drop (parameter_size bytes) bytes) empty

-- what the bytes between `${` and the word ask for; empty: the `}` comes directly after them. None: a bad
-- substitution
unfoldable pub braces_of : List ℕ → Bool → Option Braces
braces_of [] empty = None
braces_of (b ∷ bs) empty = if nat_eq b 35 then behind_hash bs empty else behind_other (b ∷ bs) empty

-- `$` and one byte
abbrev pub short : ℕ → Option Parameter
short b = parameter (b ∷ [])
