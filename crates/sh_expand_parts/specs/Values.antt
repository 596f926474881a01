-- The value of a parameter (XCU 2.5).
use Rattle.std.specs.Prelude.{ℕ, zero, suc, List, Option, Some, None, codes, decimal, length, slice_get}
use Rattle.sh_vars.specs.Environment.{Environment, value_of}
use Rattle.sh_vars.specs.ShellOptions.{letters_of}
use Rattle.sh_syntax.specs.declared.tree.Parameter.{Parameter}
use Rattle.sh_syntax.specs.declared.tree.Parameter.TheVariants.{Variable, Positional, Special}
use Rattle.sh_syntax.specs.declared.tree.SpecialParameter.{SpecialParameter}
use Rattle.sh_syntax.specs.declared.tree.SpecialParameter.TheVariants.{At, Asterisk, Count, Status, Options, Process, Background, Zero}
use Rattle.sh_expand_parts.specs.declared.value.Value.{Value}
use Rattle.sh_expand_parts.specs.declared.value.Value.TheVariants.{Unset, Scalar, Each, Joined}

abbrev pub if_set : Option (List ℕ) → Value
if_set None = Unset
if_set (Some text) = Scalar text

abbrev pub number_if_set : Option ℕ → Value
number_if_set None = Unset
number_if_set (Some n) = Scalar (decimal n)

-- positional parameters are counted from 1
abbrev pub positional : List (List ℕ) → ℕ → Value
positional operands zero = Unset
positional operands (suc n) = if_set (slice_get operands n)

abbrev pub special : Environment → SpecialParameter → Value
special env At = Each env.positional
special env Asterisk = Joined env.positional
special env Count = Scalar (decimal (length env.positional))
special env Status = Scalar (decimal env.special.status)
special env Options = Scalar (letters_of env.options)
special env Process = Scalar (decimal env.special.process)
special env Background = number_if_set env.special.background
special env Zero = Scalar env.special.zero

abbrev pub value_in : Environment → Parameter → Value
value_in env (Variable name) = if_set (value_of env name)
value_in env (Positional n) = positional env.positional n
value_in env (Special parameter) = special env parameter

-- the parameter as it is written after the `$`
abbrev pub special_name : SpecialParameter → List ℕ
special_name At = codes "@"
special_name Asterisk = codes "*"
special_name Count = codes "#"
special_name Status = codes "?"
special_name Options = codes "-"
special_name Process = codes "$"
special_name Background = codes "!"
special_name Zero = codes "0"

abbrev pub name_of : Parameter → List ℕ
name_of (Variable name) = name
name_of (Positional n) = decimal n
name_of (Special parameter) = special_name parameter
