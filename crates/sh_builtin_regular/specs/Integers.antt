-- Whole numbers as operands of built-ins.
use Rattle.std.specs.Prelude.{ℕ, List, [], ◌∷◌, ◌+◌, Bool, Option, Some, None, nat_eq, nat_lt, if◌then◌else◌}
use Rattle.sh_base.specs.Decimals.{number_of}
use Rattle.sh_builtin_regular.specs.declared.number.Whole.{Whole}

abbrev pub positive : Option ℕ → Option Whole
positive None = None
positive (Some n) = Some (record { plus = n; minus = 0 })

abbrev pub negative : Option ℕ → Option Whole
negative None = None
negative (Some n) = Some (record { plus = 0; minus = n })

-- a number operand after a sign, or without one
abbrev pub whole_of : List ℕ → Option Whole
whole_of [] = None
whole_of (b ∷ bs) =
    if nat_eq b 45 then negative (number_of bs) else if nat_eq b 43 then positive (number_of bs) else positive (number_of (b ∷ bs))

abbrev pub is_less : Whole → Whole → Bool
is_less a b = nat_lt (a.plus + b.minus) (b.plus + a.minus)

abbrev pub is_equal : Whole → Whole → Bool
is_equal a b = nat_eq (a.plus + b.minus) (b.plus + a.minus)
