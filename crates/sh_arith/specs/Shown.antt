-- What the laws by example say of a text and its value (XCU 2.6.4; C 6.5).
use Rattle.std.specs.Prelude.{◌≡◌, ℕ, ℤ, false, List, Some, None}
use Rattle.sh_vars.specs.Environment.{Environment, value_of}
use Rattle.sh_arith.specs.declared.faults.ArithFault.TheVariants.{Syntax}
use Rattle.sh_arith.specs.Evaluated.{evaluation}
use Rattle.sh_arith.specs.Outcome.{Gives, Stops}

-- whatever the variables are, the text has this value and changes no variable
abbrev pub Comes : List ℕ → ℤ → Type 0
Comes text v = (env : Environment) → evaluation text env ≡ Gives v env

-- the text is refused at this place
abbrev pub IsRefusedAt : List ℕ → ℕ → Type 0
IsRefusedAt text place = (env : Environment) → evaluation text env ≡ Stops (Syntax place) env

-- where two variables have these values, or are unset without `set -u`, the text has this value and changes
-- no variable
abbrev pub ComesWith : (x y : List ℕ) → (v w : List ℕ) → List ℕ → ℤ → Type 0
ComesWith x y v w text n = (env : Environment) → value_of env x ≡ Some v → value_of env y ≡ Some w → evaluation text env ≡ Gives n env

abbrev pub ComesWithout : (x y : List ℕ) → List ℕ → ℤ → Type 0
ComesWithout x y text n = (env : Environment) → value_of env x ≡ None → value_of env y ≡ None → env.options.no_unset ≡ false → evaluation text env ≡ Gives n env
