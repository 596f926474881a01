-- shift (XCU 2.15): positional parameters are removed.
use Rattle.std.specs.Prelude.{ℕ, List, [], ◌∷◌, Option, Some, None, length, nat_le, if◌then◌else◌}
use Rattle.sh_base.specs.Decimals.{number_of}
use Rattle.sh_builtin_environment.specs.Options.{Parsed, options_and_operands}
use Rattle.sh_builtin_environment.specs.Outcomes.{Ran, misuse, with_outcome}
use Rattle.sh_builtin_environment.specs.declared.outcome.Outcome.TheVariants.{Done}
use Rattle.sh_vars.specs.Environment.{Environment, after_shift}

-- where there are fewer, none is removed and the status is 1, which is no error
abbrev pub shifted_by : Environment → ℕ → Ran
shifted_by env n = if nat_le n (length env.positional) then with_outcome (after_shift env n) (Done 0) else with_outcome env (Done 1)

abbrev pub shift_number : Environment → Option ℕ → Ran
shift_number env None = misuse env
shift_number env (Some n) = shifted_by env n

abbrev pub shift_with : Environment → List (List ℕ) → Ran
shift_with env [] = shifted_by env 1
shift_with env (operand ∷ []) = shift_number env (number_of operand)
shift_with env (operand ∷ next ∷ others) = misuse env

abbrev pub shift_parsed : Environment → Option Parsed → Ran
shift_parsed env None = misuse env
shift_parsed env (Some (last, operands)) = shift_with env operands

unfoldable pub shift_ran : Environment → List (List ℕ) → Ran
shift_ran env arguments = shift_parsed env (options_and_operands [] arguments)
