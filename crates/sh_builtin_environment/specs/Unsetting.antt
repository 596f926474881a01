-- unset (XCU 2.15): variables, or functions, are removed.
use Rattle.std.specs.Prelude.{ℕ, List, [], ◌∷◌, nat_eq, Bool, true, false, Option, Some, None, codes, if◌then◌else◌}
use Rattle.sh_builtin_environment.specs.Options.{Parsed, options_and_operands}
use Rattle.sh_builtin_environment.specs.Outcomes.{Ran, Stepped, behind, misuse, with_outcome, with_fault}
use Rattle.sh_builtin_environment.specs.declared.outcome.BuiltinFault.TheVariants as fault
use Rattle.sh_builtin_environment.specs.declared.outcome.Outcome.TheVariants.{Done}
use Rattle.sh_vars.specs.Environment.{Environment, is_read_only, without}
use Rattle.sh_base.specs.Names.{is_name}

-- ---- one name; under -f no variable is meant
abbrev pub variable_unset : Environment → List ℕ → Stepped
variable_unset env name =
    if is_read_only env name then with_fault env (Some (fault.ReadOnly name)) else with_fault (without env name) None

abbrev pub kind_unset : (functions : Bool) → Environment → List ℕ → Stepped
kind_unset false env name = variable_unset env name
kind_unset true env name = with_fault env None

unfoldable pub unset_one : (functions : Bool) → Environment → List ℕ → Stepped
unset_one functions env name =
    if is_name name then kind_unset functions env name else with_fault env (Some (fault.BadName name))

-- ---- names from left to right, up to one that is refused
abbrev pub unset_all : (functions : Bool) → Environment → List (List ℕ) → Ran
unset_all functions env [] = with_outcome env (Done 0)
unset_all functions env (name ∷ others) =
    let step = unset_one functions env name in behind step.environment step.fault (λ after. unset_all functions after others)

-- ---- of -f and -v the last counts; without either, variables are meant; at least one name is needed
abbrev pub names_functions : Option ℕ → Bool
names_functions None = false
names_functions (Some letter) = nat_eq letter 102

abbrev pub unset_parsed : Environment → Option Parsed → Ran
unset_parsed env None = misuse env
unset_parsed env (Some (last, [])) = misuse env
unset_parsed env (Some (last, name ∷ others)) = unset_all (names_functions last) env (name ∷ others)

-- the names of functions that are to be removed, where -f says so
abbrev pub functions_by : Option Parsed → Option (List (List ℕ))
functions_by None = None
functions_by (Some (last, operands)) = if names_functions last then Some operands else None

abbrev pub functions_to_unset : List (List ℕ) → Option (List (List ℕ))
functions_to_unset arguments = functions_by (options_and_operands (codes "fv") arguments)

unfoldable pub unset_ran : Environment → List (List ℕ) → Ran
unset_ran env arguments = unset_parsed env (options_and_operands (codes "fv") arguments)
