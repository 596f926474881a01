-- The shell's variables and parameters (XCU 2.5), options (2.15 `set`) and working directory.
use Rattle.std.specs.Prelude.{ℕ, List, ◌||◌, Bool, true, false, Option, Some, None, codes, unwrap_or, drop}
use Rattle.std.specs.Option.{option_and_then}
use Rattle.std.specs.Ordering.{nat_cmp}
use Rattle.std.specs.Cmp.Lexicographic.{slice_cmp}
use Rattle.std.specs.FinMap.{FinMap, get, insert, remove}
use Rattle.sh_base.specs.Separators.{separators_by}
use Rattle.sh_vars.specs.declared.shell_options.Options.{Options}

-- a variable, which may be exported or read-only without a value (2.5.3)
pub record Variable : Type 0 where
  pub value : Option (List ℕ)
  pub exported : Bool
  pub read_only : Bool

-- the variables by name, in the order of the names' bytes
abbrev pub VariableMap : Type 0
VariableMap = FinMap (slice_cmp nat_cmp) Variable

-- the special parameters 0, $, ? and ! (2.5.2); the other ones follow from the positional parameters and the
-- options
pub record Special : Type 0 where
  pub zero : List ℕ
  pub process : ℕ
  pub status : ℕ
  pub background : Option ℕ

-- what a shell has at one time
pub record Environment : Type 0 where
  pub variables : VariableMap
  pub options : Options
  pub positional : List (List ℕ)
  pub special : Special
  pub directory : List ℕ

-- a name that no variable has counts as a variable without value and attributes
abbrev pub absent : Variable
absent = record { value = None; exported = false; read_only = false }

-- the variable after an assignment to it, which exports it if `export` says so
abbrev pub after_assignment : Variable → List ℕ → Bool → Variable
after_assignment variable value export = record variable { value = Some value; exported = variable.exported || export }

-- the variable of this name, or an absent one
abbrev pub variable_or_absent : VariableMap → List ℕ → Variable
variable_or_absent variables name = unwrap_or (get variables name) absent

-- the variable of this name, if it has a value or an attribute
abbrev pub variable_of : Environment → List ℕ → Option Variable
variable_of env name = get env.variables name

-- the value that a name expands to, if it is set
abbrev pub value_of : Environment → List ℕ → Option (List ℕ)
value_of env name = option_and_then (λ v. v.value) (variable_of env name)

-- the bytes that separate fields (2.5.3)
abbrev pub separators_of : Environment → List ℕ
separators_of env = separators_by (value_of env (codes "IFS"))

abbrev pub is_read_only : Environment → List ℕ → Bool
is_read_only env name = (variable_or_absent env.variables name).read_only

-- this variable under this name, all else as it was
abbrev pub with_variable : Environment → List ℕ → Variable → Environment
with_variable env name variable = record env { variables = insert env.variables name variable }

-- an assignment (2.9.1.2): a new value, and under `set -a` the variable is exported from then on
abbrev pub with_value : Environment → List ℕ → List ℕ → Environment
with_value env name value = with_variable env name (after_assignment (variable_or_absent env.variables name) value env.options.all_export)

-- `export NAME` (2.15)
abbrev pub with_export : Environment → List ℕ → Environment
with_export env name = with_variable env name (record (variable_or_absent env.variables name) { exported = true })

-- `readonly NAME` (2.15)
abbrev pub with_read_only : Environment → List ℕ → Environment
with_read_only env name = with_variable env name (record (variable_or_absent env.variables name) { read_only = true })

-- `unset NAME` (2.15): value and attributes are gone
abbrev pub without : Environment → List ℕ → Environment
without env name = record env { variables = remove env.variables name }

abbrev pub with_options : Environment → Options → Environment
with_options env options = record env { options = options }

abbrev pub with_positional : Environment → List (List ℕ) → Environment
with_positional env operands = record env { positional = operands }

-- `shift n` (2.15): the first n positional parameters are gone
abbrev pub after_shift : Environment → ℕ → Environment
after_shift env n = with_positional env (drop n env.positional)

abbrev pub with_directory : Environment → List ℕ → Environment
with_directory env path = record env { directory = path }

abbrev pub with_zero : Environment → List ℕ → Environment
with_zero env text = record env { special = record env.special { zero = text } }

abbrev pub with_process : Environment → ℕ → Environment
with_process env pid = record env { special = record env.special { process = pid } }

abbrev pub with_background : Environment → ℕ → Environment
with_background env pid = record env { special = record env.special { background = Some pid } }

abbrev pub with_status : Environment → ℕ → Environment
with_status env n = record env { special = record env.special { status = n } }
