-- The environment of a shell that a script begins, which was started as a program (XCU 2.9.1.6, 2.5.3).
use Rattle.std.specs.Prelude.{ℕ, List, [], ◌∷◌, Bool, not, ◌&&◌, ◌||◌, Option, Some, None, codes, decimal, if◌then◌else◌}
use Rattle.std.specs.FinMap.{entries}
use Rattle.std.specs.Str.{bytes_eq}
use Rattle.sh_vars.specs.Environment.{Environment, Variable, is_read_only, with_directory, with_export, with_positional, with_process, with_value, with_zero, without}
use Rattle.sh_base.specs.Names.{is_name}
use Rattle.sh_vars.specs.Starting.{starting}

-- an assignment, where it isn't refused
unfoldable pub with_assignment : Environment → List ℕ → List ℕ → Environment
with_assignment env name value = if is_name name && not (is_read_only env name) then with_value env name value else env

-- what a shell sets itself: IFS, PS1, PS2, PS4, PPID and PWD; no other variable is there from the start
unfoldable pub own_variables : List ℕ → ℕ → Environment
own_variables directory parent =
    with_assignment (with_assignment (without (without starting (codes "PATH")) (codes "HOME")) (codes "PPID") (decimal parent)) (codes "PWD") directory

-- IFS and PPID are the shell's own whatever it is handed (2.5.3)
abbrev pub is_own : List ℕ → Bool
is_own name = bytes_eq name (codes "IFS") || bytes_eq name (codes "PPID")

abbrev pub with_exported_name : Environment → List ℕ → Environment
with_exported_name env name = if is_name name then with_export env name else env

abbrev pub with_exported_value : Environment → List ℕ → Option (List ℕ) → Environment
with_exported_value env name None = env
with_exported_value env name (Some value) = with_exported_name (with_assignment env name value) name

-- a variable that is handed on: one that is exported and has a value
unfoldable pub with_inherited_variable : Environment → List ℕ × Variable → Environment
with_inherited_variable env variable =
    if variable.1.exported && not (is_own variable.0) then with_exported_value env variable.0 variable.1.value else env

abbrev pub all_inherited : Environment → List (List ℕ × Variable) → Environment
all_inherited env [] = env
all_inherited env (variable ∷ variables) = all_inherited (with_inherited_variable env variable) variables

-- what the script begins with: `$0` is its path, and the operands are the positional parameters
unfoldable pub script_environment : Environment → List ℕ → List (List ℕ) → ℕ → ℕ → Environment
script_environment env path operands pid parent =
    with_directory (with_process (with_positional (with_zero (all_inherited (own_variables env.directory parent) (entries env.variables)) path) operands) pid) env.directory
