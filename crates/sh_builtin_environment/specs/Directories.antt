-- cd and pwd (XCU cd, pwd): the working directory.
use Rattle.std.specs.Prelude.{ℕ, List, [], ◌∷◌, ◌++◌, Bool, true, false, Option, Some, None, Result, Ok, Err, codes, unwrap_or, if◌then◌else◌}
use Rattle.std.specs.Str.{bytes_eq}
use Rattle.sh_builtin_environment.specs.Options.{Parsed, options_and_operands}
use Rattle.sh_builtin_environment.specs.Outcomes.{Ran, misuse, with_outcome, refusal}
use Rattle.sh_builtin_environment.specs.declared.outcome.BuiltinFault.TheVariants as fault
use Rattle.sh_builtin_environment.specs.declared.outcome.Outcome.{Outcome}
use Rattle.sh_builtin_environment.specs.declared.outcome.Outcome.TheVariants.{Done, Fault, Output}
use Rattle.sh_files.specs.Nodes.{FileMap, is_empty, node_at, resolution}
use Rattle.sh_files.specs.declared.fault.FileFault.{FileFault}
use Rattle.sh_files_image.specs.declared.node.Node.{Node}
use Rattle.sh_files_image.specs.declared.node.Node.TheVariants as node
use Rattle.sh_vars.specs.Environment.{Environment, is_read_only, value_of, with_directory, with_value}

-- ---- on arriving OLDPWD becomes the directory before, and PWD the new one
abbrev pub old_name : List ℕ
old_name = codes "OLDPWD"

abbrev pub new_name : List ℕ
new_name = codes "PWD"

abbrev pub line : List ℕ → List ℕ
line place = place ++ 10 ∷ []

abbrev pub cd_outcome : (shows : Bool) → List ℕ → Outcome
cd_outcome true place = Output (line place)
cd_outcome false place = Done 0

abbrev pub environment_at : Environment → List ℕ → Environment
environment_at env place = with_directory (with_value (with_value env old_name env.directory) new_name place) place

abbrev pub arrival : (shows : Bool) → Environment → List ℕ → Ran
arrival shows env place =
    if is_read_only env old_name then refusal env (fault.ReadOnly old_name)
    else if is_read_only env new_name then refusal env (fault.ReadOnly new_name)
    else with_outcome (environment_at env place) (cd_outcome shows place)

-- ---- the directory that a path leads to (XBD 4.16): each part of the path, and the whole, has to lead to a
-- directory
abbrev pub is_directory : Option Node → Bool
is_directory None = false
is_directory (Some node.Directory) = true
is_directory (Some (node.File file)) = false
is_directory (Some node.Null) = false
is_directory (Some node.Terminal) = false

abbrev pub directory_by : FileMap → Result (List ℕ) FileFault → Option (List ℕ)
directory_by files (Err why) = None
directory_by files (Ok place) = if is_directory (node_at files place) then Some place else None

abbrev pub directory_at : FileMap → List ℕ → List ℕ → Option (List ℕ)
directory_at files directory path = directory_by files (resolution files directory path)

-- where the path leads to no directory, the refusal names the word by which the path was asked for
abbrev pub gone_to : (shows : Bool) → Environment → (word : List ℕ) → Option (List ℕ) → Ran
gone_to shows env word None = refusal env (fault.CannotOpen word)
gone_to shows env word (Some place) = arrival shows env place

unfoldable pub directory_change : (shows : Bool) → FileMap → Environment → (word path : List ℕ) → Ran
directory_change shows files env word path = gone_to shows env word (directory_at files env.directory path)

-- ---- `-` leads back, and shows where to; a refusal names `-` itself
abbrev pub back : FileMap → Environment → Option (List ℕ) → Ran
back files env None = refusal env (fault.CannotOpen (codes "-"))
back files env (Some path) = if is_empty path then refusal env (fault.CannotOpen (codes "-")) else directory_change true files env (codes "-") path

-- ---- without an operand cd goes to HOME; a refusal then names HOME's value
abbrev pub home_of : Environment → List ℕ
home_of env = unwrap_or (value_of env (codes "HOME")) []

abbrev pub cd_with : FileMap → Environment → List (List ℕ) → Ran
cd_with files env [] = directory_change false files env (home_of env) (home_of env)
cd_with files env (operand ∷ []) =
    if bytes_eq operand (codes "-") then back files env (value_of env old_name) else directory_change false files env operand operand
cd_with files env (operand ∷ next ∷ others) = misuse env

-- ---- there are no symbolic links, so -L and -P do the same
abbrev pub cd_parsed : FileMap → Environment → Option Parsed → Ran
cd_parsed files env None = misuse env
cd_parsed files env (Some (last, operands)) = cd_with files env operands

unfoldable pub cd_ran : FileMap → Environment → List (List ℕ) → Ran
cd_ran files env arguments = cd_parsed files env (options_and_operands (codes "LP") arguments)

abbrev pub pwd_parsed : Environment → Option Parsed → Outcome
pwd_parsed env None = Fault fault.Usage
pwd_parsed env (Some (last, [])) = Output (line env.directory)
pwd_parsed env (Some (last, operand ∷ others)) = Fault fault.Usage

unfoldable pub pwd_outcome : Environment → List (List ℕ) → Outcome
pwd_outcome env arguments = pwd_parsed env (options_and_operands (codes "LP") arguments)
