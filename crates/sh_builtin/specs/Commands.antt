-- The built-in `command` (XCU command) where it runs no other command: `-v` tells how the shell would run a name.
use Rattle.std.specs.Option.{is_some}
use Rattle.std.specs.Prelude.{ℕ, List, [], ◌∷◌, ◌++◌, ◌||◌, Bool, Option, Some, None, codes, if◌then◌else◌, option_map}
use Rattle.sh_aliases.specs.Aliases.{alias_named}
use Rattle.sh_aliases.specs.declared.alias.Alias.{Alias}
use Rattle.sh_builtin.specs.Aliases.{definition}
use Rattle.sh_builtin_outcome.specs.Builtins.{builtin_of}
use Rattle.sh_builtin_shell.specs.Functions.{body_of}
use Rattle.sh_builtin_outcome.specs.Outcomes.{done, misuse, output}
use Rattle.sh_builtin_outcome.specs.declared.builtin.Builtin.TheVariants.{Command}
use Rattle.sh_builtin_outcome.specs.declared.outcome.Outcome.{Outcome}
use Rattle.sh_builtin_shell.specs.declared.shell.Shell.{Shell}
use Rattle.sh_builtin_environment.specs.Options.{Parsed}
use Rattle.sh_files.specs.Nodes.{FileMap}
use Rattle.sh_files.specs.Search.{executable_path}
use Rattle.sh_files_image.specs.Paths.{absolute}
use Rattle.sh_token_grammar.specs.Classes.{is_reserved}
use Rattle.sh_vars.specs.Environment.{value_of}

-- ---- `-v`
-- a function and a built-in are told by their name
abbrev pub is_own : Shell → List ℕ → Bool
is_own shell name = is_some (body_of shell.functions name) || is_some (builtin_of name)

-- a program is told by its path from the root
abbrev pub program_path : FileMap → Shell → List ℕ → Option (List ℕ)
program_path files shell name =
    option_map (absolute shell.vars.directory) (executable_path files shell.vars.directory (value_of shell.vars (codes "PATH")) name)

abbrev pub command_found : FileMap → Shell → List ℕ → Option (List ℕ)
command_found files shell name = if is_own shell name then Some name else program_path files shell name

-- an alias by the command that defines it; a reserved word, which no alias hides, by its name
abbrev pub alias_text : Alias → List ℕ
alias_text alias = codes "alias " ++ definition alias

abbrev pub description_by : FileMap → Shell → List ℕ → Option Alias → Option (List ℕ)
description_by files shell name None = command_found files shell name
description_by files shell name (Some alias) = Some (alias_text alias)

abbrev pub description : FileMap → Shell → List ℕ → Option (List ℕ)
description files shell name =
    if is_reserved name then Some name else description_by files shell name (alias_named shell.aliases name)

-- what isn't found is 1, without a message
abbrev pub told : Option (List ℕ) → Outcome
told None = done 1
told (Some text) = output (text ++ 10 ∷ [])

-- `-v` takes one name
abbrev pub told_of : FileMap → Shell → List (List ℕ) → Outcome
told_of files shell [] = misuse Command
told_of files shell (name ∷ []) = told (description files shell name)
told_of files shell (name ∷ next ∷ others) = misuse Command

abbrev pub command_outcome : FileMap → Shell → Option Parsed → Outcome
command_outcome files shell None = misuse Command
command_outcome files shell (Some (None, operands)) = misuse Command
command_outcome files shell (Some (Some letter, operands)) = told_of files shell operands
