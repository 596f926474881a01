-- The words of the command that the built-in `command` runs (XCU command).
use Rattle.std.specs.Option.{is_some}
use Rattle.std.specs.Prelude.{ℕ, List, [], ◌∷◌, Option, Some, None, codes, if◌then◌else◌, option_map}
use Rattle.sh_builtin_outcome.specs.Builtins.{is_named, name_of}
use Rattle.sh_builtin_outcome.specs.declared.builtin.Builtin.TheVariants.{Command}
use Rattle.sh_builtin_environment.specs.Options.{Parsed, options_and_operands}
use Rattle.sh_builtin_shell.specs.Functions.{Named, body_of}

-- ---- the words of the command that `command` runs: none where it has an option or no operand
abbrev pub words_run : Option Parsed → Option (List (List ℕ))
words_run None = None
words_run (Some (Some letter, operands)) = None
words_run (Some (None, [])) = None
words_run (Some (None, name ∷ arguments)) = Some (name ∷ arguments)

abbrev pub words_behind : List (List ℕ) → Option (List (List ℕ))
words_behind [] = None
words_behind (name ∷ arguments) = if is_named Command name then words_run (options_and_operands (codes "v") arguments) else None

-- that command may be a `command` too; there are no more of them than words
abbrev pub last_by : List (List ℕ) → Option (List (List ℕ)) → (List (List ℕ) → List (List ℕ)) → List (List ℕ)
last_by words None next = words
last_by words (Some behind) next = next behind

abbrev pub last_behind : (at_most : List (List ℕ)) → List (List ℕ) → List (List ℕ)
last_behind [] words = words
last_behind (word ∷ at_most) words = last_by words (words_behind words) (λ behind. last_behind at_most behind)

-- a function of that name is found before the built-in (2.9.1.4)
abbrev pub behind_command : List Named → List (List ℕ) → Option (List (List ℕ))
behind_command functions words =
    if is_some (body_of functions (name_of Command)) then None else option_map (λ behind. last_behind words behind) (words_behind words)
