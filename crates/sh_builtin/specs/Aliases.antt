-- The built-ins alias and unalias (XCU alias, unalias).
use Rattle.std.specs.Option.{is_some}
use Rattle.std.specs.Prelude.{ℕ, List, [], ◌∷◌, ◌++◌, Bool, true, false, Option, Some, None, codes}
use Rattle.sh_aliases.specs.Aliases.{AliasTable, alias_named, alias_of, no_aliases, with_alias, without_alias}
use Rattle.sh_aliases.specs.declared.alias.Alias.{Alias}
use Rattle.sh_builtin.specs.declared.aliases.Told.{Told}
use Rattle.sh_builtin_environment.specs.Listing.{in_quotes}
use Rattle.sh_builtin_environment.specs.Marking.{name_in, value_in}
use Rattle.sh_builtin_environment.specs.Options.{Parsed}
use Rattle.sh_builtin_environment.specs.declared.outcome.BuiltinFault.TheVariants as fault
use Rattle.sh_builtin_outcome.specs.Builtins.{name_of}
use Rattle.sh_builtin_outcome.specs.Messages.{fault_text, line_of}
use Rattle.sh_builtin_outcome.specs.Outcomes.{done, misuse, output, saying}
use Rattle.sh_builtin_outcome.specs.declared.builtin.Builtin.TheVariants as builtin
use Rattle.sh_builtin_outcome.specs.declared.outcome.Outcome.{Outcome}

-- ---- an alias as it is written: its name, `=` and its value in quotes, so that a shell can read it again
unfoldable pub definition : Alias → List ℕ
definition alias = alias.name ++ 61 ∷ in_quotes alias.value

abbrev pub alias_line : Alias → List ℕ
alias_line alias = definition alias ++ 10 ∷ []

abbrev pub alias_lines : AliasTable → List ℕ
alias_lines [] = []
alias_lines (alias ∷ others) = alias_line alias ++ alias_lines others

-- ---- the aliases after a built-in, and what that comes to
pub record AliasesRan : Type 0 where
  pub aliases : AliasTable
  pub outcome : Outcome

abbrev pub with_outcome : AliasTable → Outcome → AliasesRan
with_outcome aliases outcome = record { aliases = aliases; outcome = outcome }

-- ---- operands of alias from left to right: the aliases after some of them, and what was said of these
pub record Defined : Type 0 where
  pub aliases : AliasTable
  pub out : List ℕ
  pub messages : List (List ℕ)

abbrev pub defined_by : AliasTable → Told → Defined
defined_by aliases told = record { aliases = aliases; out = told.out; messages = told.messages }

-- of a name that no alias has or can have, and of the name of a value that isn't whole
abbrev pub bad_name : List ℕ → List ℕ
bad_name name = line_of (fault_text (name_of builtin.Alias) (fault.BadName name))

abbrev pub refused : Defined → List ℕ → Defined
refused d name = record d { messages = d.messages ++ bad_name name ∷ [] }

-- a name alone writes the alias
abbrev pub written : Defined → (name : List ℕ) → Option Alias → Defined
written d name None = refused d name
written d name (Some alias) = record d { out = d.out ++ alias_line alias }

-- a name and a value define one
abbrev pub defined : Defined → (name : List ℕ) → Option Alias → Defined
defined d name None = refused d name
defined d name (Some alias) = record d { aliases = with_alias d.aliases alias }

abbrev pub after_parts : Defined → (name : List ℕ) → (value : Option (List ℕ)) → Defined
after_parts d name None = written d name (alias_named d.aliases name)
after_parts d name (Some value) = defined d name (alias_of name value)

unfoldable pub after_operand : Defined → List ℕ → Defined
after_operand d operand = after_parts d (name_in operand) (value_in operand)

abbrev pub after_operands : Defined → List (List ℕ) → Defined
after_operands d [] = d
after_operands d (operand ∷ others) = after_operands (after_operand d operand) others

-- ---- the status is 1 where an operand was refused
abbrev pub alias_status : (messages : List (List ℕ)) → ℕ
alias_status [] = 0
alias_status (message ∷ messages) = 1

abbrev pub said : Defined → AliasesRan
said d = with_outcome d.aliases (saying d.out d.messages (alias_status d.messages))

-- ---- without operands alias writes all aliases
abbrev pub alias_with : AliasTable → List (List ℕ) → AliasesRan
alias_with aliases [] = with_outcome aliases (output (alias_lines aliases))
alias_with aliases (operand ∷ others) = said (after_operands (record { aliases = aliases; out = []; messages = [] }) (operand ∷ others))

abbrev pub alias_ran : AliasTable → Option Parsed → AliasesRan
alias_ran aliases None = with_outcome aliases (misuse builtin.Alias)
alias_ran aliases (Some parsed) = alias_with aliases parsed.1

-- ---- unalias removes the aliases of names, or all; the status is 1 where a name is that of none
abbrev pub status_behind : (status : ℕ) → (found : Bool) → ℕ
status_behind status true = status
status_behind status false = 1

abbrev pub unaliased : AliasTable → (status : ℕ) → List (List ℕ) → AliasesRan
unaliased aliases status [] = with_outcome aliases (done status)
unaliased aliases status (name ∷ names) =
    unaliased (without_alias aliases name) (status_behind status (is_some (alias_named aliases name))) names

abbrev pub unalias_with : AliasTable → List (List ℕ) → AliasesRan
unalias_with aliases [] = with_outcome aliases (misuse builtin.Unalias)
unalias_with aliases (name ∷ names) = unaliased aliases 0 (name ∷ names)

abbrev pub unalias_ran : AliasTable → Option Parsed → AliasesRan
unalias_ran aliases None = with_outcome aliases (misuse builtin.Unalias)
unalias_ran aliases (Some (None, operands)) = unalias_with aliases operands
unalias_ran aliases (Some (Some letter, operands)) = with_outcome no_aliases (done 0)
