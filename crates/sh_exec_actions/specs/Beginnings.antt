-- What an interactive shell has read so far of its next command (XCU 2.1), and the aliases by which that is read.
use Rattle.std.specs.Option.{unwrap_or}
use Rattle.std.specs.Prelude.{ℕ, List, Some, None}
use Rattle.sh_aliases.specs.Aliases.{AliasTable}
use Rattle.sh_exec_actions.specs.declared.beginning.Beginning.{Beginning}

-- a text in which no command has begun yet
abbrev pub not_begun : (text : List ℕ) → Beginning
not_begun text = record { text = text; aliases = None }

-- the beginning of a command that is read by these aliases
abbrev pub begun : AliasTable → (text : List ℕ) → Beginning
begun aliases text = record { text = text; aliases = Some aliases }

-- a command is read by the aliases that the shell had when the command began (2.3.1); now: those that the shell has
abbrev pub aliases_of : (now : AliasTable) → Beginning → AliasTable
aliases_of now beginning = unwrap_or beginning.aliases now
