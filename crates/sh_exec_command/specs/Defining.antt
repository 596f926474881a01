-- A function definition (XCU 2.9.5): each call runs the compound command that is its body, with the redirections of that.
use Rattle.std.specs.Prelude.{List}
use Rattle.sh_builtin_shell.specs.Functions.{Named, defined}
use Rattle.sh_exec_parts.specs.Simple.{Opened}
use Rattle.sh_syntax.specs.declared.tree.Command.{Command}
use Rattle.sh_syntax.specs.declared.tree.Command.TheOpen as layer
use Rattle.sh_syntax.specs.declared.tree.Command.TheVariants as command
use Rattle.sh_syntax.specs.declared.tree.Command.TheViews as view

-- a command of another form defines nothing
abbrev pub define_by : List Named → Opened layer.Command-F → List Named
define_by functions (layer.Simple items) = functions
define_by functions (layer.Compound compound) = functions
define_by functions (layer.Function name body) = defined functions name.name (command.Compound body)

unfoldable pub define_turn : List Named → Command → List Named
define_turn functions definition = define_by functions (view.out-Command definition)
