-- Pipelines and their commands (XCU 2.9.2).
use Rattle.std.specs.Prelude.{List, ◌∷◌, Bool}
use Rattle.sh_syntax.specs.declared.tree.Command.{Command}
use Rattle.sh_syntax.specs.declared.tree.Pipeline.{Pipeline}
use Rattle.sh_syntax.specs.declared.tree.Command.TheViews as view

abbrev pub is_negated : Pipeline → Bool
is_negated pipeline = (view.out-Pipeline pipeline).is_negated

-- its commands, joined by `|`
abbrev pub commands_of : Pipeline → List Command
commands_of pipeline = (view.out-Pipeline pipeline).first ∷ (view.out-Pipeline pipeline).rest
