use Rattle.std.proofs.Common.{refl, sym}
use Rattle.sh_parse_commands.specs.Replacing.{command_name}
use Rattle.sh_parse_commands.proofs.Shells.{prefix_told}
use Rattle.sh_parse_commands.proofs.prefix.Prefix.may_name_command.Goals as goal

pub returns : goal.returns
returns c =
    prefix_told c.self.inside.recognizer.grammar c.self.inside.recognizer.tokens c.self.inside.leaves.items c.self.inside.bodies.items c.self.inside.is_behind_blank command_name c.accepts.result c.args.self.now (sym c.self.view_is) c.self.invariant
    (c.accepts.ensures command_name (sym c.number.ensures))
