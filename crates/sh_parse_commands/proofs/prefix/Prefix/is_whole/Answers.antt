use Rattle.std.proofs.Common.{sym}
use Rattle.sh_parse_commands.proofs.Shells.{whole_told}
use Rattle.sh_parse_commands.proofs.prefix.Prefix.is_whole.Goals as goal

pub returns : goal.returns
returns c = whole_told c.self.inside.recognizer.grammar c.self.inside.recognizer.tokens c.self.inside.leaves.items c.self.inside.bodies.items c.self.inside.is_behind_blank c.may_end.result c.args.self.now (sym c.self.view_is) c.self.invariant c.may_end.ensures
