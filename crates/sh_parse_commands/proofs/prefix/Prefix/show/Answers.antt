use Rattle.std.proofs.Common.{sym}
use Rattle.sh_parse_commands.proofs.Shells.{prefix_told}
use Rattle.sh_parse_commands.proofs.prefix.Prefix.show.Goals as goal

pub returns-clause-taken : goal.returns-clause-taken
returns-clause-taken c = prefix_told c.self.inside.recognizer.grammar c.self.inside.recognizer.tokens c.self.inside.leaves.items c.self.inside.bodies.items c.self.inside.is_behind_blank c.args.input c.in_ok-taken.taken c.args.self.now (sym c.self.view_is) c.self.invariant c.in_ok-taken.ensures.prefix
