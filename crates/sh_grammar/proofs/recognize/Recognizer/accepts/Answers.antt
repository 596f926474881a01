use Rattle.std.proofs.Common.{reverse, ap}
use Rattle.sh_grammar.specs.Tabulation.{tabulation_of}
use Rattle.sh_grammar.proofs.Standing.{prefix_both}
use Rattle.sh_grammar.proofs.recognize.Recognizer.accepts.Goals as goal

pub returns : goal.returns
returns c =
    λ u h. prefix_both (tabulation_of c.self.inside.tables) c.self.inside.done.items (reverse c.self.inside.stack.items) (reverse c.deref.result.now) c.args.self.now u c.args.class c.begins.result
    c.self.invariant.0.stands c.self.view_is (ap reverse c.deref.ensures.value) h c.begins.ensures
