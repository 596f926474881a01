use Rattle.std.proofs.Common.{reverse, ap}
use Rattle.sh_grammar.specs.Tabulation.{tabulation_of}
use Rattle.sh_grammar.proofs.Standing.{end_both}
use Rattle.sh_grammar.proofs.recognize.Recognizer.may_end.Goals as goal

pub returns : goal.returns
returns c =
    end_both (tabulation_of c.self.inside.tables) c.self.inside.done.items (reverse c.self.inside.stack.items) (reverse c.deref.result.now) c.args.self.now c.may_vanish.result
    c.self.invariant.0.stands c.self.view_is (ap reverse c.deref.ensures.value) c.may_vanish.ensures
