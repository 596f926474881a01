use Rattle.std.proofs.Common.{reverse, ap}
use Rattle.sh_grammar.specs.Tabulation.{tabulation_of}
use Rattle.sh_grammar.specs.Reach.{Ended}
use Rattle.sh_grammar.proofs.Standing.{end_both, no_tree, derivation, stands_before}
use Rattle.sh_grammar.proofs.recognize.Recognizer.finish.Goals as goal

pub returns-then-not-may_vanish : goal.returns-then-not-may_vanish
returns-then-not-may_vanish c =
    no_tree c.args.self c.may_vanish.result c.if-not-may_vanish.true
    (end_both (tabulation_of c.self.inside.tables) c.self.inside.done.items (reverse c.self.inside.stack.items) (reverse c.deref.result.now) c.args.self c.may_vanish.result
    c.self.invariant.0.stands c.self.view_is (ap reverse c.deref.ensures.value) c.may_vanish.ensures).1

pub conclude-requires-clause-stands : goal.conclude-requires-clause-stands
conclude-requires-clause-stands c = stands_before (tabulation_of c.self.inside.tables) Ended c.self.inside.done.items (reverse c.self.inside.stack.items) c.self.invariant.0.stands

pub returns : goal.returns
returns c = derivation (tabulation_of c.self.inside.tables) c.self.inside.done.items c.conclude.new.done.items c.new.result c.args.self c.in_ok-conclude.ensures.stands c.in_ok-conclude.ensures.taken c.self.view_is c.new.ensures
