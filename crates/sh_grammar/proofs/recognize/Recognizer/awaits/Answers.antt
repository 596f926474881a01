use Rattle.std.proofs.Common.{reverse, refl, sym, ap, ◌∙◌}
use Rattle.std.specs.List.{count_by}
use Rattle.sh_grammar.specs.Awaited.{is_nonterminal}
use Rattle.sh_grammar.specs.Tabulation.{tabulation_of}
use Rattle.sh_grammar.proofs.Kept.{awaited_here}
use Rattle.sh_grammar.proofs.recognize.Recognizer.awaits.Goals as goal

pub returns : goal.returns
returns c =
    awaited_here (tabulation_of c.self.inside.tables) c.self.inside.done.items (reverse c.self.inside.stack.items) c.deref.result.now c.args.self.now c.args.nonterminal c.count.result
    c.self.invariant.0 c.self.view_is (ap reverse c.deref.ensures.value) c.count.ensures

pub returns-then-nonterminal-self : goal.returns-then-nonterminal-self
returns-then-nonterminal-self c =
    awaited_here (tabulation_of c.self.inside.tables) c.self.inside.done.items (reverse c.self.inside.stack.items) c.self.inside.stack.items c.args.self.now c.args.nonterminal c.self.inside.counted.times
    c.self.invariant.0 c.self.view_is refl (c.self.invariant.1 ∙ ap (λ n. count_by (is_nonterminal n) c.self.inside.stack.items) (sym c.if-nonterminal-self.true))
