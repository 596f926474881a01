use Rattle.std.proofs.Common.{reverse, refl, sym, ap, ◌∙◌}
use Rattle.sh_grammar.specs.Tabulation.{tabulation_of}
use Rattle.sh_grammar.proofs.Kept.{keeps_taken}
use Rattle.sh_grammar.proofs.Standing.{prefix_both}
use Rattle.sh_grammar.proofs.recognize.Recognizer.take.Goals as goal

pub returns-then-not-begins-clause-prefix : goal.returns-then-not-begins-clause-prefix
returns-then-not-begins-clause-prefix c =
    prefix_both (tabulation_of c.self.inside.tables) c.self.inside.done.items (reverse c.self.inside.stack.items) (reverse c.deref.result.now) c.args.self.now c.args.token c.args.token.class _
    c.self.invariant.0.stands c.self.view_is (ap reverse c.deref.ensures.value) refl (sym c.if-not-begins.true ∙ c.begins.ensures)

pub returns-in-Ok-clause-prefix : goal.returns-in-Ok-clause-prefix
returns-in-Ok-clause-prefix c =
    prefix_both (tabulation_of c.self.inside.tables) c.self.inside.done.items (reverse c.self.inside.stack.items) (reverse c.deref.result.now) c.args.self.now c.args.token c.args.token.class _
    c.self.invariant.0.stands c.self.view_is (ap reverse c.deref.ensures.value) refl (sym c.if-not-begins.false ∙ c.begins.ensures)

pub invariant_of-self : goal.invariant_of-self
invariant_of-self c = (
  keeps_taken (tabulation_of c.self.inside.tables) c.self.inside.done.items c.advance-advanced.new.done.items (reverse c.self.inside.stack.items) (reverse c.advance-advanced.new.stack.items) c.args.token
      c.self.invariant.0 c.in-Ok.ensures.stands c.in-Ok.ensures.taken c.in-Ok.ensures.computed,
  c.in-Ok.ensures.counted,
)
