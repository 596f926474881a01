use Rattle.std.proofs.Common.{◌++◌, ◌∷◌, [], reverse, ap, ◌∙◌}
use Rattle.std.proofs.lemmas.List.{append-nil}
use Rattle.sh_grammar.specs.Leftmost.{tokens_of}
use Rattle.sh_grammar.specs.Tabulation.{tabulation_of}
use Rattle.sh_grammar.proofs.Step.{stands_conclude, expand_last}
use Rattle.sh_grammar.proofs.recognize.conclude.Goals as goal

pub loop-top-smaller : goal.loop-top-smaller
loop-top-smaller c =
    (stands_conclude (tabulation_of c.args.tables.now) c.loop-top.stack.items c.pop.new.self.items c.push_all.new.stack.items c.loop-top.done.items c.push.new.self.items c.in-Nonterminal.name c.predicted-rule.result c.loop-top.invariant.stands c.loop-top.invariant.vanishes
    (c.in-Some.ensures.items ∙ ap (λ x. c.pop.new.self.items ++ x ∷ []) c.in-Nonterminal.is)
    c.predicted-rule.ensures
    (c.in_ok-push_all-in-Nonterminal.ensures ∙ ap (λ x. x ++ reverse c.pop.new.self.items) c.body.ensures)
    c.in_ok-push-in-Nonterminal.ensures.items).less

pub loop-top-preserved : goal.loop-top-preserved
loop-top-preserved c =
    let s =
    stands_conclude (tabulation_of c.args.tables.now) c.loop-top.stack.items c.pop.new.self.items c.push_all.new.stack.items c.loop-top.done.items c.push.new.self.items c.in-Nonterminal.name c.predicted-rule.result c.loop-top.invariant.stands c.loop-top.invariant.vanishes
    (c.in-Some.ensures.items ∙ ap (λ x. c.pop.new.self.items ++ x ∷ []) c.in-Nonterminal.is)
    c.predicted-rule.ensures
    (c.in_ok-push_all-in-Nonterminal.ensures ∙ ap (λ x. x ++ reverse c.pop.new.self.items) c.body.ensures)
    c.in_ok-push-in-Nonterminal.ensures.items
    in
    record {
      stands = s.stands;
      vanishes = s.vanishes;
      text = expand_last c.loop-top.done.items c.push.new.self.items c.predicted-rule.result c.in_ok-push-in-Nonterminal.ensures.items ∙ (append-nil (tokens_of c.loop-top.done.items) ∙ c.loop-top.invariant.text);
    }
