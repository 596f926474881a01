use Rattle.std.proofs.Common.{◌++◌, ◌∷◌, [], sym, ap, ◌∙◌}
use Rattle.sh_grammar.specs.Tabulation.{tabulation_of, grammar_of}
use Rattle.sh_grammar.specs.Table.{table_of}
use Rattle.sh_grammar.proofs.Stack.{vanish_terminal, vanish_not, vanish_below}
use Rattle.sh_grammar.proofs.lookup.may_vanish.Goals as goal

pub returns-in-Terminal : goal.returns-in-Terminal
returns-in-Terminal c =
    sym (vanish_terminal (grammar_of (tabulation_of c.args.tables.now)) (table_of (tabulation_of c.args.tables.now)) c.loop-top.rest.now c.in-Some.below.now c.args.tables.now.ending c.in-Terminal.field-0 (c.in-Some.ensures.cases.0 ∙ ap (λ x. c.in-Some.below.now ++ x ∷ []) c.in-Terminal.is)) ∙ c.loop-top.invariant

pub returns-then-not-has_class : goal.returns-then-not-has_class
returns-then-not-has_class c =
    sym (vanish_not (grammar_of (tabulation_of c.args.tables.now)) (table_of (tabulation_of c.args.tables.now)) c.loop-top.rest.now c.in-Some.below.now c.args.tables.now.ending c.in-Nonterminal.name (c.in-Some.ensures.cases.0 ∙ ap (λ x. c.in-Some.below.now ++ x ∷ []) c.in-Nonterminal.is) (sym c.has_class.ensures ∙ c.if-not-has_class.true)) ∙ c.loop-top.invariant

pub loop-top-preserved : goal.loop-top-preserved
loop-top-preserved c =
    vanish_below (grammar_of (tabulation_of c.args.tables.now)) (table_of (tabulation_of c.args.tables.now)) c.loop-top.rest.now c.in-Some.below.now c.args.tables.now.ending c.in-Nonterminal.name (c.in-Some.ensures.cases.0 ∙ ap (λ x. c.in-Some.below.now ++ x ∷ []) c.in-Nonterminal.is) (sym c.has_class.ensures ∙ c.if-not-has_class.false) ∙ c.loop-top.invariant
