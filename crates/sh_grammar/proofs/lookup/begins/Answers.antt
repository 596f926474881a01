use Rattle.std.proofs.Common.{◌++◌, ◌∷◌, [], sym, ap, ◌∙◌}
use Rattle.sh_grammar.specs.Tabulation.{tabulation_of, grammar_of}
use Rattle.sh_grammar.specs.Table.{table_of}
use Rattle.sh_grammar.proofs.Stack.{begins_terminal, begins_here, begins_not, begins_below}
use Rattle.sh_grammar.proofs.lookup.begins.Goals as goal

pub returns-in-Terminal : goal.returns-in-Terminal
returns-in-Terminal c =
    c.has_class.ensures ∙ (sym (begins_terminal (grammar_of (tabulation_of c.args.tables.now)) (table_of (tabulation_of c.args.tables.now)) c.loop-top.rest.now c.in-Some.below.now c.args.class c.in-Terminal.kind (c.in-Some.ensures.cases.0 ∙ ap (λ x. c.in-Some.below.now ++ x ∷ []) c.in-Terminal.is)) ∙ c.loop-top.invariant)

pub returns-then-has_class : goal.returns-then-has_class
returns-then-has_class c =
    sym (begins_here (grammar_of (tabulation_of c.args.tables.now)) (table_of (tabulation_of c.args.tables.now)) c.loop-top.rest.now c.in-Some.below.now c.args.class c.in-Nonterminal.name (c.in-Some.ensures.cases.0 ∙ ap (λ x. c.in-Some.below.now ++ x ∷ []) c.in-Nonterminal.is) (sym c.has_class-in-Nonterminal.ensures ∙ c.if-has_class.true)) ∙ c.loop-top.invariant

pub returns-then-not-has_class : goal.returns-then-not-has_class
returns-then-not-has_class c =
    sym (begins_not (grammar_of (tabulation_of c.args.tables.now)) (table_of (tabulation_of c.args.tables.now)) c.loop-top.rest.now c.in-Some.below.now c.args.class c.in-Nonterminal.name (c.in-Some.ensures.cases.0 ∙ ap (λ x. c.in-Some.below.now ++ x ∷ []) c.in-Nonterminal.is) (sym c.has_class-in-Nonterminal.ensures ∙ c.if-has_class.false) (sym c.has_class-in-Nonterminal-2.ensures ∙ c.if-not-has_class.true)) ∙ c.loop-top.invariant

pub loop-top-preserved : goal.loop-top-preserved
loop-top-preserved c =
    begins_below (grammar_of (tabulation_of c.args.tables.now)) (table_of (tabulation_of c.args.tables.now)) c.loop-top.rest.now c.in-Some.below.now c.args.class c.in-Nonterminal.name (c.in-Some.ensures.cases.0 ∙ ap (λ x. c.in-Some.below.now ++ x ∷ []) c.in-Nonterminal.is) (sym c.has_class-in-Nonterminal.ensures ∙ c.if-has_class.false) (sym c.has_class-in-Nonterminal-2.ensures ∙ c.if-not-has_class.false) ∙ c.loop-top.invariant
