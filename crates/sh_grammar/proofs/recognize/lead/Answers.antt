use Rattle.std.proofs.Common.{◌≡◌, ◌++◌, ◌∷◌, [], Some, true, reverse, refl, sym, ap, ◌∙◌, subst}
use Rattle.std.proofs.lemmas.List.{append-nil}
use Rattle.sh_grammar.specs.Leftmost.{tokens_of}
use Rattle.sh_grammar.specs.Tabulation.{tabulation_of, grammar_of}
use Rattle.sh_grammar.specs.Table.{table_of, first_of}
use Rattle.sh_grammar.specs.Reach.{Stands, Begins, Any}
use Rattle.sh_grammar.specs.declared.Action.TheVariants.{Expand}
use Rattle.sh_grammar.specs.Computed.{next_stack}
use Rattle.sh_grammar.proofs.Kept.{Leads, leads_start, leads_on, leads_shift}
use Rattle.sh_grammar.proofs.Step.{stands_shift, stands_expand, shifted_last, expand_last}
use Rattle.sh_grammar.proofs.Standing.{stays, nothing_above, reverse_above, one_more, fewer}
use Rattle.sh_grammar.proofs.recognize.lead.Goals as goal

pub loop-top-init : goal.loop-top-init
loop-top-init c =
    let d = tabulation_of c.args.tables.now in
    let e = nothing_above c.args.stack.now c.clear.new.self.items c.clear.ensures.items in
    record {
      stands = subst (λ x. Stands d (Begins c.args.token) c.args.done.now.items (reverse x)) e c.requires.stands;
      begins = subst (λ x. first_of (grammar_of d) (table_of d) (reverse x) c.args.token.class ≡ true) e c.requires.begins;
      text = refl;
      extended = ([], sym (append-nil c.args.done.now.items));
      leads = subst (λ x. Leads d (next_stack (grammar_of d) (table_of d) (reverse c.args.stack.now) c.args.token.class) c.args.token.class (reverse x)) e (leads_start d (reverse c.args.stack.now) c.args.token.class c.requires.begins);
      stays = ([], sym (append-nil c.args.stack.now));
    }

pub returns-in-Terminal-clause-stands : goal.returns-in-Terminal-clause-stands
returns-in-Terminal-clause-stands c =
    let d = tabulation_of c.args.tables.now in
    let s =
    stands_shift d (c.loop-top.kept.now ++ c.loop-top.above.items) (c.in-Some.below.now ++ c.pop_either.new.above.items) c.loop-top.done.items c.push.new.self.items c.in-Terminal.field-0 c.args.token c.loop-top.invariant.stands c.loop-top.invariant.begins
    (c.in-Some.ensures.top ∙ ap (λ x. (c.in-Some.below.now ++ c.pop_either.new.above.items) ++ x ∷ []) c.in-Terminal.is)
    c.in_ok-push-in-Terminal.ensures.items
    in
    let k = stays c.args.stack.now c.loop-top.kept.now c.in-Some.below.now c.in-Some.ensures.kept.0 c.loop-top.invariant.stays.0 c.in-Some.ensures.kept.1 c.loop-top.invariant.stays.1 in
    subst (λ x. Stands d Any c.push.new.self.items (reverse (x ++ c.pop_either.new.above.items))) (sym k) s

pub returns-in-Terminal-clause-computed : goal.returns-in-Terminal-clause-computed
returns-in-Terminal-clause-computed c =
    let d = tabulation_of c.args.tables.now in
    let aim = next_stack (grammar_of d) (table_of d) (reverse c.args.stack.now) c.args.token.class in
    let s : aim ≡ Some (reverse (c.in-Some.below.now ++ c.pop_either.new.above.items)) = leads_shift d aim c.args.token.class c.in-Terminal.field-0 (c.loop-top.kept.now ++ c.loop-top.above.items) (c.in-Some.below.now ++ c.pop_either.new.above.items) c.loop-top.invariant.leads (c.in-Some.ensures.top ∙ ap (λ x. (c.in-Some.below.now ++ c.pop_either.new.above.items) ++ x ∷ []) c.in-Terminal.is) in
    let k = stays c.args.stack.now c.loop-top.kept.now c.in-Some.below.now c.in-Some.ensures.kept.0 c.loop-top.invariant.stays.0 c.in-Some.ensures.kept.1 c.loop-top.invariant.stays.1 in
    subst (λ x. aim ≡ Some (reverse (x ++ c.pop_either.new.above.items))) (sym k) s

pub returns-in-Terminal-clause-taken : goal.returns-in-Terminal-clause-taken
returns-in-Terminal-clause-taken c =
    shifted_last c.loop-top.done.items c.push.new.self.items c.args.token c.in_ok-push-in-Terminal.ensures.items ∙ ap (λ x. x ++ c.args.token ∷ []) c.loop-top.invariant.text

pub loop-top-smaller : goal.loop-top-smaller
loop-top-smaller c =
    (stands_expand (tabulation_of c.args.tables.now) (c.loop-top.kept.now ++ c.loop-top.above.items) (c.in-Some.below.now ++ c.pop_either.new.above.items) (c.in-Some.below.now ++ c.push_all.new.stack.items) c.loop-top.done.items c.push-in-Nonterminal.new.self.items c.in-Nonterminal.name c.predicted-rule.result c.args.token c.loop-top.invariant.stands c.loop-top.invariant.begins
    (c.in-Some.ensures.top ∙ ap (λ x. (c.in-Some.below.now ++ c.pop_either.new.above.items) ++ x ∷ []) c.in-Nonterminal.is)
    c.predicted-rule.ensures
    (reverse_above c.in-Some.below.now c.pop_either.new.above.items c.push_all.new.stack.items _ (c.in_ok-push_all-in-Nonterminal.ensures ∙ ap (λ x. x ++ reverse c.pop_either.new.above.items) c.body.ensures))
    c.in_ok-push-in-Nonterminal.ensures.items).less

pub loop-top-preserved : goal.loop-top-preserved
loop-top-preserved c =
    let s =
    stands_expand (tabulation_of c.args.tables.now) (c.loop-top.kept.now ++ c.loop-top.above.items) (c.in-Some.below.now ++ c.pop_either.new.above.items) (c.in-Some.below.now ++ c.push_all.new.stack.items) c.loop-top.done.items c.push-in-Nonterminal.new.self.items c.in-Nonterminal.name c.predicted-rule.result c.args.token c.loop-top.invariant.stands c.loop-top.invariant.begins
    (c.in-Some.ensures.top ∙ ap (λ x. (c.in-Some.below.now ++ c.pop_either.new.above.items) ++ x ∷ []) c.in-Nonterminal.is)
    c.predicted-rule.ensures
    (reverse_above c.in-Some.below.now c.pop_either.new.above.items c.push_all.new.stack.items _ (c.in_ok-push_all-in-Nonterminal.ensures ∙ ap (λ x. x ++ reverse c.pop_either.new.above.items) c.body.ensures))
    c.in_ok-push-in-Nonterminal.ensures.items
    in
    record {
      stands = s.stands;
      begins = s.begins;
      text = expand_last c.loop-top.done.items c.push-in-Nonterminal.new.self.items c.predicted-rule.result c.in_ok-push-in-Nonterminal.ensures.items ∙ (append-nil (tokens_of c.loop-top.done.items) ∙ c.loop-top.invariant.text);
      extended = one_more c.args.done.now.items c.loop-top.done.items c.push-in-Nonterminal.new.self.items (Expand c.predicted-rule.result) c.loop-top.invariant.extended c.in_ok-push-in-Nonterminal.ensures.items;
      leads = leads_on (tabulation_of c.args.tables.now) _ c.args.token.class (reverse (c.loop-top.kept.now ++ c.loop-top.above.items)) (reverse (c.in-Some.below.now ++ c.push_all.new.stack.items)) c.loop-top.invariant.leads s.less s.leads;
      stays = fewer c.args.stack.now c.loop-top.kept.now c.in-Some.below.now c.in-Some.ensures.kept c.loop-top.invariant.stays;
    }
