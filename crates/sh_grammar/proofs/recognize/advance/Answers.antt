use Rattle.std.proofs.Common.{◌++◌, drop, take, ap, ◌∙◌}
use Rattle.std.specs.List.{count_by}
use Rattle.sh_grammar.specs.Awaited.{is_nonterminal}
use Rattle.sh_grammar.proofs.Counts.{counted_above, counted_after}
use Rattle.sh_grammar.proofs.recognize.advance.Goals as goal

pub overflow_sub-stay : goal.overflow_sub-stay
overflow_sub-stay c =
    counted_above c.args.counted.nonterminal c.in_ok-kept.kept c.args.counted.times c.count_above.result c.args.stack.now.items c.requires.counted
    (c.count_above.ensures ∙ ap (λ x. count_by (is_nonterminal c.args.counted.nonterminal) (drop c.in_ok-kept.kept x)) c.deref-2.ensures.value)

pub returns-clause-counted : goal.returns-clause-counted
returns-clause-counted c =
    counted_after c.args.counted.nonterminal c.in_ok-kept.kept c.args.counted.times c.count_above.result c.count.result c.args.stack.now.items c.lead.new.above.items c.replace_top.new.stack.items c.requires.counted
    (c.count_above.ensures ∙ ap (λ x. count_by (is_nonterminal c.args.counted.nonterminal) (drop c.in_ok-kept.kept x)) c.deref-2.ensures.value)
    (c.count.ensures ∙ ap (count_by (is_nonterminal c.args.counted.nonterminal)) c.deref-4.ensures.value)
    (c.in_ok-replace_top.ensures.ok ∙ ap (λ x. take c.in_ok-kept.kept c.args.stack.now.items ++ x) c.deref-3.ensures.value)
