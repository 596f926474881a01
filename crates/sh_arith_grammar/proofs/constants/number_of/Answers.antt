use Rattle.std.proofs.Common.{◌∙◌}
use Rattle.sh_arith_grammar.proofs.Growing.{past}
use Rattle.sh_arith_grammar.proofs.constants.number_of.Goals as goal

pub returns-then-number-gt9223372036854775808 : goal.returns-then-number-gt9223372036854775808
returns-then-number-gt9223372036854775808 c =
    past c.args.radix c.loop-first.number c.in-Some.first.now c.from.result c.from-in-Some.result c.loop-first.left.now c.in-Some.others.now c.args.digits.now
    c.requires.positive c.in-Some.ensures.cases.0 c.loop-first.invariant.same c.from.ensures (c.from-in-Some.ensures ∙ c.digit_value.ensures.value) c.if-number-gt9223372036854775808.true
