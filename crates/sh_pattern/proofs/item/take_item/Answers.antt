use Rattle.std.proofs.Common.{◌∙◌, sym, arith}
use Rattle.sh_pattern.proofs.ItemLemmas.{named_is}
use Rattle.sh_pattern.proofs.item.take_item.Goals as goal

pub returns-clause-item : goal.returns-clause-item
returns-clause-item c =
    c.class_item.ensures ∙ named_is c.args.mark c.args.behind.now c.in-Some.count _ (sym c.is_bare.ensures ∙ c.if-not-is_bare.false) (sym c.in-Some.is ∙ c.class_name.ensures.count) (omega arith)
