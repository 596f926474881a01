use Rattle.std.proofs.Common.{◌∙◌, ◌+◌, ◌-◌, sym, ap, drop, length, length-take, arith}
use Rattle.sh_pattern.specs.Items.{item_has}
use Rattle.sh_pattern.proofs.ItemLemmas.{some_has-skip, has_on, drop_at, behind_is}
use Rattle.sh_pattern.proofs.item.has_from.Goals as goal

pub items-init : goal.items-init
items-init c = record { within = c.requires; same = some_has-skip c.args.skip c.args.marks.now c.args.byte }

pub items-preserved : goal.items-preserved
items-preserved c =
    let marks = c.args.marks.now in
    let at = c.items.at in
    let none = sym (c.has.ensures ∙ ap (λ i. item_has i c.args.byte) c.take_item-taken.ensures.item) ∙ c.if-has.false in
    record {
      within = omega (arith, c.take_item-taken.ensures.within, length-take (length marks - (at + 1)) (drop (at + 1) marks));
      same = c.items.invariant.same ∙ has_on marks at _ _ c.take_item-taken.result.skip c.args.byte (drop_at marks at _ c.items-test.true) (behind_is marks (at + 1)) c.take_item-taken.ensures.skip (sym c.is_bare.ensures ∙ c.if-is_bare.false) none;
    }
