use Rattle.std.proofs.Common.{◌∙◌, ◌+◌, ◌-◌, sym, drop, length, length-take, arith}
use Rattle.sh_pattern.proofs.ItemLemmas.{closing-skip, close_on, drop_at, behind_is}
use Rattle.sh_pattern.proofs.item.close_from.Goals as goal

pub items-init : goal.items-init
items-init c = record { within = c.requires; same = closing-skip c.args.skip c.args.marks.now }

pub items-preserved : goal.items-preserved
items-preserved c =
    let marks = c.args.marks.now in
    let at = c.items.at in
    record {
      within = omega (arith, c.take_item.ensures.within, length-take (length marks - (at + 1)) (drop (at + 1) marks));
      same = c.items.invariant.same ∙ close_on marks at _ _ c.take_item.result.skip (drop_at marks at _ c.items-test.true) (behind_is marks (at + 1)) c.take_item.ensures.skip (sym c.is_bare.ensures ∙ c.if-is_bare.false);
    }
