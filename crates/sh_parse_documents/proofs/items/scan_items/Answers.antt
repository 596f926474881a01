use Rattle.sh_parse_documents.proofs.Scanning.{begins, goes}
use Rattle.sh_parse_documents.proofs.items.scan_items.Goals as goal

pub loop-item-init : goal.loop-item-init
loop-item-init c = rw (c.new-items.ensures.items, c.new-waiting.ensures) (begins c.args.at_end c.args.text.now)

pub loop-item-preserved : goal.loop-item-preserved
loop-item-preserved c =
    rw (c.in_ok-push-in-Ok.ensures.items, c.in_ok-pass-in-Ok.ensures.passed)
    (goes c.args.at_end c.args.text.now c.loop-item.items.items c.loop-item.waiting c.loop-item.at c.in-Ok.item c.loop-item.invariant c.in-Ok.ensures.answers c.in_default.not-End c.in-Ok.ensures.placed)
