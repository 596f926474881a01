use Rattle.std.proofs.Common.{◌+◌, ◌-◌, ◌∙◌, sym, drop, length, length-take, arith}
use Rattle.sh_pattern.proofs.Backtrack.{next_is, behind_is, vanish_star, ↔_trans}
use Rattle.sh_pattern.proofs.search.vanishes.Goals as goal

pub loop-at-preserved : goal.loop-at-preserved
loop-at-preserved c =
    let p = c.args.pattern.now in
    let i = c.loop-at.at in
    let next = next_is p i _ _ c.read-found.result.kind c.read-found.result.skip c.loop-at-test.true (behind_is p (i + 1)) c.read-found.ensures.kind c.read-found.ensures.skip in
    let on = vanish_star p i (i + 1 + c.read-found.result.skip) c.read-found.result.kind _ next (sym c.is_star.ensures ∙ c.if-not-is_star.false) in
    (omega (arith, c.read-found.ensures.within, length-take (length p - (i + 1)) (drop (i + 1) p)), ↔_trans c.loop-at.invariant.1 (on.1, on.0))
