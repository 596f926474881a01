use Rattle.std.proofs.Common.{◌+◌, ◌-◌, ◌<◌, ◌∙◌, sym, drop, length, length-take, arith}
use Rattle.sh_pattern.proofs.Backtrack.{next_is, behind_is, drop_at, star_on, one_on, both_end, ↔_trans}
use Rattle.sh_pattern.proofs.search.matches.Goals as goal

pub returns-then-is_star : goal.returns-then-is_star
returns-then-is_star c =
    let p = c.args.pattern.now in
    let i = c.loop-at.at in
    let n = i + 1 + c.read-found.result.skip in
    let next = next_is p i _ _ c.read-found.result.kind c.read-found.result.skip c.loop-at-test.true (behind_is p (i + 1)) c.read-found.ensures.kind c.read-found.ensures.skip in
    let on = star_on p c.args.text.now i c.loop-at.byte n c.read-found.result.kind _ next (sym c.is_star.ensures ∙ c.if-is_star.true) in
    ↔_trans c.matches_behind.ensures (↔_trans (on.1, on.0) (c.loop-at.invariant.same.1, c.loop-at.invariant.same.0))

pub loop-at-preserved : goal.loop-at-preserved
loop-at-preserved c =
    let p = c.args.pattern.now in
    let t = c.args.text.now in
    let i = c.loop-at.at in
    let j = c.loop-at.byte in
    let n = i + 1 + c.read-found.result.skip in
    let inside : j < length t = omega arith in
    let next = next_is p i _ _ c.read-found.result.kind c.read-found.result.skip c.loop-at-test.true (behind_is p (i + 1)) c.read-found.ensures.kind c.read-found.ensures.skip in
    let on = one_on p t i j _ n c.read-found.result.kind _ next (drop_at t j 0 inside) (sym c.is_star.ensures ∙ c.if-is_star.false) (sym c.takes.ensures ∙ c.if-not-takes.false) in
    record {
      within = omega (arith, c.read-found.ensures.within, length-take (length p - (i + 1)) (drop (i + 1) p));
      bytes = omega arith;
      same = ↔_trans c.loop-at.invariant.same on;
    }

pub returns : goal.returns
returns c =
    let on = both_end c.args.pattern.now c.args.text.now c.loop-at.at c.loop-at.byte c.loop-at-test.false c.loop-at.invariant.bytes in
    ↔_trans on (c.loop-at.invariant.same.1, c.loop-at.invariant.same.0)
