use Rattle.std.proofs.Common.{◌≡◌, ◌+◌, ◌-◌, ◌<◌, ◌≤◌, ◌∷◌, ◌∙◌, sym, take, drop, length, length-take, arith}
use Rattle.sh_pattern.specs.Place.{from}
use Rattle.sh_pattern.proofs.Backtrack.{take_placed, star_same, retry_same, over, mismatch, drop_at, next_is, element, behind_is}
use Rattle.sh_pattern.proofs.search.step.Goals as goal
use Rattle.sh_pattern.proofs.search.step.Goals.{After-read-found}

pub returns-then-place-pattern-clause-same : goal.returns-then-place-pattern-clause-same
returns-then-place-pattern-clause-same c = retry_same c.args.pattern.now c.args.text.now c.args.place c.requires.placed (over c.args.pattern.now c.args.text.now c.args.place.at c.args.place.byte _ c.if-place-pattern.true (drop_at c.args.text.now c.args.place.byte 0 c.requires.inside))

next : (c : After-read-found) → from c.args.pattern.now c.args.place.at ≡ element c.read-found.result.kind (take c.read-found.result.skip (take (length c.args.pattern.now - (c.args.place.at + 1)) (drop (c.args.place.at + 1) c.args.pattern.now))) ∷ from c.args.pattern.now (c.args.place.at + 1 + c.read-found.result.skip)
next c = next_is c.args.pattern.now c.args.place.at _ _ c.read-found.result.kind c.read-found.result.skip c.if-place-pattern.false (behind_is c.args.pattern.now (c.args.place.at + 1)) c.read-found.ensures.kind c.read-found.ensures.skip

pub returns-then-is_star-clause-same : goal.returns-then-is_star-clause-same
returns-then-is_star-clause-same c = star_same c.args.pattern.now c.args.text.now c.args.place c.requires.placed (c.args.place.at + 1 + c.read-found.result.skip) c.read-found.result.kind _ (next (goal.at.returns-then-is_star-clause-same c).After-read-found) (sym c.is_star.ensures ∙ c.if-is_star.true)

pub returns-then-takes-clause-placed : goal.returns-then-takes-clause-placed
returns-then-takes-clause-placed c =
    let p = c.args.pattern.now in
    let i = c.args.place.at in
    let inside : c.read-found.result.skip ≤ length p - (i + 1) = omega (arith, c.read-found.ensures.within, length-take (length p - (i + 1)) (drop (i + 1) p)) in
    let l : i < i + 1 + c.read-found.result.skip = omega arith in
    let e : i + 1 + c.read-found.result.skip ≤ length p = omega (arith, c.if-place-pattern.false) in
    take_placed p c.args.text.now c.args.place c.requires.placed (i + 1 + c.read-found.result.skip) c.read-found.result.kind _ _ l e c.requires.inside (next (goal.at.returns-then-takes-clause-placed c).After-read-found) (drop_at c.args.text.now c.args.place.byte 0 c.requires.inside) (sym c.is_star.ensures ∙ c.if-is_star.false) (sym c.takes.ensures ∙ c.if-takes.true)

pub returns-clause-same : goal.returns-clause-same
returns-clause-same c = retry_same c.args.pattern.now c.args.text.now c.args.place c.requires.placed (mismatch c.args.pattern.now c.args.text.now c.args.place.at c.args.place.byte _ _ _ _ (next (goal.at.returns-clause-same c).After-read-found) (drop_at c.args.text.now c.args.place.byte 0 c.requires.inside) (sym c.is_star.ensures ∙ c.if-is_star.false) (sym c.takes.ensures ∙ c.if-takes.false))
