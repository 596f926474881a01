use Rattle.std.proofs.Common.{ap, sym, refl, ◌∙◌, ◌≡◌, ◌+◌, arith, drop}
use Rattle.sh_expand.specs.Expansion.{then}
use Rattle.sh_expand.specs.Parts.{parts_of, run_part, run_words}
use Rattle.sh_expand.specs.Weights.{part_weight, parts_weight}
use Rattle.sh_expand.specs.WordProgress.{frames_weight, left_of, outcome_at, state_of}
use Rattle.sh_expand.proofs.Turns.{at_index, step_weight, steps}
use Rattle.sh_expand.proofs.words.WordExpansion.take_part.Goals as goal

pub returns-clause-outcome : goal.returns-clause-outcome
returns-clause-outcome c bs =
    let self = c.args.self.now in
    let f = c.args.frame in
    let p = c.index-as_slice-frame.result in
    let env = c.args.vars.now in
    let s = state_of self env bs in
    c.in_ok-step.ensures.outcome env bs
    ∙ ap (λ o. then o (run_words (drop self.next self.words)))
    (steps self.frames c.push.new.self f p s (outcome_at c.in_ok-act.act (record s { draft = c.begin.new.draft })) c.in_ok-push.ensures.pushed
    (at_index (parts_of f.parts) c.as_slice.result.now f.at p (c.as_slice.ensures ∙ ap parts_of c.get.ensures) c.requires c.index-as_slice-frame.is) c.requires
    (ap (λ at. run_part p at s) (sym c.place-place.ensures) ∙ c.in_ok-act.ensures.run s refl refl))

pub returns-clause-smaller : goal.returns-clause-smaller
returns-clause-smaller c h =
    let self = c.args.self.now in
    let f = c.args.frame in
    let p = c.index-as_slice-frame.result in
    let a : frames_weight c.push.new.self + part_weight p ≡ frames_weight self.frames + (1 + parts_weight (left_of f)) =
    step_weight self.frames c.push.new.self f p c.in_ok-push.ensures.pushed
    (at_index (parts_of f.parts) c.as_slice.result.now f.at p (c.as_slice.ensures ∙ ap parts_of c.get.ensures) c.requires c.index-as_slice-frame.is) in
    omega (arith, a, c.in_ok-step.ensures.smaller h, c.in_ok-act.ensures.weight)
