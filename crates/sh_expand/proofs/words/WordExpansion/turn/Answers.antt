use Rattle.std.proofs.Common.{ap, sym, ◌∙◌, ◌≡◌, ◌+◌, arith, drop}
use Rattle.sh_expand.specs.Expansion.{then}
use Rattle.sh_expand.specs.Parts.{run_words}
use Rattle.sh_expand.specs.Weights.{parts_weight}
use Rattle.sh_expand.specs.WordProgress.{frames_weight, left_of, state_of}
use Rattle.sh_expand.proofs.Turns.{pop_weight, popped}
use Rattle.sh_expand.proofs.words.WordExpansion.turn.Goals as goal

pub returns-then-frame-len-clause-outcome : goal.returns-then-frame-len-clause-outcome
returns-then-frame-len-clause-outcome c bs =
    let self = c.args.self.now in
    c.in_ok-step.ensures.outcome bs
    ∙ ap (λ o. then o (run_words (drop self.next self.words))) (sym (popped self.frames c.pop.new.self c.in-Some.frame (state_of self c.args.vars.now bs) c.in-Some.ensures.items))

pub returns-then-frame-len-clause-smaller : goal.returns-then-frame-len-clause-smaller
returns-then-frame-len-clause-smaller c h =
    let a : frames_weight c.args.self.now.frames ≡ frames_weight c.pop.new.self + (1 + parts_weight (left_of c.in-Some.frame)) = pop_weight c.args.self.now.frames c.pop.new.self c.in-Some.frame c.in-Some.ensures.items in
    omega (arith, a, c.in_ok-step.ensures.smaller h)

pub returns-clause-outcome : goal.returns-clause-outcome
returns-clause-outcome c bs =
    let self = c.args.self.now in
    c.in_ok-step-2.ensures.outcome bs
    ∙ ap (λ o. then o (run_words (drop self.next self.words))) (sym (popped self.frames c.pop.new.self c.in-Some.frame (state_of self c.args.vars.now bs) c.in-Some.ensures.items))

pub returns-clause-smaller : goal.returns-clause-smaller
returns-clause-smaller c h =
    let a : frames_weight c.args.self.now.frames ≡ frames_weight c.pop.new.self + (1 + parts_weight (left_of c.in-Some.frame)) = pop_weight c.args.self.now.frames c.pop.new.self c.in-Some.frame c.in-Some.ensures.items in
    omega (arith, a, c.in_ok-step-2.ensures.smaller)
