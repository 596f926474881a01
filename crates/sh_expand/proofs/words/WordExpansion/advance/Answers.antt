use Rattle.std.proofs.Common.{ap, sym, ◌∙◌, ◌≡◌, ◌+◌, arith, drop}
use Rattle.sh_expand.specs.Expansion.{then}
use Rattle.sh_expand.specs.Parts.{parts_of, run_words}
use Rattle.sh_expand.specs.Weights.{parts_weight}
use Rattle.sh_expand.specs.WordProgress.{act_weight, frames_weight, outcome_at, rest, state_of, words_weight}
use Rattle.sh_expand.proofs.Turns.{around_stops, enter, enter_weight, same_rest}
use Rattle.sh_expand.proofs.words.WordExpansion.advance.Goals as goal

pub returns-in_ok-enter-in-Enter-clause-outcome : goal.returns-in_ok-enter-in-Enter-clause-outcome
returns-in_ok-enter-in-Enter-clause-outcome c env bs =
    let self = c.args.self.now in
    let new = c.enter.new.self in
    let e = c.in_ok-enter-in-Enter.ensures in
    same_rest self new self.next env bs e.words e.next e.done
    ∙ ap (λ o. then o (run_words (drop self.next self.words))) (enter self.frames new.frames c.in-Enter.word c.in-Enter.purpose c.in-Enter.context (state_of self env bs) new.draft e.frames e.draft)
    ∙ ap (λ a. rest self (outcome_at a (state_of self env bs))) (sym c.in-Enter.is)

pub returns-in_ok-enter-in-Enter-clause-smaller : goal.returns-in_ok-enter-in-Enter-clause-smaller
returns-in_ok-enter-in-Enter-clause-smaller c h =
    let self = c.args.self.now in
    let new = c.enter.new.self in
    let e = c.in_ok-enter-in-Enter.ensures in
    let w : words_weight (drop new.next new.words) ≡ words_weight (drop self.next self.words) =
    ap (λ ws. words_weight (drop new.next ws)) e.words ∙ ap (λ k. words_weight (drop k self.words)) e.next in
    let a : frames_weight new.frames ≡ frames_weight self.frames + (1 + parts_weight (parts_of c.in-Enter.word)) =
    enter_weight self.frames new.frames c.in-Enter.word c.in-Enter.purpose c.in-Enter.context self.draft e.frames in
    let b : act_weight c.args.act ≡ 1 + parts_weight (parts_of c.in-Enter.word) = ap act_weight c.in-Enter.is in
    omega (arith, w, a, b)

pub returns-in-Fail-clause-outcome : goal.returns-in-Fail-clause-outcome
returns-in-Fail-clause-outcome c env bs =
    let self = c.args.self.now in
    ap (λ o. then o (run_words (drop self.next self.words))) (sym (around_stops self.frames c.in-Fail.fault env))
    ∙ ap (λ a. rest self (outcome_at a (state_of self env bs))) (sym c.in-Fail.is)
