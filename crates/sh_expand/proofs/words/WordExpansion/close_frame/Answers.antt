use Rattle.std.proofs.Common.{sym, ap, ◌∙◌, drop}
use Rattle.sh_expand.specs.Expansion.{then}
use Rattle.sh_expand.specs.Parts.{run_words}
use Rattle.sh_expand.specs.WordProgress.{outcome_closed, rest, state_of}
use Rattle.sh_expand.proofs.Turns.{around_stops, frame_ends}
use Rattle.sh_expand.proofs.words.WordExpansion.close_frame.Goals as goal

pub returns-clause-outcome : goal.returns-clause-outcome
returns-clause-outcome c bs =
    let self = c.args.self.now in
    ap (λ o. then o (run_words (drop self.next self.words))) (sym (around_stops self.frames c.in-Some.fault c.end.new.vars))
    ∙ ap (rest self) (ap (λ f. outcome_closed f c.end.new.self c.end.new.vars bs) (sym c.in-Some.is) ∙ c.in_ok-fault.ensures.outcome bs ∙ sym (frame_ends c.args.frame (state_of self c.args.vars.now bs) c.requires))
