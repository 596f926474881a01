use Rattle.psh_common.proofs.Reading.{run_turns-more}
use Rattle.psh_common.proofs.events.run_turns.Goals as goal

pub returns-in_default-Some : goal.returns-in_default-Some
returns-in_default-Some c =
    rw c.in_ok-words.was
    (run_turns-more c.in_ok-words.field-0.now c.cut.result.0.now c.in-Some.rest.now c.cut-2.result.0.now c.in_default-Some.field-0-1.now
    (rw c.in-Some.is at c.cut.ensures.parts) (rw c.in_default-Some.is-1 at c.cut-2.ensures.parts))
