use Rattle.psh_common.proofs.Reading.{next_turns-more}
use Rattle.psh_common.proofs.events.next_turns.Goals as goal

pub returns-in_default-Some : goal.returns-in_default-Some
returns-in_default-Some c =
    rw c.in-Some.is (next_turns-more c.in-Some.words.now c.cut.result.0.now c.in_default-Some.field-0-1.now (rw c.in_default-Some.is-1 at c.cut.ensures.parts))
