use Rattle.psh_common.proofs.Reading.{key_turns-more}
use Rattle.psh_common.proofs.events.key_turns.Goals as goal

pub returns-in_default-Some : goal.returns-in_default-Some
returns-in_default-Some c =
    rw c.in_ok-words.was (key_turns-more c.in_ok-words.field-0.now c.cut.result.0.now c.in_default-Some.field-0-1.now (rw c.in_default-Some.is-1 at c.cut.ensures.parts))
