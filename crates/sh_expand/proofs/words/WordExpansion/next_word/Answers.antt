use Rattle.std.proofs.Common.{refl, ◌∙◌, ◌+◌}
use Rattle.sh_expand.specs.WordProgress.{state_of}
use Rattle.sh_expand.proofs.Turns.{first_word, found, same_rest}
use Rattle.sh_expand.proofs.words.WordExpansion.next_word.Goals as goal

pub returns-clause-outcome : goal.returns-clause-outcome
returns-clause-outcome c env bs =
    let self = c.args.self.now in
    let new = c.enter.new.self in
    let e = c.in_ok-enter.ensures in
    same_rest self new (self.next + 1) env bs e.words e.next e.done
    ∙ first_word self.words self.next c.in-Some.word.now c.in_ok-parts.parts c.in-Some.word.now.context self.frames new.frames (state_of self env bs) new.draft c.requires
    (found self.words _ self.next c.in-Some.word.now c.as_slice.ensures c.in-Some.ensures.lookup.3.0 (c.in-Some.ensures.lookup.3.1 c.in-Some.word.now)) c.in_ok-parts.ensures refl e.frames e.draft
