use Rattle.std.proofs.Common.{List, OnOk, subst}
use Rattle.sh_exec.specs.declared.event.Event.{Event}
use Rattle.sh_schedules_outcomes.specs.Found.{Noted}
use Rattle.sh_schedules.specs.Paths.{events_of}
use Rattle.sh_schedules_outcomes.specs.declared.outcome.Outcome.{Outcome}
use Rattle.sh_schedules.proofs.exploring.count.Goals as goal

pub returns : goal.returns
returns g c = λ s h.
    subst (λ (o : Outcome). OnOk c.note.result (Noted c.args.found.now.items o (events_of c.args.path.now) c.args.preemptions c.note.new.found.items)) (c.in_ok-outcome.ensures s h)
    (subst (λ (es : List Event). OnOk c.note.result (Noted c.args.found.now.items c.in_ok-outcome.outcome es c.args.preemptions c.note.new.found.items)) c.in_ok-events.ensures c.note.ensures.noted)
