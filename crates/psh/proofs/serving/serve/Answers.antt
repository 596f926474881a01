use Rattle.std.proofs.Common.{refl}
use Rattle.psh.specs.Serving.{cut_within, events_refused, image_refused}
use Rattle.psh.proofs.Driving.{refused_by}
use Rattle.psh.proofs.serving.serve.Goals as goal

pub returns-in-Err-clause-refused : goal.returns-in-Err-clause-refused
returns-in-Err-clause-refused g c = λ h.
    let told = c.refuse_image.ensures.told h in
    (refl, image_refused c.in-Err.fault (c.in-Err.ensures.refused told.0) told.1)

pub returns-in-Ok-read_events-clause-done : goal.returns-in-Ok-read_events-clause-done
returns-in-Ok-read_events-clause-done g c = λ h.
    record {
      files = c.in-Ok.files;
      all = c.deref.result.now;
      read = record { image_is = c.in-Ok.ensures.ok; events_are = rw c.deref.ensures.value c.in-Ok-read_events.ensures.ok };
      shown = c.run.ensures.done h;
    }

pub returns-in-Ok-read_events-clause-cut : goal.returns-in-Ok-read_events-clause-cut
returns-in-Ok-read_events-clause-cut g c = λ h.
    cut_within c.in-Ok.files c.deref.result.now
    (record { image_is = c.in-Ok.ensures.ok; events_are = rw c.deref.ensures.value c.in-Ok-read_events.ensures.ok })
    (c.run.ensures.cut h)

pub returns-in-Err-read_events-clause-refused : goal.returns-in-Err-read_events-clause-refused
returns-in-Err-read_events-clause-refused g c = λ h.
    let told = c.refuse_events.ensures.told h in
    (refl, events_refused c.in-Ok.files told.0 c.in-Ok.ensures.ok (refused_by c.args.events.now c.in-Err-read_events.fault told.0 told.1 c.in-Err-read_events.ensures.refused) told.2)
