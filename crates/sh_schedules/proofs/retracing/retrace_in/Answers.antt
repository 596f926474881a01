use Rattle.std.proofs.Common.{refl, arith}
use Rattle.sh_schedules.specs.Paths.{events_of}
use Rattle.sh_schedules_outcomes.specs.Shell.{shell}
use Rattle.sh_schedules.proofs.Stack.{spare_spent}
use Rattle.sh_schedules.proofs.retracing.retrace_in.Goals as goal

pub returns : goal.returns
returns g c = λ s h.
    let w = shell g.S.Stock.meaning in
    let taken = c.in_ok-standing.ensures s h in
    let es = events_of c.args.path.now in
    record {
      events_are = c.in_ok-events.ensures;
      outcome_is = c.in_ok-outcome.ensures _ taken.stands;
      preempts = λ few.
          let left_is = taken.left_is in
          let spent = spare_spent w 4294967295 s es (omega arith) in
          omega arith;
      schedules_are = refl;
    }
