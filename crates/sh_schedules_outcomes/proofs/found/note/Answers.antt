use Rattle.std.proofs.Common.{List, sym, subst, arith}
use Rattle.sh_schedules_outcomes.specs.Found.{IsAgain, IsPlace, Noted}
use Rattle.sh_schedules_outcomes.specs.declared.found.Found.{Found}
use Rattle.sh_schedules_outcomes.proofs.Tally.{noted_at, noted_new}
use Rattle.sh_schedules_outcomes.proofs.found.note.Goals as goal

pub returns-then-place-len-clause-noted : goal.returns-then-place-len-clause-noted
returns-then-place-len-clause-noted c =
    noted_at c.args.found.now.items c.args.outcome c.args.events c.args.preemptions c.place_of-place.result c.index_mut.result.now c.again.new.self
    (subst (λ (fs : List Found). IsPlace fs c.args.outcome c.place_of-place.result) c.deref.ensures.value c.place_of-place.ensures)
    (omega arith)
    (subst (λ (f : Found). IsAgain f c.args.events c.args.preemptions c.again.new.self) c.index_mut.ensures.value c.again.ensures)

pub returns-clause-noted : goal.returns-clause-noted
returns-clause-noted c =
    subst (Noted c.args.found.now.items c.args.outcome c.args.events c.args.preemptions) (sym c.in_ok-push.ensures.items)
    (noted_new c.args.found.now.items c.args.outcome c.args.events c.args.preemptions c.place_of-place.result
    (subst (λ (fs : List Found). IsPlace fs c.args.outcome c.place_of-place.result) c.deref.ensures.value c.place_of-place.ensures)
    (omega arith))
