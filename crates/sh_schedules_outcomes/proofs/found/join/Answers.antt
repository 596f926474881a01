use Rattle.std.proofs.Common.{List, sym, subst, arith}
use Rattle.sh_schedules_outcomes.specs.Found.{IsPlace, IsSum, Joined}
use Rattle.sh_schedules_outcomes.specs.declared.found.Found.{Found}
use Rattle.sh_schedules_outcomes.proofs.Tally.{joined_at, joined_new}
use Rattle.sh_schedules_outcomes.proofs.found.join.Goals as goal

pub returns-then-place-len-clause-joined : goal.returns-then-place-len-clause-joined
returns-then-place-len-clause-joined c =
    joined_at c.args.found.now.items c.args.one c.place_of-place.result c.index_mut.result.now c.add.new.self
    (subst (λ (fs : List Found). IsPlace fs c.args.one.outcome c.place_of-place.result) c.deref.ensures.value c.place_of-place.ensures)
    (omega arith)
    (subst (λ (f : Found). IsSum f c.args.one c.add.new.self) c.index_mut.ensures.value c.add.ensures)

pub returns-clause-joined : goal.returns-clause-joined
returns-clause-joined c =
    subst (Joined c.args.found.now.items c.args.one) (sym c.in_ok-push.ensures.items)
    (joined_new c.args.found.now.items c.args.one c.place_of-place.result
    (subst (λ (fs : List Found). IsPlace fs c.args.one.outcome c.place_of-place.result) c.deref.ensures.value c.place_of-place.ensures)
    (omega arith))
