use Rattle.std.proofs.Common.{◌≡◌, ℕ, take, sym, ap, ◌∙◌, arith}
use Rattle.sh_schedules_outcomes.proofs.Looking.{status_none, status_pushed, statuses_of}
use Rattle.sh_schedules_outcomes.proofs.look.statuses.Goals as goal

-- no process has the number
pub returns-in_default : goal.returns-in_default
returns-in_default g c = λ s h.
    status_none s.machine.machine.processes c.places.place 2147483548 c.places.statuses (sym (c.in_default.ensures.view s h)) (omega arith) (c.places.invariant s h).0

pub places-preserved : goal.places-preserved
places-preserved g c = λ s h.
    status_pushed s.machine.machine.processes c.places.place c.in-Some.status c.places.statuses c.push.new.self (c.in-Some.ensures.view s h) (c.places.invariant s h).0
    c.in_ok-push.ensures.pushed

-- there are as many as may be
pub returns : goal.returns
returns g c = λ s h.
    let all : c.places.place ≡ 2147483548 = omega arith in
    (c.places.invariant s h).0 ∙ ap (λ (j : ℕ). take j (statuses_of s.machine.machine.processes)) all
