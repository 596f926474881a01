use Rattle.std.proofs.Common.{◌≡◌, sym, arith}
use Rattle.psh.proofs.Processes.{told_all, told_full, told_more}
use Rattle.psh.proofs.report.put_processes.Goals as goal

-- no process has the number
pub returns-in_default : goal.returns-in_default
returns-in_default g c = λ s h.
    told_all s.machine.machine.processes c.places.place c.places.text.items c.args.text.now.items (sym (c.in_default.ensures.view s h)) (omega arith) (c.places.invariant s h).0

-- the process of this number is told
pub places-preserved : goal.places-preserved
places-preserved g c = λ s h.
    told_more s.machine.machine.processes c.places.place c.in-Some.status c.places.text.items c.put_process.new.text.items c.args.text.now.items
    (c.in-Some.ensures.view s h) (c.places.invariant s h).0 c.in_ok-put_process.ensures

-- there are as many as may be
pub returns : goal.returns
returns g c = λ s h.
    let all : c.places.place ≡ 2147483548 = omega arith in
    told_full s.machine.machine.processes c.places.place c.places.text.items c.args.text.now.items all (c.places.invariant s h).0
