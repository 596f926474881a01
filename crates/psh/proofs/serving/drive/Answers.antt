use Rattle.std.proofs.Common.{◌+◌, ◌≤◌, ◌∙◌, length, take, take_all, ap, arith}
use Rattle.sh_exec.specs.declared.event.Event.TheVariants.{Run}
use Rattle.sh_exec.specs.State.{terminal_of}
use Rattle.psh_common.specs.Events.{each_event}
use Rattle.psh.proofs.Driving.{on_err, run-turns_more, run-within_line}
use Rattle.psh.proofs.serving.drive.Goals as goal

-- the world stood at the state before this line, so it stands at the state after it
pub loop-turns-preserved : goal.loop-turns-preserved
loop-turns-preserved g c = λ s h.
    rw (run-turns_more g.S.Stock.meaning s c.args.all.now c.loop-turns.turns-index (record { event = Run 0; times = 0 }) c.loop-turns-test.true)
    (c.in_ok-drive_line.ensures.run _ (c.loop-turns.invariant s h))

-- no line is left
pub returns-clause-run : goal.returns-clause-run
returns-clause-run g c = λ s h.
    let past : length c.args.all.now ≤ c.loop-turns.turns-index = omega arith in
    rw (← take_all _ _ past) (c.loop-turns.invariant s h)

-- the run stops in this line
pub returns-in_err-drive_line-clause-shown : goal.returns-in_err-drive_line-clause-shown
returns-in_err-drive_line-clause-shown g c = λ s h.
    let part = c.in_err-drive_line.ensures.shown _ (c.loop-turns.invariant s h) in
    on_err c.from_residual.result (
      length (each_event (take c.loop-turns.turns-index c.args.all.now)) + part.0,
      part.2
          ∙ ap terminal_of (run-within_line g.S.Stock.meaning s c.args.all.now c.loop-turns.turns-index (record { event = Run 0; times = 0 }) part.0 c.loop-turns-test.true part.1),
    )
