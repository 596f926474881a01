use Rattle.std.proofs.Common.{subst}
use Rattle.sh_exec_signals.specs.Placed.{IsPlaced}
use Rattle.sh_exec_waiting.specs.Waiting.{suspended, terminal_back}
use Rattle.sh_exec_waiting.proofs.waiting.give_way.Goals as goal

-- the pipeline is suspended from where the terminal is the shell's again, and its jobs are up to date
pub returns-clause-state : goal.returns-clause-state
returns-clause-state c = λ s at.
    let t = terminal_back s c.args.shell.now.pid in
    let stands = c.take_terminal_back.ensures.state s at in
    subst (λ shell. IsPlaced c.take_terminal_back.new.kernel c.suspend.new.shell c.in_ok-active.active (suspended t shell c.args.children.now c.args.text.now c.args.signal))
    (c.bring_jobs_up_to_date.ensures t stands) (c.in_ok-active.ensures t stands)
