use Rattle.std.proofs.Common.{subst}
use Rattle.sh_exec_waiting.specs.JobWaits.{job_suspended}
use Rattle.sh_exec_signals.specs.Placed.{IsPlaced}
use Rattle.sh_exec_waiting.specs.Waiting.{terminal_back}
use Rattle.sh_exec_waiting.proofs.job_wait.job_suspended.Goals as goal

-- the job is suspended from where the terminal is the shell's again, and its jobs are up to date
pub returns-clause-state : goal.returns-clause-state
returns-clause-state c = λ s at.
    let t = terminal_back s c.args.shell.now.pid in
    let stands = c.take_terminal_back.ensures.state s at in
    subst (λ shell. IsPlaced c.take_terminal_back.new.kernel c.tell_suspended.new.shell c.in_ok-active.active (job_suspended t shell c.args.wait.now c.args.signal))
    (c.bring_jobs_up_to_date.ensures t stands) (c.in_ok-active.ensures t stands)
