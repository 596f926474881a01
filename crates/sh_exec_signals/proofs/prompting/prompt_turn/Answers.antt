use Rattle.std.proofs.Common.{◌∙◌, ap, subst}
use Rattle.sh_exec_signals.specs.Placed.{IsPlaced}
use Rattle.sh_exec_signals.specs.Prompting.{job_to_tell, prompt_by, prompt_turn}
use Rattle.sh_exec_signals.proofs.prompting.prompt_turn.Goals as goal

-- the write that comes next is that of the job that is to be told
pub returns-clause-state : goal.returns-clause-state
unfolding prompt_turn
returns-clause-state c = λ s at.
    subst (λ job. IsPlaced c.write_next.new.kernel c.write_next.new.shell c.in_ok-active.active (prompt_by s c.args.shell.now c.args.beginning job))
    (c.job_to_tell-job.ensures s at ∙ ap (job_to_tell s c.args.shell.now) c.as_slice.ensures) (c.in_ok-active.ensures.state s at)
