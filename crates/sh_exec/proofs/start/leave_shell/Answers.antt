use Rattle.sh_exec.proofs.start.leave_shell.Goals as goal

-- the process is released from where what was set aside is closed
pub returns-clause-state : goal.returns-clause-state
returns-clause-state c = λ s at. c.release_own_signals.ensures.state _ (c.start_program-started.ensures.state s at).1
