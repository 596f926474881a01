use Rattle.sh_exec_signals.proofs.signals.release_all.Goals as goal

-- each signal is released from where those before it are
pub returns-clause-state : goal.returns-clause-state
returns-clause-state c = λ s at.
    c.release-5.ensures.state _ (c.release-4.ensures.state _ (c.release-3.ensures.state _ (c.release-2.ensures.state _ (c.release.ensures.state s at))))
