use Rattle.sh_exec_turns.proofs.groups.settle_fork.Goals as goal

-- the process is in its group from where it is released
pub returns-clause-state : goal.returns-clause-state
returns-clause-state c = λ s at. c.place.ensures.state _ (c.release.ensures.state s at)
