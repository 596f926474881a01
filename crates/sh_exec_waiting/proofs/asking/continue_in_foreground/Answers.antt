use Rattle.sh_exec_waiting.proofs.asking.continue_in_foreground.Goals as goal

-- the group is sent CONT from where it is the foreground group
pub returns-clause-state : goal.returns-clause-state
returns-clause-state c = λ s at. c.continue_group.ensures.state _ (c.set_foreground.ensures.state s at)
