use Rattle.sh_laws.proofs.StandingRuns.{have_actions, run_stands, runs_next}
use Rattle.sh_laws.proofs.turns.runs_stand_before_actions.Goals as goal

pub returns-clause-start : goal.returns-clause-start
returns-clause-start c d = λ image settings events. runs_next _ image settings events

pub returns-clause-later : goal.returns-clause-later
returns-clause-later c d = λ s events h. run_stands _ s events h

pub returns-clause-told : goal.returns-clause-told
returns-clause-told c d = λ image settings events. have_actions _ (runs_next _ image settings events)
