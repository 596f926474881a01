use Rattle.sh_laws.proofs.Terminals.{given_back, given_back_at_rest, job_given_back, job_given_back_at_rest}
use Rattle.sh_laws.proofs.turns.waits_give_the_terminal_back.Goals as goal

pub returns-clause-pipelines : goal.returns-clause-pipelines
returns-clause-pipelines c = given_back

pub returns-clause-jobs : goal.returns-clause-jobs
returns-clause-jobs c = job_given_back

pub returns-clause-pipelines_at_rest : goal.returns-clause-pipelines_at_rest
returns-clause-pipelines_at_rest c = given_back_at_rest

pub returns-clause-jobs_at_rest : goal.returns-clause-jobs_at_rest
returns-clause-jobs_at_rest c = job_given_back_at_rest
