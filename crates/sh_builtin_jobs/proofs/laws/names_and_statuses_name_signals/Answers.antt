use Rattle.sh_builtin_jobs.proofs.Naming.{names_are_taken, statuses_are_read}
use Rattle.sh_builtin_jobs.proofs.laws.names_and_statuses_name_signals.Goals as goal

pub returns-clause-names : goal.returns-clause-names
returns-clause-names c = names_are_taken

pub returns-clause-statuses : goal.returns-clause-statuses
returns-clause-statuses c = statuses_are_read
