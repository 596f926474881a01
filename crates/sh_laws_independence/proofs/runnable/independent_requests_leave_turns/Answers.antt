use Rattle.sh_laws_independence.proofs.Waiting.{processes_stay, reads_as_before, writes_as_before}
use Rattle.sh_laws_independence.proofs.runnable.independent_requests_leave_turns.Goals as goal

pub returns-clause-read : goal.returns-clause-read
returns-clause-read c = reads_as_before

pub returns-clause-write : goal.returns-clause-write
returns-clause-write c = writes_as_before

pub returns-clause-processes : goal.returns-clause-processes
returns-clause-processes c = processes_stay
