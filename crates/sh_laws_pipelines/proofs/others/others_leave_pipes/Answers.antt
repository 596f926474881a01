use Rattle.sh_laws_pipelines.proofs.Beside.{requests_leave, still_reads, still_writes}
use Rattle.sh_laws_pipelines.proofs.others.others_leave_pipes.Goals as goal

pub returns-clause-reads : goal.returns-clause-reads
returns-clause-reads c = λ s t other made directory owners pid given all read changes beside. still_reads owners s.machine t.machine (requests_leave s t other made directory owners changes beside) pid given all read

pub returns-clause-writes : goal.returns-clause-writes
returns-clause-writes c = λ s t other made directory owners pid pipe state changes beside. still_writes owners s.machine t.machine (requests_leave s t other made directory owners changes beside) pid pipe state
