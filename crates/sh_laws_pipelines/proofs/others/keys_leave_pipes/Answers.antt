use Rattle.sh_kernel.specs.Calls.{after_key}
use Rattle.sh_laws_pipelines.proofs.Beside.{keys_leave, still_reads, still_writes}
use Rattle.sh_laws_pipelines.proofs.others.keys_leave_pipes.Goals as goal

pub returns-clause-reads : goal.returns-clause-reads
returns-clause-reads c = λ s byte owners pid given all read alive. still_reads owners s.machine (after_key s byte).machine (keys_leave owners s byte alive) pid given all read

pub returns-clause-writes : goal.returns-clause-writes
returns-clause-writes c = λ s byte owners pid pipe state alive. still_writes owners s.machine (after_key s byte).machine (keys_leave owners s byte alive) pid pipe state
