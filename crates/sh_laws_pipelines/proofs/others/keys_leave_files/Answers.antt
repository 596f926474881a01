use Rattle.sh_laws_pipelines.proofs.LeavingFiles.{keys_still_read, keys_still_write}
use Rattle.sh_laws_pipelines.proofs.others.keys_leave_files.Goals as goal

pub returns-clause-reads : goal.returns-clause-reads
returns-clause-reads c = keys_still_read

pub returns-clause-writes : goal.returns-clause-writes
returns-clause-writes c = keys_still_write
