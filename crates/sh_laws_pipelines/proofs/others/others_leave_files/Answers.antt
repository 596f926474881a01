use Rattle.sh_laws_pipelines.proofs.LeavingFiles.{others_still_read, others_still_write}
use Rattle.sh_laws_pipelines.proofs.others.others_leave_files.Goals as goal

pub returns-clause-reads : goal.returns-clause-reads
returns-clause-reads g = λ s t other made directory owners pid given all read c beside. others_still_read s t other made directory owners c beside pid given all read

pub returns-clause-writes : goal.returns-clause-writes
returns-clause-writes g = λ s t other made directory owners pid number written c beside. others_still_write s t other made directory owners c beside pid number written
