use Rattle.sh_laws_independence.proofs.Elsewhere.{both_elsewhere, file_reads, reads_elsewhere, writes_elsewhere}
use Rattle.sh_laws_independence.proofs.requests.requests_elsewhere_are_independent.Goals as goal

pub returns-clause-reads : goal.returns-clause-reads
returns-clause-reads c = reads_elsewhere

pub returns-clause-both : goal.returns-clause-both
returns-clause-both c = both_elsewhere

pub returns-clause-writes : goal.returns-clause-writes
returns-clause-writes c = writes_elsewhere

pub returns-clause-files : goal.returns-clause-files
returns-clause-files c = file_reads
