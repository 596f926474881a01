use Rattle.sh_files.proofs.Kept.{read_whole}
use Rattle.sh_files.proofs.Sizes.{read_size}
use Rattle.sh_files.proofs.Whole.{written_reads}
use Rattle.sh_files.proofs.laws.read_files_are_whole.Goals as goal

pub returns-clause-whole : goal.returns-clause-whole
returns-clause-whole c = read_whole

pub returns-clause-short : goal.returns-clause-short
returns-clause-short c = read_size

pub returns-clause-again : goal.returns-clause-again
returns-clause-again c = λ bytes files h. written_reads files (read_whole bytes files h) (read_size bytes files h)
