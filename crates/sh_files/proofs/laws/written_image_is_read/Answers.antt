use Rattle.sh_files.proofs.Whole.{written_reads}
use Rattle.sh_files.proofs.laws.written_image_is_read.Goals as goal

pub returns : goal.returns
returns c = written_reads
