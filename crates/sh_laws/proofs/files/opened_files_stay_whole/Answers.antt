use Rattle.sh_laws.proofs.Opening.{opened_whole}
use Rattle.sh_laws.proofs.files.opened_files_stay_whole.Goals as goal

pub returns : goal.returns
returns c = opened_whole
