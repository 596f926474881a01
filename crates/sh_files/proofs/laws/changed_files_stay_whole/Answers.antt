use Rattle.sh_files.proofs.Changed.{truncate_whole, write_whole}
use Rattle.sh_files.proofs.Nameless.{nameless_whole}
use Rattle.sh_files.proofs.laws.changed_files_stay_whole.Goals as goal

pub returns-clause-written : goal.returns-clause-written
returns-clause-written c = λ files changed n offset bytes w h. write_whole files changed n offset bytes w h

pub returns-clause-cut : goal.returns-clause-cut
returns-clause-cut c = λ files changed n count w h. truncate_whole files changed n count w h

pub returns-clause-nameless : goal.returns-clause-nameless
returns-clause-nameless c = λ files changed n bytes w h. nameless_whole files changed n bytes w h
