use Rattle.sh_laws.proofs.Requesting.{request_keeps, requests_keep}
use Rattle.sh_laws.proofs.files.requests_keep_files_whole.Goals as goal

pub returns-clause-one : goal.returns-clause-one
returns-clause-one c = request_keeps

pub returns-clause-list : goal.returns-clause-list
returns-clause-list c = requests_keep
