use Rattle.sh_laws.proofs.RequestChanges.{forking_changes, forking_grows, forking_leaves_owned}
use Rattle.sh_laws.proofs.requests.forking_changes_what_is_reached.Goals as goal

pub returns-clause-changes : goal.returns-clause-changes
returns-clause-changes c = forking_changes

pub returns-clause-owned : goal.returns-clause-owned
returns-clause-owned c = forking_leaves_owned

pub returns-clause-grows : goal.returns-clause-grows
returns-clause-grows c = forking_grows
