use Rattle.sh_laws.proofs.Undoing.{undoing_changes, undoing_grows, undoing_leaves_owned}
use Rattle.sh_laws.proofs.requests.undoing_changes_what_is_reached.Goals as goal

pub returns-clause-changes : goal.returns-clause-changes
returns-clause-changes c = undoing_changes

pub returns-clause-owned : goal.returns-clause-owned
returns-clause-owned c = undoing_leaves_owned

pub returns-clause-grows : goal.returns-clause-grows
returns-clause-grows c = undoing_grows
