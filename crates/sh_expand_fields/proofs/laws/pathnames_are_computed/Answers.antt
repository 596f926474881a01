use Rattle.sh_expand_fields.proofs.Finding.{expanded_both}
use Rattle.sh_expand_fields.proofs.laws.pathnames_are_computed.Goals as goal

pub returns : goal.returns
returns c = expanded_both
