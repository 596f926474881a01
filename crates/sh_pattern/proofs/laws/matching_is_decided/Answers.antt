use Rattle.sh_pattern.proofs.Decisions.{match_both}
use Rattle.sh_pattern.proofs.laws.matching_is_decided.Goals as goal

pub returns : goal.returns
returns c = match_both
