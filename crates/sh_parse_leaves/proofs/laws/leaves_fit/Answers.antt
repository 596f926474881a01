use Rattle.sh_parse_leaves.proofs.Fitting.{leaf_fits}
use Rattle.sh_parse_leaves.proofs.laws.leaves_fit.Goals as goal

pub returns : goal.returns
returns c = leaf_fits
