use Rattle.sh_laws.proofs.Rewritten.{faultless_tree, rewritten_judged, whole_is_derived}
use Rattle.sh_laws.proofs.aliases.rewritten_tokens_are_judged_by_derivations.Goals as goal

pub returns-clause-judged : goal.returns-clause-judged
returns-clause-judged c = rewritten_judged

pub returns-clause-whole : goal.returns-clause-whole
returns-clause-whole c = whole_is_derived

pub returns-clause-tree : goal.returns-clause-tree
returns-clause-tree c = faultless_tree
