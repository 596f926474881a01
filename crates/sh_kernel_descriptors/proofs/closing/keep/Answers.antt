use Rattle.std.proofs.Common.{rules}
use Rattle.std.proofs.lemmas.Fn.{filter_same}
use Rattle.sh_kernel_descriptors.specs.Counts.{stays}
use Rattle.sh_kernel_descriptors.proofs.closing.keep.Goals as goal

pub returns-clause-items : goal.returns-clause-items
returns-clause-items c = filter_same _ (stays c.args.pid c.args.closing) _ (λ x b f' k. search rules) _ _ c.retain.ensures.filtered
