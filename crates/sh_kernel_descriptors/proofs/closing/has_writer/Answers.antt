use Rattle.std.proofs.Common.{◌∙◌, ap}
use Rattle.sh_kernel_descriptors.specs.Counts as counts
use Rattle.sh_kernel_descriptors.proofs.Pairs.{writes}
use Rattle.sh_kernel_descriptors.proofs.closing.has_writer.Goals as goal

pub returns : goal.returns
returns c made hs es pair counted linked at =
    c.is_write_end.ensures ∙ ap (λ t. counts.is_write_end c.args.pipe t) c.other_target.ensures ∙ writes made hs c.args.entries.now es c.args.pipe c.args.key pair counted linked at
