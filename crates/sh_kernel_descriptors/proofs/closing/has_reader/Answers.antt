use Rattle.std.proofs.Common.{◌∙◌, ap}
use Rattle.sh_kernel_descriptors.specs.Counts as counts
use Rattle.sh_kernel_descriptors.proofs.Pairs.{reads}
use Rattle.sh_kernel_descriptors.proofs.closing.has_reader.Goals as goal

pub returns : goal.returns
returns c made hs es pair counted linked at =
    c.is_read_end.ensures ∙ ap (λ t. counts.is_read_end c.args.pipe t) c.other_target.ensures ∙ reads made hs c.args.entries.now es c.args.pipe c.args.key pair counted linked at
