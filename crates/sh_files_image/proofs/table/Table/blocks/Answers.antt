use Rattle.std.proofs.Common.{◌∙◌, ap}
use Rattle.sh_files_image.specs.Blocks.{flat}
use Rattle.sh_files_image.proofs.Places.{listed}
use Rattle.sh_files_image.proofs.table.Table.blocks.Goals as goal

pub returns : goal.returns
returns c = ap flat c.as_slice.ensures.value ∙ listed (flat c.self.inside.blocks.items) c.self.invariant.rise c.args.self.now c.self.view_is
