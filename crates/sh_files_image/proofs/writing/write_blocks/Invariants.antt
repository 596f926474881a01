use Rattle.std.proofs.Common.{◌≡◌, ◌++◌, length}
use Rattle.sh_files_image.specs.Blocks.{flat}
use Rattle.sh_files_image.specs.Writing.{paths_text}
use Rattle.sh_files_image.proofs.writing.write_blocks.Given as goal

abbrev pub invariant-parts : goal.invariant-parts
invariant-parts l = l.image.items ++ paths_text l.nodes (flat l.rest) ≡ l.fn.image.items ++ paths_text l.nodes (flat l.blocks)

abbrev pub decreases-parts : goal.decreases-parts
decreases-parts l = length l.rest
