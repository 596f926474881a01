use Rattle.std.proofs.Common.{◌∙◌, ◌++◌, ap}
use Rattle.sh_files_image.specs.Places.{Entries}
use Rattle.sh_files_image.specs.Writing.{paths_text}
use Rattle.sh_files_image.proofs.Written.{block_written}
use Rattle.sh_files_image.proofs.writing.write_blocks.Goals as goal

pub parts-preserved : goal.parts-preserved
parts-preserved c =
    block_written c.args.nodes.now c.parts.image.items c.write_paths.new.image.items _ c.in-Some.block.now c.parts.rest.now c.in-Some.behind.now c.in-Some.ensures.cases.0
    (c.in_ok-write_paths.ensures ∙ ap (λ (es : Entries). c.parts.image.items ++ paths_text c.args.nodes.now es) c.entries.ensures) c.parts.invariant
