use Rattle.std.proofs.Common.{rules}
use Rattle.std.proofs.lemmas.List.Sorted.{IsPartitionPoint-from_clause}
use Rattle.sh_files_image.specs.Blocks.{starts_by}
use Rattle.sh_files_image.proofs.Blocks.{together}
use Rattle.sh_files_image.proofs.table.count_started.Goals as goal

pub returns-clause-parts : goal.returns-clause-parts
returns-clause-parts c =
    IsPartitionPoint-from_clause (λ b. starts_by c.args.path.now b) c.args.blocks.now _ c.partition_point.ensures.partitioned (together _ _ c.requires.rise c.requires.filled) (λ a r f called. search rules)
