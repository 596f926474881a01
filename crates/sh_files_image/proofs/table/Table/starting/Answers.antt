use Rattle.sh_files_image.specs.Starting.{starting_paths}
use Rattle.sh_files_image.proofs.Places.{in_any_order}
use Rattle.sh_files_image.proofs.table.Table.starting.Goals as goal

pub returns : goal.returns
unfolding starting_paths
returns c =
    rw (c.in_ok-push.ensures.items, c.in_ok-blocks.ensures.items, c.new.ensures, c.in_ok-add-4.ensures, c.in_ok-add-3.ensures, c.in_ok-add-2.ensures, c.in_ok-add.ensures, c.in_ok-entries.ensures.items)
    (in_any_order _ tt)
