use Rattle.std.specs.Prelude.{is_ok}
use Rattle.sh_files_image.specs.Blocks.{flat}
use Rattle.sh_files_image.proofs.Places.{put_list_map}
use Rattle.sh_files_image.proofs.table.Table.put.Goals as goal

pub returns : goal.returns
returns c =
    put_list_map (is_ok c.put_entry.result) c.args.entry (flat c.self.inside.blocks.items) (flat c.put_entry.new.blocks.items) c.self.invariant.rise c.put_entry.ensures.entries c.args.self.now c.self.view_is
