use Rattle.std.specs.FinMap as map
use Rattle.sh_files_image.specs.Listing.{prefix_of}
use Rattle.sh_files_image.proofs.Held as held
use Rattle.sh_files.proofs.laws.names_rise.Goals as goal

pub returns : goal.returns
returns c = λ files place. held.names_rise (prefix_of place) (map.entries files.paths) (map.entries_sorted files.paths)
