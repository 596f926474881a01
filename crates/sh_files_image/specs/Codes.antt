-- How the prover stores a map from paths.
use Rattle.std.specs.Ordering.{nat_cmp}
use Rattle.std.specs.Cmp.Lexicographic.{slice_cmp}
use Rattle.std.specs.FinMap.{code}
use Rattle.std.specs.Coded.{Coded, coded_list, coded_ℕ}
use Rattle.sh_files_image.specs.Paths.{PathMap}

abbrev pub map_code : Coded PathMap
map_code = code {R = slice_cmp nat_cmp} (coded_list coded_ℕ) coded_ℕ
