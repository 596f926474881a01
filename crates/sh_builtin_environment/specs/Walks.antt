-- Where names lead from a place by their text alone. A path of these names that leads to a place at all leads
-- to this one.
use Rattle.std.specs.Prelude.{ℕ, List, [], ◌∷◌}
use Rattle.sh_files_image.specs.Paths.{next_place}

abbrev pub through : List ℕ → List (List ℕ) → List ℕ
through place [] = place
through place (name ∷ names) = through (next_place place name) names
