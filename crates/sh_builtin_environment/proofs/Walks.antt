-- A path is gone through component by component, and where that comes to a place, it is the one that the path stands for.
use Rattle.std.proofs.Common.{◌≡◌, ◌||◌, ℕ, List, [], ◌∷◌, Bool, true, false, not, Some, None, Result, Ok, Err, codes, if◌then◌else◌, refl, sym, ap, ◌∙◌}
use Rattle.sh_builtin_environment.specs.Directories.{directory_at, directory_by, is_directory}
use Rattle.sh_builtin_environment.specs.Walks.{through}
use Rattle.sh_files.specs.Nodes.{FileMap, behind_entrance, entrance, found_at, is_empty, node_of_path, node_at, resolution, walk_end}
use Rattle.sh_files.specs.declared.fault.FileFault.{FileFault}
use Rattle.sh_files.specs.declared.fault.FileFault.TheVariants.{NoEntry}
use Rattle.sh_files_image.specs.Paths.{absolute, components, fits, path_split, next_place}
use Rattle.sh_files_image.proofs.Slashes.{first_part, only_part}

pub on_step : (place next rest : List ℕ) (p : List ℕ × List ℕ) → Some p ≡ path_split rest → next ≡ next_place place p.0 → through next (components p.1) ≡ through place (components rest)
on_step place next rest p h n = ap (λ (x : List ℕ). through x (components p.1)) n ∙ sym (ap (through place) (first_part rest p h))

pub last_step : (place next rest : List ℕ) → None ≡ path_split rest → next ≡ next_place place rest → next ≡ through place (components rest)
last_step place next rest h n = n ∙ sym (ap (through place) (only_part rest h))

entered : (e : Result (Unit {0}) FileFault) (r : Result (List ℕ) FileFault) (p : List ℕ) → Ok p ≡ behind_entrance e r → Ok p ≡ r
entered (Ok u) r p h = h
entered (Err f) r p h = absurd (cc)

through_walked : (files : FileMap) (place : List ℕ) (names : List (List ℕ)) (p : List ℕ) → Ok p ≡ walk_end files place names → p ≡ through place names
through_walked files place [] p h = cc
through_walked files place (name ∷ names) p h =
    through_walked files (next_place place name) names p (entered (entrance (node_at files place)) (walk_end files (next_place place name) names) p h)

past_test : (b : Bool) (r : Result (List ℕ) FileFault) (p : List ℕ) → Ok p ≡ (if b then Err NoEntry else r) → Ok p ≡ r
past_test true r p h = absurd (cc)
past_test false r p h = h

through_resolved : (files : FileMap) (directory path p : List ℕ) → Ok p ≡ resolution files directory path → p ≡ through (codes "/") (components (absolute directory path))
through_resolved files directory path p h =
    through_walked files (codes "/") (components (absolute directory path)) p
    (past_test (is_empty path || not (fits directory path)) (walk_end files (codes "/") (components (absolute directory path))) p h)

found_by : (files : FileMap) (place : List ℕ) (r : Result (List ℕ) FileFault) → ((p : List ℕ) → Ok p ≡ r → p ≡ place) → true ≡ is_directory (found_at files r) → Some place ≡ directory_by files r
found_by files place (Ok p) same h = rw (sym h) (ap Some (sym (same p refl)))
found_by files place (Err f) same h = absurd (cc)

pub directory_found : (files : FileMap) (directory path place : List ℕ) → place ≡ through (codes "/") (components (absolute directory path)) → true ≡ is_directory (node_of_path files directory path) → Some place ≡ directory_at files directory path
directory_found files directory path place there h =
    found_by files place (resolution files directory path) (λ p e. through_resolved files directory path p e ∙ sym there) h
