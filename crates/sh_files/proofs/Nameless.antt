-- Files to which a node was added that no path names.
use Rattle.std.proofs.Common.{◌≡◌, ℕ, ◌+◌, List, [], ◌∷◌, ◌++◌, Bool, true, false, length, Some, None, Option, Result, Ok, Err, refl, sym, ap, ◌∙◌, arith, length-append, subst}
use Rattle.std.specs.Prelude.{codes, if◌then◌else◌, nat_le, slice_get}
use Rattle.std.specs.Option.{option_and_then}
use Rattle.std.specs.FinMap as map
use Rattle.sh_files_image.specs.Paths.{parent}
use Rattle.sh_files_image.specs.declared.node.Node.{Node}
use Rattle.sh_files.specs.Nodes.{FileMap, nameless, new_file_of, node_at, with_nameless}
use Rattle.sh_files.specs.Image.{is_directory}
use Rattle.sh_files.specs.Whole.{IsPlaced, IsWhole}
use Rattle.sh_files.specs.Writing.{image_text, last_line}
use Rattle.sh_files.specs.declared.fault.FileFault.{FileFault}
use Rattle.sh_files.specs.declared.fault.FileFault.TheVariants.{TooLarge}
use Rattle.sh_files.proofs.Lookups.{Numbered, get_prefix}
use Rattle.sh_files.proofs.Sizes.{same_texts, within}

node_kept : (files : FileMap) (node : Node) (q : List ℕ) → Numbered files → node_at (with_nameless files node) q ≡ node_at files q
node_kept files node q fits = at (map.get files.paths q) refl
  where
    at : (o : Option ℕ) → map.get files.paths q ≡ o → option_and_then (slice_get (files.nodes ++ node ∷ [])) o ≡ option_and_then (slice_get files.nodes) o
    at None e = refl
    at (Some n) e = get_prefix files.nodes (node ∷ []) n (fits q n e)

placed_kept : (files : FileMap) (new node : Node) (q : List ℕ) → IsWhole files → IsPlaced files q node → IsPlaced (with_nameless files new) q node
placed_kept files new node q w was =
    record {
      named = was.named;
      one_line = was.one_line;
      held = ap is_directory (node_kept files new (parent q) w.numbered) ∙ was.held;
      kept = was.kept;
    }

whole_kept : (files : FileMap) (new : Node) → IsWhole files → IsWhole (with_nameless files new)
whole_kept files new w =
    record {
      there = λ q l. node_kept files new q w.numbered ∙ w.there q l;
      placed = λ q node l at. placed_kept files new node q w (w.placed q node l (sym (node_kept files new q w.numbered) ∙ at));
      numbered = λ q n g.
          let more : length (files.nodes ++ new ∷ []) ≡ length files.nodes + 1 = length-append files.nodes (new ∷ []) in
          let l = w.numbered q n g in
          omega arith;
    }

text_kept : (files : FileMap) (new : Node) → IsWhole files → image_text (with_nameless files new) ≡ image_text files
text_kept files new w =
    let es = map.entries files.paths in
    ap (λ (xs : List ℕ). codes "psh image 1" ++ 10 ∷ (xs ++ last_line)) (same_texts files.nodes (new ∷ []) es (within (length files.nodes) es (map.entries_sorted files.paths) (λ q n at. w.numbered q n (map.get-entries files.paths q ∙ at))))

abbrev answer : FileMap → List ℕ → Bool → Result (ℕ × FileMap) FileFault
answer files bytes b = if b then Ok (length files.nodes, with_nameless files (new_file_of bytes)) else Err TooLarge

abbrev files_in : FileMap → Result (ℕ × FileMap) FileFault → FileMap
files_in files (Ok o) = o.1
files_in files (Err fault) = files

pub nameless_whole : (files m : FileMap) (n : ℕ) (bytes : List ℕ) → IsWhole files → nameless files bytes ≡ Ok (n, m) → IsWhole m × (image_text m ≡ image_text files)
nameless_whole files m n bytes w h =
    elim (nat_le (length bytes) 1073741824) as (λ b. answer files bytes b ≡ Ok (n, m) → IsWhole m × (image_text m ≡ image_text files)) [
      | true ↦ λ g.
          let same : with_nameless files (new_file_of bytes) ≡ m = ap (λ (r : Result (ℕ × FileMap) FileFault). files_in files r) g in
          subst (λ x. IsWhole x × (image_text x ≡ image_text files)) same (whole_kept files (new_file_of bytes) w, text_kept files (new_file_of bytes) w)
      | false ↦ λ g. cc
    ] h
