-- The files of an image, from their start.
use Rattle.std.proofs.Common.{◌≡◌, ℕ, suc, ◌+◌, ◌<◌, ◌≤◌, List, [], ◌∷◌, ◌++◌, Bool, true, false, cond, length, take, Some, None, Option, Ok, refl, sym, ap, ◌∙◌, arith, length-append}
use Rattle.std.specs.Prelude.{◌&&◌, if◌then◌else◌, codes, nat_le, nat_lt, slice_get}
use Rattle.std.specs.List.{list_all}
use Rattle.std.specs.Option.{option_and_then}
use Rattle.std.specs.FinMap as map
use Rattle.std.proofs.lemmas.Bool.Decides.{nat_tests}
use Rattle.sh_files_image.specs.Fields.{newlines}
use Rattle.sh_files_image.specs.Places.{Entries}
use Rattle.sh_files_image.specs.Starting.{starting_paths}
use Rattle.sh_files_image.specs.Texts.{is_left_out}
use Rattle.sh_files_image.proofs.Places.{laws, order}
use Rattle.sh_files_image.proofs.Wording.{first_line}
use Rattle.sh_files.specs.Nodes.{FileMap, node_at, starting}
use Rattle.sh_files.specs.Image.{beyond, by_header, image_of, numbered_line, read_image}
use Rattle.sh_files.specs.Whole.{AreSame, IsWhole}
use Rattle.sh_files_image.specs.Writing.{paths_text}
use Rattle.sh_files.specs.Writing.{image_text, last_line}
use Rattle.sh_files.proofs.Lookups.{Numbered, is, is_same, not_first}
use Rattle.sh_files.proofs.Restored.{Reading, restore}

abbrev pub first_entries : Entries
first_entries = (codes "/", 0) ∷ (codes "/dev", 1) ∷ (codes "/dev/null", 2) ∷ (codes "/dev/tty", 3) ∷ []

pub started : (q : List ℕ) → map.get starting.paths q ≡ map.find order q first_entries
unfolding starting starting_paths
started q = map.get-from_entries laws first_entries q

start_size : length starting.nodes ≡ 4
unfolding starting
start_size = refl

apart : (q p : List ℕ) → is_left_out q ≡ false → is_left_out p ≡ true → is q p ≡ false
apart q p h k = elim (is q p) as (λ b. is q p ≡ b → b ≡ false) [ true ↦ λ e. sym k ∙ ap is_left_out (sym (is_same q p e)) ∙ h | false ↦ λ e. refl ] refl

pub start_absent : (q : List ℕ) → is_left_out q ≡ false → map.get starting.paths q ≡ None
start_absent q h =
    started q
    ∙ not_first q (codes "/", 0) ((codes "/dev", 1) ∷ (codes "/dev/null", 2) ∷ (codes "/dev/tty", 3) ∷ []) (apart q (codes "/") h refl)
    ∙ not_first q (codes "/dev", 1) ((codes "/dev/null", 2) ∷ (codes "/dev/tty", 3) ∷ []) (apart q (codes "/dev") h refl)
    ∙ not_first q (codes "/dev/null", 2) ((codes "/dev/tty", 3) ∷ []) (apart q (codes "/dev/null") h refl)
    ∙ not_first q (codes "/dev/tty", 3) [] (apart q (codes "/dev/tty") h refl)

below : (q : List ℕ) (k n : ℕ) (es : Entries) → list_all (λ e. nat_lt e.1 k) es ≡ true → map.find order q es ≡ Some n → n < k
below q k n [] h f = cc
below q k n (e ∷ es) h f =
    elim (is q e.0) as (λ b. cond b (Some e.1) (map.find order q es) ≡ Some n → n < k) [
      | true ↦ λ g. let same : e.1 ≡ n = cc in small e.1 n k (both (nat_lt e.1 k) _ h).0 same
      | false ↦ λ g. below q k n es (both (nat_lt e.1 k) _ h).1 g
    ] f
  where
    both : (a b : Bool) → (a && b) ≡ true → (a ≡ true) × (b ≡ true)
    both true b p = (refl, p)
    both false b p = cc

    small : (m n k : ℕ) → nat_lt m k ≡ true → m ≡ n → n < k
    small m n k p e = grind (arith, nat_tests)

pub start_numbered : Numbered starting
start_numbered q n h =
    let l = below q 4 n first_entries refl (sym (started q) ∙ h) in
    let s = start_size in
    omega arith

pub start_reading : (m : FileMap) → IsWhole m → Reading m starting (map.entries m.paths)
start_reading m w =
    record {
      rises = map.entries_sorted m.paths;
      known = λ q n k. map.get-entries m.paths q ∙ k;
      done = λ q k.
          elim (is_left_out q) as (λ b. is_left_out q ≡ b → node_at starting q ≡ node_at m q) [
            | true ↦ λ h. sym (w.there q h)
            | false ↦ λ h. ap (option_and_then (slice_get starting.nodes)) (start_absent q h) ∙ sym (ap (option_and_then (slice_get m.nodes)) (map.get-entries m.paths q ∙ k))
          ] refl;
      there = λ q h. sym (w.there q h);
      todo = λ q n k h. start_absent q h;
      numbered = start_numbered;
    }

short : (n : ℕ) → n ≤ 268435456 → nat_le n 268435456 ≡ true
short n h = grind (arith, nat_tests)

-- what is written of files that an image can hold reads as the same nodes
pub written_reads : (m : FileMap) → IsWhole m → length (image_text m) ≤ 268435456 → (g : FileMap) × ((read_image (image_text m) ≡ Ok g) × AreSame g m)
written_reads m w l =
    let rest = paths_text m.nodes (map.entries m.paths) ++ last_line in
    let a : length (image_text m) ≡ 11 + suc (length rest) = length-append (codes "psh image 1") (10 ∷ rest) in
    let b : length rest ≡ length (paths_text m.nodes (map.entries m.paths)) + 4 = length-append (paths_text m.nodes (map.entries m.paths)) last_line in
    let r = restore m w (map.entries m.paths) starting (start_reading m w) (omega arith) in (
      r.0,
      (
        ap (λ t. if t then image_of (image_text m) else beyond (1 + newlines (take 268435456 (image_text m))) (image_of (take 268435456 (image_text m)))) (short (length (image_text m)) l)
            ∙ ap (λ (o : Option (List ℕ × List ℕ)). numbered_line (image_text m) (by_header (image_text m) o)) (first_line (codes "psh image 1") rest refl)
            ∙ ap (numbered_line (image_text m)) r.1.0,
        r.1.1,
      ),
    )
