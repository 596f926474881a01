-- Files of which a regular file was changed are files that an image can hold, as before.
use Rattle.std.proofs.Common.{◌≡◌, ℕ, suc, zero, ◌<◌, List, [], ◌∷◌, Bool, true, false, cond, length, set, Some, None, Option, Ok, Err, refl, sym, ap, ◌∙◌, subst, inl, inr, ◌⊎◌}
use Rattle.std.specs.Prelude.{◌&&◌, if◌then◌else◌, not, slice_get, take}
use Rattle.std.specs.List.{list_all}
use Rattle.std.specs.Option.{option_and_then}
use Rattle.std.specs.FinMap as map
use Rattle.sh_files_image.specs.Contents.{Regular, content_after_write}
use Rattle.sh_files_image.specs.Paths.{parent}
use Rattle.sh_files_image.specs.Places.{Entries}
use Rattle.sh_files_image.specs.Texts.{is_left_out}
use Rattle.sh_files_image.specs.declared.node.Node.{Node}
use Rattle.sh_files_image.specs.declared.node.Node.TheVariants.{Directory, File, Null, Terminal}
use Rattle.sh_files_image.proofs.Places.{order}
use Rattle.sh_files.specs.Nodes.{FileMap, node_at, starting, truncate_node, truncation, with_node, write_at, write_fits, write_node}
use Rattle.sh_files.specs.Image.{is_directory}
use Rattle.sh_files.specs.Whole.{IsPlaced, IsWhole}
use Rattle.sh_files.specs.declared.fault.FileFault.TheVariants.{TooLarge}
use Rattle.sh_files.proofs.Lookups.{is}
use Rattle.sh_files.proofs.Whole.{first_entries, started}

-- ---- no regular file is there at the start
abbrev is_file : Option Node → Bool
is_file None = false
is_file (Some Directory) = false
is_file (Some (File file)) = true
is_file (Some Null) = false
is_file (Some Terminal) = false

untrue : (b : Bool) → not b ≡ true → b ≡ false
untrue true h = cc
untrue false h = refl

both : (a b : Bool) → (a && b) ≡ true → (a ≡ true) × (b ≡ true)
both true b p = (refl, p)
both false b p = cc

none_found : (nodes : List Node) (q : List ℕ) (es : Entries) → list_all (λ e. not (is_file (slice_get nodes e.1))) es ≡ true → is_file (option_and_then (slice_get nodes) (map.find order q es)) ≡ false
none_found nodes q [] h = refl
none_found nodes q (e ∷ es) h =
    elim (is q e.0) as (λ b. is_file (option_and_then (slice_get nodes) (cond b (Some e.1) (map.find order q es))) ≡ false) [
      | true ↦ untrue (is_file (slice_get nodes e.1)) (both (not (is_file (slice_get nodes e.1))) _ h).0
      | false ↦ none_found nodes q es (both (not (is_file (slice_get nodes e.1))) _ h).1
    ]

no_devices : list_all (λ e. not (is_file (slice_get starting.nodes e.1))) first_entries ≡ true
unfolding starting
no_devices = refl

no_file_at_start : (q : List ℕ) → is_file (node_at starting q) ≡ false
no_file_at_start q = ap (λ o. is_file (option_and_then (slice_get starting.nodes) o)) (started q) ∙ none_found starting.nodes q first_entries no_devices

-- ---- a node was changed
abbrev changed : FileMap → ℕ → Node → FileMap
changed files n node = record files { nodes = set files.nodes n node }

abbrev Old : Option Node → Option Node → Node → Node → Type 0
Old was now old node = (was ≡ Some old) × (now ≡ Some node)

slice_set : (nodes : List Node) (n k : ℕ) (old node : Node) → slice_get nodes n ≡ Some old → Old (slice_get nodes k) (slice_get (set nodes n node) k) old node ⊎ (slice_get (set nodes n node) k ≡ slice_get nodes k)
slice_set [] n k old node h = cc
slice_set (x ∷ nodes) zero zero old node h = inl (h, refl)
slice_set (x ∷ nodes) zero (suc k) old node h = inr refl
slice_set (x ∷ nodes) (suc n) zero old node h = inr refl
slice_set (x ∷ nodes) (suc n) (suc k) old node h = slice_set nodes n k old node h

node_set : (files : FileMap) (n : ℕ) (old node : Node) (q : List ℕ) → slice_get files.nodes n ≡ Some old → Old (node_at files q) (node_at (changed files n node) q) old node ⊎ (node_at (changed files n node) q ≡ node_at files q)
node_set files n old node q h = at (map.get files.paths q)
  where
    at : (o : Option ℕ) → Old (option_and_then (slice_get files.nodes) o) (option_and_then (slice_get (set files.nodes n node)) o) old node ⊎ (option_and_then (slice_get (set files.nodes n node)) o ≡ option_and_then (slice_get files.nodes) o)
    at None = inr refl
    at (Some k) = slice_set files.nodes n k old node h

still_there : (q : List ℕ) (was now : Option Node) (old : Regular) (node : Node) → Old was now (File old) node ⊎ (now ≡ was) → was ≡ node_at starting q → now ≡ node_at starting q
still_there q was now old node (inl p) e =
    let f : true ≡ false = sym (ap is_file (sym e ∙ p.0)) ∙ no_file_at_start q in
    cc
still_there q was now old node (inr p) e = p ∙ e

still_directory : (was now : Option Node) (old : Regular) (node : Node) → Old was now (File old) node ⊎ (now ≡ was) → is_directory was ≡ true → is_directory now ≡ true
still_directory was now old node (inl p) h =
    let f : false ≡ true = sym (ap is_directory p.0) ∙ h in
    cc
still_directory was now old node (inr p) h = ap is_directory p ∙ h

still_placed : (files : FileMap) (n : ℕ) (old new : Regular) (q : List ℕ) (node : Node) → IsWhole files → slice_get files.nodes n ≡ Some (File old) → is_left_out q ≡ false → Old (node_at files q) (node_at (changed files n (File new)) q) (File old) (File new) ⊎ (node_at (changed files n (File new)) q ≡ node_at files q) → node_at (changed files n (File new)) q ≡ Some node → IsPlaced (changed files n (File new)) q node
still_placed files n old new q node w h l (inl p) at =
    let was = w.placed q (File old) l p.0 in
    let same : ◌≡◌ {A = Option Node} (Some (File new)) (Some node) = sym p.1 ∙ at in
    let is_new : File new ≡ node = cc in
    subst (IsPlaced (changed files n (File new)) q) is_new (record {
      named = was.named;
      one_line = was.one_line;
      held = still_directory _ _ old (File new) (node_set files n (File old) (File new) (parent q) h) was.held;
      kept = refl;
    })
still_placed files n old new q node w h l (inr p) at =
    let was = w.placed q node l (sym p ∙ at) in
    record {
      named = was.named;
      one_line = was.one_line;
      held = still_directory _ _ old (File new) (node_set files n (File old) (File new) (parent q) h) was.held;
      kept = was.kept;
    }

set_length : (nodes : List Node) (n : ℕ) (node : Node) → length nodes ≡ length (set nodes n node)
set_length [] n node = refl
set_length (x ∷ nodes) zero node = refl
set_length (x ∷ nodes) (suc n) node = ap suc (set_length nodes n node)

changed_whole : (files : FileMap) (n : ℕ) (old new : Regular) → IsWhole files → slice_get files.nodes n ≡ Some (File old) → IsWhole (changed files n (File new))
changed_whole files n old new w h =
    record {
      there = λ q l. still_there q _ _ old (File new) (node_set files n (File old) (File new) q h) (w.there q l);
      placed = λ q node l at. still_placed files n old new q node w h l (node_set files n (File old) (File new) q h) at;
      numbered = λ q k g. subst (λ size. k < size) (set_length files.nodes n (File new)) (w.numbered q k g);
    }

-- ---- a device stays as it is
set_same : (nodes : List Node) (n : ℕ) (node : Node) → slice_get nodes n ≡ Some node → nodes ≡ set nodes n node
set_same [] n node h = cc
set_same (x ∷ nodes) zero node h = let same : x ≡ node = cc in ap (λ y. y ∷ nodes) same
set_same (x ∷ nodes) (suc n) node h = ap (λ ns. x ∷ ns) (set_same nodes n node h)

kept_whole : (files : FileMap) (n : ℕ) (node : Node) → IsWhole files → slice_get files.nodes n ≡ Some node → IsWhole (changed files n node)
kept_whole files n node w h = subst (λ ns. IsWhole (record files { nodes = ns })) (set_same files.nodes n node h) w

-- ---- the calls
answer_whole : (files m : FileMap) (n : ℕ) (node : Node) → IsWhole (changed files n node) → with_node files n (Ok node) ≡ Ok m → IsWhole m
answer_whole files m n node w h = let same : changed files n node ≡ m = cc in subst IsWhole same w

pub write_whole : (files m : FileMap) (n offset : ℕ) (bytes : List ℕ) → IsWhole files → write_at files n offset bytes ≡ Ok m → IsWhole m
write_whole files m n offset bytes w h = at (slice_get files.nodes n) refl h
  where
    at : (o : Option Node) → slice_get files.nodes n ≡ o → write_node files n offset bytes o ≡ Ok m → IsWhole m
    at None e k = cc
    at (Some Directory) e k = cc
    at (Some (File file)) e k =
        let new : Regular = record file { bytes = content_after_write file.bytes offset bytes } in
        elim (write_fits offset bytes) as (λ b. with_node files n (if b then Ok (File new) else Err TooLarge) ≡ Ok m → IsWhole m) [
          | true ↦ λ g. answer_whole files m n (File new) (changed_whole files n file new w e) g
          | false ↦ λ g. cc
        ] k
    at (Some Null) e k = answer_whole files m n Null (kept_whole files n Null w e) k
    at (Some Terminal) e k = cc

pub truncate_whole : (files m : FileMap) (n count : ℕ) → IsWhole files → truncation files n count ≡ Ok m → IsWhole m
truncate_whole files m n count w h = at (slice_get files.nodes n) refl h
  where
    at : (o : Option Node) → slice_get files.nodes n ≡ o → truncate_node files n count o ≡ Ok m → IsWhole m
    at None e k = cc
    at (Some Directory) e k = cc
    at (Some (File file)) e k =
        let new : Regular = record file { bytes = take count file.bytes } in
        answer_whole files m n (File new) (changed_whole files n file new w e) k
    at (Some Null) e k = answer_whole files m n Null (kept_whole files n Null w e) k
    at (Some Terminal) e k = cc
