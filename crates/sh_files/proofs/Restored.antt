-- An image that was written of files reads as the same nodes.
use Rattle.std.proofs.Common.{◌≡◌, ℕ, suc, ◌+◌, ◌<◌, ◌≤◌, List, [], ◌∷◌, ◌++◌, Bool, true, false, cond, length, take, Some, None, Option, Ok, max, refl, sym, ap, ◌∙◌, subst, arith, length-append, append_assoc}
use Rattle.std.specs.Prelude.{◌&&◌, if◌then◌else◌, not, is_some, slice_get}
use Rattle.std.specs.List.{list_any}
use Rattle.std.specs.Option.{option_and_then}
use Rattle.std.specs.declared.cmp.Ordering.TheVariants.{Less}
use Rattle.std.specs.FinMap as map
use Rattle.std.proofs.Math.Seq.{drop-append-add, take-append_seam}
use Rattle.sh_files_image.specs.Contents.{Regular}
use Rattle.sh_files_image.specs.Paths.{begins_at_root, has_slash, is_image_path, last_slash, parent}
use Rattle.sh_files_image.specs.Places.{Entries}
use Rattle.sh_files_image.specs.Texts.{directory_line, file_line, is_left_out, node_text}
use Rattle.sh_files_image.specs.declared.node.Node.{Node}
use Rattle.sh_files_image.specs.declared.node.Node.TheVariants.{Directory, File, Null, Terminal}
use Rattle.sh_files_image.proofs.Places.{Rises, order, right}
use Rattle.sh_files_image.proofs.Wording.{first_line, newline, one_line, read_file_words}
use Rattle.sh_files.specs.Nodes.{FileMap, node_at, with_new}
use Rattle.sh_files.specs.Image.{by_file, content_fault, entries, first_fault, is_directory, path_fault, node_entry}
use Rattle.sh_files.specs.Whole.{AreSame, IsWhole, is_kept}
use Rattle.sh_files_image.specs.Writing.{found_text, paths_text}
use Rattle.sh_files.specs.Writing.{last_line}
use Rattle.sh_files_image.specs.declared.image_fault.FaultKind.{FaultKind}
use Rattle.sh_files_image.specs.declared.image_fault.FaultKind.TheVariants.{BadPath, Duplicate, NoParent}
use Rattle.sh_files.proofs.Entries.{next_line}
use Rattle.sh_files.proofs.Lookups.{Numbered, before_first, first_found, first_once, prefix_before, get_within, is, is_same, node_new, node_other, not_first, number_new, numbered_new}

-- ---- one line
pub read_directory : (files : FileMap) (path rest : List ℕ) → list_any newline path ≡ false → path_fault files path ≡ None → entries files 0 (directory_line path ++ 10 ∷ rest) ≡ entries (with_new files path Directory) 0 rest
read_directory files path rest h ok =
    next_line files (with_new files path Directory) (directory_line path ++ 10 ∷ rest) (directory_line path, rest) 0 (sym (first_line (directory_line path) rest h)) refl (ap (node_entry files path Directory 0) ok)

last_byte : (bytes rest : List ℕ) → slice_get (bytes ++ 10 ∷ rest) (length bytes) ≡ Some 10
last_byte [] rest = refl
last_byte (b ∷ bytes) rest = last_byte bytes rest

pub read_file : (files : FileMap) (path rest : List ℕ) (file : Regular) → list_any newline path ≡ false → path_fault files path ≡ None → length file.bytes ≤ 268435456 → entries files 0 (file_line path file ++ 10 ∷ (file.bytes ++ 10 ∷ rest)) ≡ entries (with_new files path (File file)) 0 rest
read_file files path rest file h ok fits =
    let after = file.bytes ++ 10 ∷ rest in
    let size = length file.bytes in
    let same : take size after ≡ file.bytes = take-append_seam file.bytes (10 ∷ rest) in
    let fault : first_fault (path_fault files path) (content_fault size (slice_get after size)) ≡ None =
    ap (λ (o : Option FaultKind). first_fault o (content_fault size (slice_get after size))) ok ∙ ap (content_fault size) (last_byte file.bytes rest) in
    let read =
    ap (by_file files after) (read_file_words path file fits)
    ∙ ap (node_entry files path (File (record { flags = file.flags; bytes = take size after })) (size + 1)) fault
    ∙ ap (λ (bytes : List ℕ). Ok (with_new files path (File (record { flags = file.flags; bytes = bytes })), size + 1)) same in
    next_line files (with_new files path (File file)) (file_line path file ++ 10 ∷ after) (file_line path file, after) (size + 1) (sym (first_line (file_line path file) after (one_line path file h fits))) refl read
    ∙ ap (entries (with_new files path (File file)) 0) (drop-append-add file.bytes (10 ∷ rest) 1)

-- ---- a directory comes before what it holds
slash_within : (b : ℕ) (bs : List ℕ) → last_slash (b ∷ bs) < length (b ∷ bs)
slash_within b [] = omega arith
slash_within b (c ∷ cs) =
    let l = slash_within c cs in
    elim (has_slash (c ∷ cs)) as (λ t. (if t then suc (last_slash (c ∷ cs)) else 0) < length (b ∷ c ∷ cs)) [ true ↦ omega arith | false ↦ omega arith ]

pub second : (a b : Bool) → (a && b) ≡ true → b ≡ true
second true b h = h
second false b h = cc

pub first : (a b : Bool) → (a && b) ≡ true → a ≡ true
first true b h = refl
first false b h = cc

pub parent_before : (path : List ℕ) → is_image_path path ≡ true → order (parent path) path ≡ Less
parent_before [] h = cc
parent_before (x ∷ []) h = let k = second (begins_at_root (x ∷ [])) _ h in cc
parent_before (x ∷ y ∷ ys) h =
    let l = slash_within x (y ∷ ys) in
    prefix_before (max 1 (last_slash (x ∷ y ∷ ys))) (x ∷ y ∷ ys) (omega arith)

-- ---- what was read so far, and what is left to be read
pub record Reading (whole files : FileMap) (es : Entries) : Type 0 where
  pub rises : Rises es
  pub known : (q : List ℕ) (n : ℕ) → map.find order q es ≡ Some n → map.get whole.paths q ≡ Some n
  pub done : (q : List ℕ) → map.find order q es ≡ None → node_at files q ≡ node_at whole q
  pub there : (q : List ℕ) → is_left_out q ≡ true → node_at files q ≡ node_at whole q
  pub todo : (q : List ℕ) (n : ℕ) → map.find order q es ≡ Some n → is_left_out q ≡ false → map.get files.paths q ≡ None
  pub numbered : Numbered files

pub differ : (q p : List ℕ) → is_left_out q ≡ true → is_left_out p ≡ false → is q p ≡ false
differ q p h k = elim (is q p) as (λ b. is q p ≡ b → b ≡ false) [ true ↦ λ e. sym h ∙ ap is_left_out (is_same q p e) ∙ k | false ↦ λ e. refl ] refl

-- a path behind the first isn't the first
pub other : (q : List ℕ) (n : ℕ) (e : List ℕ × ℕ) (es : Entries) → Rises (e ∷ es) → map.find order q es ≡ Some n → is q e.0 ≡ false
other q n e es h k =
    elim (is q e.0) as (λ b. is q e.0 ≡ b → b ≡ false) [
      | true ↦ λ t. let a : None ≡ Some n = sym (first_once e es h) ∙ sym (ap (λ (x : List ℕ). map.find order x es) (is_same q e.0 t)) ∙ k in cc
      | false ↦ λ t. refl
    ] refl

left_out_turn : (whole files : FileMap) (e : List ℕ × ℕ) (es : Entries) → Reading whole files (e ∷ es) → is_left_out e.0 ≡ true → Reading whole files es
left_out_turn whole files e es r h =
    record {
      rises = right _ _ r.rises;
      known = λ q n k. r.known q n (not_first q e es (other q n e es r.rises k) ∙ k);
      done = λ q k.
          elim (is q e.0) as (λ b. is q e.0 ≡ b → node_at files q ≡ node_at whole q) [
            | true ↦ λ t. r.there q (ap is_left_out (is_same q e.0 t) ∙ h)
            | false ↦ λ t. r.done q (not_first q e es t ∙ k)
          ] refl;
      there = r.there;
      todo = λ q n k. r.todo q n (not_first q e es (other q n e es r.rises k) ∙ k);
      numbered = r.numbered;
    }

added_turn : (whole files : FileMap) (e : List ℕ × ℕ) (es : Entries) (node : Node) → Reading whole files (e ∷ es) → is_left_out e.0 ≡ false → node_at whole e.0 ≡ Some node → Reading whole (with_new files e.0 node) es
added_turn whole files e es node r h at =
    record {
      rises = right _ _ r.rises;
      known = λ q n k. r.known q n (not_first q e es (other q n e es r.rises k) ∙ k);
      done = λ q k.
          elim (is q e.0) as (λ b. is q e.0 ≡ b → node_at (with_new files e.0 node) q ≡ node_at whole q) [
            | true ↦ λ t. ap (node_at (with_new files e.0 node)) (is_same q e.0 t) ∙ node_new files e.0 node ∙ sym at ∙ ap (node_at whole) (sym (is_same q e.0 t))
            | false ↦ λ t. node_other files e.0 node q r.numbered t ∙ r.done q (not_first q e es t ∙ k)
          ] refl;
      there = λ q k. node_other files e.0 node q r.numbered (differ q e.0 k h) ∙ r.there q k;
      todo = λ q n k l.
          let t = other q n e es r.rises k in
          number_new files e.0 node q ∙ ap (λ b. cond b (Some (length files.nodes)) (map.get files.paths q)) t ∙ r.todo q n (not_first q e es t ∙ k) l;
      numbered = numbered_new files e.0 node r.numbered;
    }

no_fault : (files : FileMap) (path : List ℕ) → is_image_path path ≡ true → is_directory (node_at files (parent path)) ≡ true → map.get files.paths path ≡ None → path_fault files path ≡ None
no_fault files path a b c =
    ap (λ t. if not t then Some BadPath else if not (is_directory (node_at files (parent path))) then Some NoParent else if is_some (map.get files.paths path) then Some Duplicate else None) a
    ∙ ap (λ t. if not t then Some NoParent else if is_some (map.get files.paths path) then Some Duplicate else None) b
    ∙ ap (λ (o : Option ℕ). if is_some o then Some Duplicate else None) c

regroup : (a b c d : List ℕ) → ((a ++ b) ++ c) ++ d ≡ a ++ (b ++ (c ++ d))
regroup a b c d = simp append_assoc

-- ---- all lines of one node
read_node : (files : FileMap) (path rest : List ℕ) (node : Node) → is_kept node ≡ true → list_any newline path ≡ false → path_fault files path ≡ None → length (node_text path node) ≤ 268435456 → entries files 0 ((node_text path node ++ rest) ++ last_line) ≡ entries (with_new files path node) 0 (rest ++ last_line)
read_node files path rest Directory k one ok fits =
    ap (entries files 0) (regroup (directory_line path) (10 ∷ []) rest last_line) ∙ read_directory files path (rest ++ last_line) one ok
read_node files path rest (File file) k one ok fits =
    let ends : (file.bytes ++ 10 ∷ []) ++ (rest ++ last_line) ≡ file.bytes ++ 10 ∷ (rest ++ last_line) = append_assoc file.bytes (10 ∷ []) (rest ++ last_line) in
    let a : length (file_line path file ++ 10 ∷ (file.bytes ++ 10 ∷ [])) ≡ length (file_line path file) + suc (length (file.bytes ++ 10 ∷ [])) = length-append (file_line path file) (10 ∷ (file.bytes ++ 10 ∷ [])) in
    let b : length (file.bytes ++ 10 ∷ []) ≡ length file.bytes + 1 = length-append file.bytes (10 ∷ []) in
    ap (entries files 0) (regroup (file_line path file) (10 ∷ (file.bytes ++ 10 ∷ [])) rest last_line ∙ ap (λ (xs : List ℕ). file_line path file ++ 10 ∷ xs) ends)
    ∙ read_file files path (rest ++ last_line) file one ok (omega arith)
read_node files path rest Null k one ok fits = cc
read_node files path rest Terminal k one ok fits = cc

abbrev Restores : FileMap → FileMap → Entries → Type 0
Restores whole files es = (g : FileMap) × ((entries files 0 (paths_text whole.nodes es ++ last_line) ≡ Ok g) × AreSame g whole)

abbrev fits : FileMap → Entries → Type 0
fits whole es = length (paths_text whole.nodes es) ≤ 268435456

pub left_out_text : (nodes : List Node) (e : List ℕ × ℕ) (es : Entries) → is_left_out e.0 ≡ true → paths_text nodes (e ∷ es) ≡ paths_text nodes es
left_out_text nodes e es h = ap (λ b. (if b then [] else found_text e.0 (slice_get nodes e.1)) ++ paths_text nodes es) h

left_out : (whole files : FileMap) (e : List ℕ × ℕ) (es : Entries) → is_left_out e.0 ≡ true → fits whole (e ∷ es) → (fits whole es → Restores whole files es) → Restores whole files (e ∷ es)
left_out whole files e es h l rest =
    let same = left_out_text whole.nodes e es h in
    let r = rest (subst (λ (xs : List ℕ). length xs ≤ 268435456) same l) in
    (r.0, (ap (λ (xs : List ℕ). entries files 0 (xs ++ last_line)) same ∙ r.1.0, r.1.1))

added_text : (nodes : List Node) (e : List ℕ × ℕ) (es : Entries) (node : Node) → is_left_out e.0 ≡ false → slice_get nodes e.1 ≡ Some node → paths_text nodes (e ∷ es) ≡ node_text e.0 node ++ paths_text nodes es
added_text nodes e es node h k =
    ap (λ b. (if b then [] else found_text e.0 (slice_get nodes e.1)) ++ paths_text nodes es) h
    ∙ ap (λ (o : Option Node). found_text e.0 o ++ paths_text nodes es) k

added : (whole : FileMap) (w : IsWhole whole) (files : FileMap) (e : List ℕ × ℕ) (es : Entries) → Reading whole files (e ∷ es) → is_left_out e.0 ≡ false → fits whole (e ∷ es) → ((more : FileMap) → Reading whole more es → fits whole es → Restores whole more es) → Restores whole files (e ∷ es)
added whole w files e es r h l rest =
    let known = r.known e.0 e.1 (first_found e es) in
    let found = get_within whole.nodes e.1 (w.numbered e.0 e.1 known) in
    let node = found.0 in
    let at : node_at whole e.0 ≡ Some node = ap (option_and_then (slice_get whole.nodes)) known ∙ found.1 in
    let p = w.placed e.0 node h at in
    let held = ap is_directory (r.done (parent e.0) (before_first (parent e.0) e es (parent_before e.0 p.named) r.rises)) ∙ p.held in
    let ok = no_fault files e.0 p.named held (r.todo e.0 e.1 (first_found e es) h) in
    let text = added_text whole.nodes e es node h found.1 in
    let size : length (paths_text whole.nodes (e ∷ es)) ≡ length (node_text e.0 node) + length (paths_text whole.nodes es) = ap (λ (xs : List ℕ). length xs) text ∙ length-append (node_text e.0 node) (paths_text whole.nodes es) in
    let s = rest (with_new files e.0 node) (added_turn whole files e es node r h at) (omega arith) in
    (s.0, (ap (λ (xs : List ℕ). entries files 0 (xs ++ last_line)) text ∙ read_node files e.0 (paths_text whole.nodes es) node p.kept p.one_line ok (omega arith) ∙ s.1.0, s.1.1))

pub restore : (whole : FileMap) (w : IsWhole whole) (es : Entries) (files : FileMap) → Reading whole files es → fits whole es → Restores whole files es
restore whole w [] files r l = (files, (refl, λ q. r.done q refl))
restore whole w (e ∷ es) files r l =
    elim (is_left_out e.0) as (λ b. is_left_out e.0 ≡ b → Restores whole files (e ∷ es)) [
      | true ↦ λ h. left_out whole files e es h l (λ k. restore whole w es files (left_out_turn whole files e es r h) k)
      | false ↦ λ h. added whole w files e es r h l (λ more s k. restore whole w es more s k)
    ] refl
