-- Files that are read from an image are files that an image can hold.
use Rattle.std.proofs.Common.{◌≡◌, ℕ, suc, zero, ◌+◌, List, [], ◌∷◌, Bool, true, false, length, take, drop, Some, None, Option, Result, Ok, Err, refl, sym, ap, ◌∙◌, subst}
use Rattle.std.specs.Prelude.{◌==◌, ◌&&◌, ◌||◌, if◌then◌else◌, not, is_some, codes, slice_get, nat_le}
use Rattle.std.specs.List.{list_any}
use Rattle.std.specs.Option.{option_and_then}
use Rattle.std.specs.Str.{bytes_eq}
use Rattle.std.specs.FinMap as map
use Rattle.sh_files_image.specs.Fields.{behind, file_fields, line_of, newlines}
use Rattle.sh_files_image.specs.Paths.{begins_at_root, components, good_names, is_device, is_image_path, parent}
use Rattle.sh_files_image.specs.Texts.{is_left_out}
use Rattle.sh_files_image.specs.declared.node.Flags.{Flags}
use Rattle.sh_files_image.specs.declared.node.Node.{Node}
use Rattle.sh_files_image.specs.declared.node.Node.TheVariants.{Directory, File}
use Rattle.sh_files_image.proofs.Wording as wording
use Rattle.sh_files_image.proofs.Wording.{newline, behind_is_one, file_path_is_one, line_is_one}
use Rattle.sh_files.specs.Nodes.{FileMap, node_at, starting, with_new}
use Rattle.sh_files.specs.Image.{behind_entry, beyond, by_directory, by_file, by_header, by_line, content_fault, files_at_end, entries, entry, file_entry, first_fault, image_of, is_directory, not_directory, numbered_line, path_fault, node_entry, read_image, stands}
use Rattle.sh_files.specs.Whole.{IsPlaced, IsWhole, is_kept}
use Rattle.sh_files_image.specs.declared.image_fault.FaultKind.{FaultKind}
use Rattle.sh_files_image.specs.declared.image_fault.FaultKind.TheVariants.{BadHeader, BadPath, Duplicate, NoParent, TooLarge}
use Rattle.sh_files_image.specs.declared.image_fault.ImageFault.{ImageFault}
use Rattle.sh_files.specs.declared.image.Stop.{Stop}
use Rattle.sh_files.proofs.Lookups.{Numbered, is, is_same, node_new, node_other, numbered_new}
use Rattle.sh_files.proofs.Restored.{differ, second}
use Rattle.sh_files.proofs.Whole.{start_absent, start_numbered}

-- ---- what path_fault has tried
untrue : (b : Bool) → not b ≡ true → b ≡ false
untrue true h = cc
untrue false h = refl

pub not_left_out : (path : List ℕ) → is_image_path path ≡ true → is_left_out path ≡ false
not_left_out [] h = cc
not_left_out (x ∷ []) h = let k = second (begins_at_root (x ∷ [])) _ h in cc
not_left_out (x ∷ y ∷ ys) h =
    let path = x ∷ y ∷ ys in
    let a = second (begins_at_root path) _ h in
    let b = second (good_names (components (drop 1 path))) _ a in
    let c = second (not (list_any (λ n. n == 0) path)) _ b in
    let d = untrue (is_device path) (second (nat_le (length path) 1024) _ c) in
    ap (λ b. b || is_device (x ∷ y ∷ ys)) (never x y ys) ∙ d
  where
    never : (x y : ℕ) (ys : List ℕ) → bytes_eq (x ∷ y ∷ ys) (codes "/") ≡ false
    never x y ys = ends _
      where
        ends : (b : Bool) → (b && false) ≡ false
        ends true = refl
        ends false = refl

pub record Free (files : FileMap) (path : List ℕ) : Type 0 where
  pub named : is_image_path path ≡ true
  pub held : is_directory (node_at files (parent path)) ≡ true
  pub absent : map.get files.paths path ≡ None

absent_if : (o : Option ℕ) → is_some o ≡ false → o ≡ None
absent_if None h = refl
absent_if (Some n) h = cc

tried : (a b c : Bool) → (if not a then Some BadPath else if not b then Some NoParent else if c then Some Duplicate else None) ≡ None → (a ≡ true) × ((b ≡ true) × (c ≡ false))
tried true true true h = cc
tried true true false h = (refl, (refl, refl))
tried true false c h = cc
tried false b c h = cc

pub free : (files : FileMap) (path : List ℕ) → path_fault files path ≡ None → Free files path
free files path h =
    let t = tried (is_image_path path) (is_directory (node_at files (parent path))) (is_some (map.get files.paths path)) h in
    record { named = t.0; held = t.1.0; absent = absent_if (map.get files.paths path) t.1.1 }

still_directory : (files : FileMap) (path x : List ℕ) (node : Node) → Numbered files → map.get files.paths path ≡ None → is_directory (node_at files x) ≡ true → is_directory (node_at (with_new files path node) x) ≡ true
still_directory files path x node fits gone h =
    elim (is x path) as (λ b. is x path ≡ b → is_directory (node_at (with_new files path node) x) ≡ true) [
      | true ↦ λ e.
          let none : node_at files x ≡ None = ap (node_at files) (is_same x path e) ∙ ap (option_and_then (slice_get files.nodes)) gone in
          let f : false ≡ true = sym (ap is_directory none) ∙ h in
          cc
      | false ↦ λ e. ap is_directory (node_other files path node x fits e) ∙ h
    ] refl

new_placed : (files : FileMap) (path : List ℕ) (node : Node) → IsWhole files → Free files path → list_any newline path ≡ false → is_kept node ≡ true → (q : List ℕ) (other : Node) → is_left_out q ≡ false → node_at (with_new files path node) q ≡ Some other → IsPlaced (with_new files path node) q other
new_placed files path node w f one kept q other h at =
    elim (is q path) as (λ b. is q path ≡ b → IsPlaced (with_new files path node) q other) [
      | true ↦ λ e.
          let same = is_same q path e in
          let n : Some node ≡ Some other = sym (node_new files path node) ∙ ap (node_at (with_new files path node)) (sym same) ∙ at in
          let m : node ≡ other = cc in
          record {
            named = ap is_image_path same ∙ f.named;
            one_line = ap (list_any newline) same ∙ one;
            held = ap (λ (x : List ℕ). is_directory (node_at (with_new files path node) (parent x))) same ∙ still_directory files path (parent path) node w.numbered f.absent f.held;
            kept = ap is_kept (sym m) ∙ kept;
          }
      | false ↦ λ e.
          let p = w.placed q other h (sym (node_other files path node q w.numbered e) ∙ at) in
          record { named = p.named; one_line = p.one_line; held = still_directory files path (parent q) node w.numbered f.absent p.held; kept = p.kept }
    ] refl

-- files with one more directory or file
pub new_whole : (files : FileMap) (path : List ℕ) (node : Node) → IsWhole files → path_fault files path ≡ None → list_any newline path ≡ false → is_kept node ≡ true → IsWhole (with_new files path node)
new_whole files path node w ok one kept =
    let f = free files path ok in
    record {
      there = λ q h. node_other files path node q w.numbered (differ q path h (not_left_out path f.named)) ∙ w.there q h;
      placed = new_placed files path node w f one kept;
      numbered = numbered_new files path node w.numbered;
    }

-- ---- one line
abbrev Answer : Type 0
Answer = Result (FileMap × ℕ) FaultKind

placed_whole : (files : FileMap) (path : List ℕ) (node : Node) (used : ℕ) (o : Option FaultKind) (r : FileMap × ℕ) → IsWhole files → (o ≡ None → path_fault files path ≡ None) → list_any newline path ≡ false → is_kept node ≡ true → node_entry files path node used o ≡ Ok r → IsWhole r.0
placed_whole files path node used None r w ok one kept h =
    let same : with_new files path node ≡ r.0 = ap (λ (p : FileMap × ℕ). p.0) (inside h) in
    subst IsWhole same (new_whole files path node w (ok refl) one kept)
  where
    inside : {A B : Type 0} {x y : A} → ◌≡◌ {A = Result A B} (Ok x) (Ok y) → x ≡ y
    inside e = cc
placed_whole files path node used (Some kind) r w ok one kept h = cc

first_none : (a b : Option FaultKind) → first_fault a b ≡ None → a ≡ None
first_none None b h = refl
first_none (Some kind) b h = cc

file_whole : (files : FileMap) (after path : List ℕ) (flags : Flags) (size : Option ℕ) (r : FileMap × ℕ) → IsWhole files → list_any newline path ≡ false → file_entry files after path flags size ≡ Ok r → IsWhole r.0
file_whole files after path flags None r w one h = cc
file_whole files after path flags (Some size) r w one h =
    placed_whole files path (File (record { flags = flags; bytes = take size after })) (size + 1) (first_fault (path_fault files path) (content_fault size (slice_get after size))) r w (first_none _ _) one refl h

fields_whole : (files : FileMap) (after fields : List ℕ) (o : Option wording.File) (r : FileMap × ℕ) → file_fields fields ≡ o → IsWhole files → list_any newline fields ≡ false → by_file files after o ≡ Ok r → IsWhole r.0
fields_whole files after fields None r e w one h = cc
fields_whole files after fields (Some f) r e w one h = file_whole files after f.0 f.1.0 f.1.1 r w (file_path_is_one fields f e one) h

other_whole : (files : FileMap) (after line : List ℕ) (o : Option (List ℕ)) (r : FileMap × ℕ) → behind (codes "file ") line ≡ o → IsWhole files → list_any newline line ≡ false → not_directory files after o ≡ Ok r → IsWhole r.0
other_whole files after line None r e w one h = cc
other_whole files after line (Some fields) r e w one h = fields_whole files after fields (file_fields fields) r refl w (behind_is_one (codes "file ") line fields e one) h

pub line_whole : (files : FileMap) (after line : List ℕ) (o : Option (List ℕ)) (r : FileMap × ℕ) → behind (codes "dir ") line ≡ o → IsWhole files → list_any newline line ≡ false → by_directory files line after o ≡ Ok r → IsWhole r.0
line_whole files after line None r e w one h = other_whole files after line (behind (codes "file ") line) r refl w one h
line_whole files after line (Some path) r e w one h = placed_whole files path Directory 0 (path_fault files path) r w (λ k. k) (behind_is_one (codes "dir ") line path e one) refl h

-- ---- all lines
ended_whole : (files m : FileMap) (after : List ℕ) → IsWhole files → files_at_end files after ≡ Ok m → IsWhole m
ended_whole files m [] w h = let same : files ≡ m = cc in subst IsWhole same w
ended_whole files m (b ∷ bs) w h = cc

abbrev Next : Type 0
Next = FileMap → ℕ → Result FileMap Stop

advanced_whole : (m : FileMap) (left size : ℕ) (next : Next) (r : Answer) → ((p : FileMap × ℕ) → r ≡ Ok p → IsWhole p.0) → ((after : FileMap) (used : ℕ) → IsWhole after → next after used ≡ Ok m → IsWhole m) → behind_entry left size r next ≡ Ok m → IsWhole m
advanced_whole m left size next (Ok p) w rest h = rest p.0 (size + p.1) (w p refl) h
advanced_whole m left size next (Err kind) w rest h = cc

turn_whole : (files m : FileMap) (bytes : List ℕ) (o : Option (List ℕ × List ℕ)) (next : Next) → line_of bytes ≡ o → IsWhole files → ((after : FileMap) (used : ℕ) → IsWhole after → next after used ≡ Ok m → IsWhole m) → by_line files bytes o next ≡ Ok m → IsWhole m
turn_whole files m bytes None next e w rest h = cc
turn_whole files m bytes (Some p) next e w rest h =
    elim (bytes_eq p.0 (codes "end")) as (λ b. (if b then files_at_end files p.1 else behind_entry (length bytes) (length p.0) (entry files p.0 p.1) next) ≡ Ok m → IsWhole m) [
      | true ↦ λ k. ended_whole files m p.1 w k
      | false ↦ λ k.
          advanced_whole m (length bytes) (length p.0) next (entry files p.0 p.1) (λ r is. line_whole files p.1 p.0 (behind (codes "dir ") p.0) r refl w (line_is_one bytes p e) is) rest k
    ] h

entries_whole : (m : FileMap) (bytes : List ℕ) (files : FileMap) (skip : ℕ) → IsWhole files → entries files skip bytes ≡ Ok m → IsWhole m
entries_whole m [] files zero w h = cc
entries_whole m [] files (suc skip) w h = cc
entries_whole m (b ∷ bs) files (suc skip) w h = entries_whole m bs files skip w h
entries_whole m (b ∷ bs) files zero w h =
    turn_whole files m (b ∷ bs) (line_of (b ∷ bs)) (λ after used. entries after used bs) refl w (λ after used v k. entries_whole m bs after used v k) h

-- ---- an image
pub start_whole : IsWhole starting
start_whole =
    record {
      there = λ q h. refl;
      placed = λ q node h at. let none : None ≡ Some node = sym (ap (option_and_then (slice_get starting.nodes)) (start_absent q h)) ∙ at in cc;
      numbered = start_numbered;
    }

header_whole : (m : FileMap) (bytes : List ℕ) (o : Option (List ℕ × List ℕ)) → by_header bytes o ≡ Ok m → IsWhole m
header_whole m bytes None h = cc
header_whole m bytes (Some p) h =
    elim (bytes_eq p.0 (codes "psh image 1")) as (λ b. (if b then entries starting 0 p.1 else Err (record { kind = BadHeader; left = length bytes })) ≡ Ok m → IsWhole m) [
      | true ↦ λ k. entries_whole m p.1 starting 0 start_whole k
      | false ↦ λ k. cc
    ] h

numbered_whole : (m : FileMap) (bytes : List ℕ) (r : Result FileMap Stop) → (r ≡ Ok m → IsWhole m) → numbered_line bytes r ≡ Ok m → IsWhole m
numbered_whole m bytes (Ok files) w h = let same : files ≡ m = cc in w (ap (λ (x : FileMap). Ok x) same)
numbered_whole m bytes (Err stop) w h = cc

image_whole : (m : FileMap) (bytes : List ℕ) → image_of bytes ≡ Ok m → IsWhole m
image_whole m bytes h = numbered_whole m bytes (by_header bytes (line_of bytes)) (header_whole m bytes (line_of bytes)) h

never : (m : FileMap) (line : ℕ) (r : Result FileMap ImageFault) → beyond line r ≡ Ok m → IsWhole m
never m line (Ok files) h = cc
never m line (Err fault) h =
    elim (stands fault line) as (λ b. (if b then Err fault else Err (record { kind = TooLarge; line = line })) ≡ Ok m → IsWhole m) [ true ↦ λ k. cc | false ↦ λ k. cc ] h

-- what is read from an image can be written as one
pub read_whole : (bytes : List ℕ) (m : FileMap) → read_image bytes ≡ Ok m → IsWhole m
read_whole bytes m h =
    elim (nat_le (length bytes) 268435456) as (λ b. (if b then image_of bytes else beyond (1 + newlines (take 268435456 bytes)) (image_of (take 268435456 bytes))) ≡ Ok m → IsWhole m) [
      | true ↦ λ k. image_whole m bytes k
      | false ↦ λ k. never m (1 + newlines (take 268435456 bytes)) (image_of (take 268435456 bytes)) k
    ] h
