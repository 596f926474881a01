-- An image that is written of what was read isn't longer than what was read.
use Rattle.std.proofs.Common.{◌≡◌, ℕ, suc, zero, ◌+◌, ◌-◌, ◌<◌, ◌≤◌, List, [], ◌∷◌, ◌++◌, Bool, true, false, cond, length, take, Some, None, Option, Result, Ok, Err, refl, sym, ap, ◌∙◌, subst, arith, length-append}
use Rattle.std.specs.Prelude.{if◌then◌else◌, codes, decimal, nat_le, slice_get}
use Rattle.std.specs.Str.{bytes_eq}
use Rattle.std.specs.Ordering.{is_eq}
use Rattle.std.specs.declared.cmp.Ordering.TheVariants.{Less, Equal, Greater}
use Rattle.std.specs.FinMap as map
use Rattle.std.specs.FinMap.Entries.{by_order}
use Rattle.std.proofs.lemmas.Bool.Decides.{nat_tests}
use Rattle.std.proofs.lemmas.Slice.Eq.{bytes_eq-Decides}
use Rattle.sh_files_image.specs.Fields.{behind, file_fields, line_of, newlines}
use Rattle.sh_files_image.specs.Places.{Entries}
use Rattle.sh_files_image.specs.Texts.{directory_line, file_line, is_left_out, node_text}
use Rattle.sh_files_image.specs.declared.node.Flags.{Flags}
use Rattle.sh_files_image.specs.declared.node.Node.{Node}
use Rattle.sh_files_image.specs.declared.node.Node.TheVariants.{Directory, File}
use Rattle.sh_files_image.proofs.Places.{Rises, laws, order, right}
use Rattle.sh_files_image.proofs.Wording as wording
use Rattle.sh_files_image.proofs.Wording.{behind_length, fields_length, line_is_one, line_length}
use Rattle.sh_files.specs.Nodes.{FileMap, starting, with_new}
use Rattle.sh_files.specs.Image.{behind_entry, beyond, by_directory, by_file, by_header, by_line, content_fault, files_at_end, entries, entry, file_entry, first_fault, image_of, not_directory, numbered_line, path_fault, node_entry, read_image, stands}
use Rattle.sh_files.specs.Whole.{IsWhole}
use Rattle.sh_files_image.specs.Writing.{found_text, path_text, paths_text}
use Rattle.sh_files.specs.Writing.{image_text, last_line}
use Rattle.sh_files_image.specs.declared.image_fault.FaultKind.{FaultKind}
use Rattle.sh_files_image.specs.declared.image_fault.FaultKind.TheVariants.{BadHeader, TooLarge}
use Rattle.sh_files_image.specs.declared.image_fault.ImageFault.{ImageFault}
use Rattle.sh_files.specs.declared.image.Stop.{Stop}
use Rattle.sh_files.proofs.Lookups.{Numbered, first_found, get_prefix, get_last, is, not_first}
use Rattle.sh_files.proofs.Restored.{left_out_text, other}
use Rattle.sh_files.proofs.Kept.{free, line_whole, start_whole}
use Rattle.sh_files.proofs.Whole.{start_absent}

-- ---- one more path
grown : (nodes : List Node) (p : List ℕ) (n : ℕ) (es : Entries) → map.find order p es ≡ None → length (paths_text nodes (map.put order p n es)) ≡ length (path_text nodes (p, n)) + length (paths_text nodes es)
grown nodes p n [] h = length-append (path_text nodes (p, n)) []
grown nodes p n (e ∷ es) h =
    elim (order p e.0) as (λ r. cond (is_eq r) (Some e.1) (map.find order p es) ≡ None → length (paths_text nodes (by_order r ((p, n) ∷ e ∷ es) ((e.0, n) ∷ es) (e ∷ map.put order p n es))) ≡ length (path_text nodes (p, n)) + length (paths_text nodes (e ∷ es))) [
      | Less ↦ λ _. length-append (path_text nodes (p, n)) (paths_text nodes (e ∷ es))
      | Equal ↦ λ k. cc
      | Greater ↦ λ k.
          let a = length-append (path_text nodes e) (paths_text nodes (map.put order p n es)) in
          let b = length-append (path_text nodes e) (paths_text nodes es) in
          let c = grown nodes p n es k in
          omega (arith, a, b, c)
    ] h

abbrev pub Within : ℕ → Entries → Type 0
Within k [] = Unit {0}
Within k (e ∷ es) = (e.1 < k) × Within k es

pub within : (k : ℕ) (es : Entries) → Rises es → ((q : List ℕ) (n : ℕ) → map.find order q es ≡ Some n → n < k) → Within k es
within k [] h f = tt
within k (e ∷ es) h f = (f e.0 e.1 (first_found e es), within k es (right _ _ h) (λ q n at. f q n (not_first q e es (other q n e es h at) ∙ at)))

pub same_texts : (nodes more : List Node) (es : Entries) → Within (length nodes) es → paths_text (nodes ++ more) es ≡ paths_text nodes es
same_texts nodes more [] h = refl
same_texts nodes more (e ∷ es) h =
    ap (λ (o : Option Node). (if is_left_out e.0 then [] else found_text e.0 o) ++ paths_text (nodes ++ more) es) (get_prefix nodes more e.1 h.0)
    ∙ ap (λ (xs : List ℕ). path_text nodes e ++ xs) (same_texts nodes more es h.1)

abbrev size : FileMap → ℕ
size files = length (paths_text files.nodes (map.entries files.paths))

one_text : (p : List ℕ) (node : Node) → length (if is_left_out p then [] else node_text p node) ≤ length (node_text p node)
one_text p node = elim (is_left_out p) as (λ b. length (if b then [] else node_text p node) ≤ length (node_text p node)) [ true ↦ omega arith | false ↦ omega arith ]

-- the text grows by that of the new node at most
new_size : (files : FileMap) (p : List ℕ) (node : Node) → Numbered files → map.get files.paths p ≡ None → size (with_new files p node) ≤ length (node_text p node) + size files
new_size files p node fits gone =
    let nodes = files.nodes ++ node ∷ [] in
    let es = map.entries files.paths in
    let n = length files.nodes in
    let put = ap (λ (xs : Entries). length (paths_text nodes xs)) (map.entries-insert laws files.paths p n) in
    let add = grown nodes p n es (sym (map.get-entries files.paths p) ∙ gone) in
    let old = ap (λ (xs : List ℕ). length xs) (same_texts files.nodes (node ∷ []) es (within n es (map.entries_sorted files.paths) (λ q k at. fits q k (map.get-entries files.paths q ∙ at)))) in
    let new = ap (λ (o : Option Node). length (if is_left_out p then [] else found_text p o)) (get_last files.nodes node) in
    let least = one_text p node in
    omega (arith, put, add, old, new, least)

-- ---- one line
record Costs (files : FileMap) (line after : List ℕ) (r : FileMap × ℕ) : Type 0 where
  grows : size r.0 ≤ size files + (length line + 1 + r.1)
  takes : r.1 ≤ length after

abbrev Answer : Type 0
Answer = Result (FileMap × ℕ) FaultKind

inside : (files : FileMap) (used : ℕ) (r : FileMap × ℕ) → ◌≡◌ {A = Answer} (Ok (files, used)) (Ok r) → ◌≡◌ {A = FileMap × ℕ} (files, used) r
inside files used r e = cc

placed_size : (files : FileMap) (path : List ℕ) (node : Node) (used : ℕ) (line after : List ℕ) (o : Option FaultKind) (r : FileMap × ℕ) → IsWhole files → (o ≡ None → path_fault files path ≡ None) → (o ≡ None → length (node_text path node) ≤ length line + 1 + used) → (o ≡ None → used ≤ length after) → node_entry files path node used o ≡ Ok r → Costs files line after r
placed_size files path node used line after None r w ok text fits h =
    let f = free files path (ok refl) in
    let g = new_size files path node w.numbered f.absent in
    let t = text refl in
    let u = fits refl in
    subst (Costs files line after) (inside (with_new files path node) used r h) (record { grows = omega arith; takes = u })
placed_size files path node used line after (Some kind) r w ok text fits h = cc

first_none : (a b : Option FaultKind) → first_fault a b ≡ None → (a ≡ None) × (b ≡ None)
first_none None b h = (refl, h)
first_none (Some kind) b h = cc

there : (k : ℕ) (o : Option ℕ) → content_fault k o ≡ None → (b : ℕ) × (o ≡ Some b)
there k None h = cc
there k (Some b) h = (b, refl)

within_by : (xs : List ℕ) (k b : ℕ) → slice_get xs k ≡ Some b → k < length xs
within_by [] k b h = cc
within_by (x ∷ xs) zero b h = omega arith
within_by (x ∷ xs) (suc k) b h = let l = within_by xs k b h in omega arith

taken : (k : ℕ) (xs : List ℕ) → k ≤ length xs → length (take k xs) ≡ k
taken zero xs h = refl
taken (suc k) [] h = absurd (omega arith)
taken (suc k) (x ∷ xs) h = ap suc (taken k xs (omega arith))

text_size : (path : List ℕ) (flags : Flags) (bytes : List ℕ) → length (node_text path (File (record { flags = flags; bytes = bytes }))) ≡ 5 + (length path + (5 + length (decimal (length bytes)))) + (length bytes + 2)
text_size path flags bytes =
    let line = file_line path (record { flags = flags; bytes = bytes }) in
    let a = length-append line (10 ∷ (bytes ++ 10 ∷ [])) in
    let b = length-append bytes (10 ∷ []) in
    let c = wording.words_length path (record { flags = flags; bytes = bytes }) in
    omega (arith, a, b, c)

file_size : (files : FileMap) (after path line : List ℕ) (flags : Flags) (o : Option ℕ) (r : FileMap × ℕ) → IsWhole files → ((n : ℕ) → o ≡ Some n → length line ≡ 5 + (length path + (5 + length (decimal n)))) → file_entry files after path flags o ≡ Ok r → Costs files line after r
file_size files after path line flags None r w long h = cc
file_size files after path line flags (Some n) r w long h =
    let fault = first_fault (path_fault files path) (content_fault n (slice_get after n)) in
    let fits = λ (e : fault ≡ None). let t = there n (slice_get after n) (first_none (path_fault files path) (content_fault n (slice_get after n)) e).1 in within_by after n t.0 t.1 in
    placed_size files path (File (record { flags = flags; bytes = take n after })) (n + 1) line after fault r w (λ e. (first_none (path_fault files path) (content_fault n (slice_get after n)) e).0)
    (λ e.
    let l = fits e in
    let all : length (take n after) ≡ n = taken n after (omega arith) in
    let t = text_size path flags (take n after) in
    let s = ap (λ k. 5 + (length path + (5 + length (decimal k))) + (k + 2)) all in
    let z = long n refl in
    omega (arith, t, s, z))
    (λ e. let l = fits e in omega arith) h

fields_size : (files : FileMap) (after line fields : List ℕ) (o : Option wording.File) (r : FileMap × ℕ) → file_fields fields ≡ o → IsWhole files → length line ≡ 5 + length fields → by_file files after o ≡ Ok r → Costs files line after r
fields_size files after line fields None r e w long h = cc
fields_size files after line fields (Some f) r e w long h =
    file_size files after f.0 line f.1.0 f.1.1 r w (λ n at. let l = fields_length fields f n e at in omega (arith, l, long)) h

other_size : (files : FileMap) (after line : List ℕ) (o : Option (List ℕ)) (r : FileMap × ℕ) → behind (codes "file ") line ≡ o → IsWhole files → not_directory files after o ≡ Ok r → Costs files line after r
other_size files after line None r e w h = cc
other_size files after line (Some fields) r e w h = fields_size files after line fields (file_fields fields) r refl w (behind_length (codes "file ") line fields e) h

line_size : (files : FileMap) (after line : List ℕ) (o : Option (List ℕ)) (r : FileMap × ℕ) → behind (codes "dir ") line ≡ o → IsWhole files → by_directory files line after o ≡ Ok r → Costs files line after r
line_size files after line None r e w h = other_size files after line (behind (codes "file ") line) r refl w h
line_size files after line (Some path) r e w h =
    let long = behind_length (codes "dir ") line path e in
    let text = length-append (directory_line path) (10 ∷ []) in
    placed_size files path Directory 0 line after (path_fault files path) r w (λ k. k) (λ _. omega (arith, long, text)) (λ _. omega arith) h

-- ---- all lines
record Fits (files m : FileMap) (left : ℕ) : Type 0 where
  room : size m + 4 ≤ size files + left

abbrev Next : Type 0
Next = FileMap → ℕ → Result FileMap Stop

same_size : (files m : FileMap) → files ≡ m → size files ≡ size m
same_size files m e = ap (λ (f : FileMap). size f) e

ended_size : (files m : FileMap) (after : List ℕ) (left : ℕ) → 4 ≤ left → files_at_end files after ≡ Ok m → Fits files m left
ended_size files m [] left l h = let same : files ≡ m = cc in let s = same_size files m same in record { room = omega arith }
ended_size files m (b ∷ bs) left l h = cc

advanced_size : (files m : FileMap) (line after : List ℕ) (left n : ℕ) (next : Next) (r : Answer) → length line + 1 + length after ≡ n → ((p : FileMap × ℕ) → r ≡ Ok p → IsWhole p.0 × Costs files line after p) → ((f : FileMap) (used : ℕ) → IsWhole f → next f used ≡ Ok m → Fits f m (n - 1 - used)) → behind_entry left (length line) r next ≡ Ok m → Fits files m n
advanced_size files m line after left n next (Ok p) all c rest h =
    let d = c p refl in
    let e = rest p.0 (length line + p.1) d.0 h in
    let g = d.1.grows in
    let t = d.1.takes in
    let r = e.room in
    record { room = omega (arith, g, t, r, all) }
advanced_size files m line after left n next (Err kind) all c rest h = cc

ends : (line : List ℕ) → bytes_eq line (codes "end") ≡ true → length line ≡ 3
ends line h = ap (λ (xs : List ℕ). length xs) ((bytes_eq-Decides line (codes "end")).0 h)

turn_size : (files m : FileMap) (bytes : List ℕ) (o : Option (List ℕ × List ℕ)) (next : Next) → line_of bytes ≡ o → IsWhole files → ((f : FileMap) (used : ℕ) → IsWhole f → next f used ≡ Ok m → Fits f m (length bytes - 1 - used)) → by_line files bytes o next ≡ Ok m → Fits files m (length bytes)
turn_size files m bytes None next e w rest h = cc
turn_size files m bytes (Some p) next e w rest h =
    let all = line_length bytes p e in
    elim (bytes_eq p.0 (codes "end")) as (λ b. bytes_eq p.0 (codes "end") ≡ b → (if b then files_at_end files p.1 else behind_entry (length bytes) (length p.0) (entry files p.0 p.1) next) ≡ Ok m → Fits files m (length bytes)) [
      | true ↦ λ t k. let l = ends p.0 t in ended_size files m p.1 (length bytes) (omega (arith, all, l)) k
      | false ↦ λ t k.
          advanced_size files m p.0 p.1 (length bytes) (length bytes) next (entry files p.0 p.1) all
          (λ r at. (line_whole files p.1 p.0 (behind (codes "dir ") p.0) r refl w (line_is_one bytes p e) at, line_size files p.1 p.0 (behind (codes "dir ") p.0) r refl w at))
          rest k
    ] refl h

entries_size : (m : FileMap) (bytes : List ℕ) (files : FileMap) (skip : ℕ) → IsWhole files → entries files skip bytes ≡ Ok m → Fits files m (length bytes - skip)
entries_size m [] files zero w h = cc
entries_size m [] files (suc skip) w h = cc
entries_size m (b ∷ bs) files (suc skip) w h = let f = (entries_size m bs files skip w h).room in record { room = omega arith }
entries_size m (b ∷ bs) files zero w h =
    let turn =
    turn_size files m (b ∷ bs) (line_of (b ∷ bs)) (λ after used. entries after used bs) refl w
    (λ after used v k. let f = (entries_size m bs after used v k).room in record { room = omega arith }) h in
    let f = turn.room in
    record { room = omega arith }

-- ---- an image
silent : (nodes : List Node) (es : Entries) → ((q : List ℕ) → is_left_out q ≡ false → map.find order q es ≡ None) → paths_text nodes es ≡ []
silent nodes [] h = refl
silent nodes (e ∷ es) h =
    elim (is_left_out e.0) as (λ b. is_left_out e.0 ≡ b → paths_text nodes (e ∷ es) ≡ []) [
      | true ↦ λ k. left_out_text nodes e es k ∙ silent nodes es (λ q out. behind_first q (h q out))
      | false ↦ λ k. let f : Some e.1 ≡ None = sym (first_found e es) ∙ h e.0 k in cc
    ] refl
  where
    behind_first : (q : List ℕ) → map.find order q (e ∷ es) ≡ None → map.find order q es ≡ None
    behind_first q f = elim (is q e.0) as (λ b. cond b (Some e.1) (map.find order q es) ≡ None → map.find order q es ≡ None) [ true ↦ λ g. cc | false ↦ λ g. g ] f

start_size : size starting ≡ 0
start_size = ap (λ (xs : List ℕ). length xs) (silent starting.nodes (map.entries starting.paths) (λ q h. sym (map.get-entries starting.paths q) ∙ start_absent q h))

header_size : (m : FileMap) (bytes : List ℕ) (o : Option (List ℕ × List ℕ)) → line_of bytes ≡ o → by_header bytes o ≡ Ok m → size m + 16 ≤ length bytes
header_size m bytes None e h = cc
header_size m bytes (Some p) e h =
    let all = line_length bytes p e in
    elim (bytes_eq p.0 (codes "psh image 1")) as (λ b. bytes_eq p.0 (codes "psh image 1") ≡ b → (if b then entries starting 0 p.1 else Err (record { kind = BadHeader; left = length bytes })) ≡ Ok m → size m + 16 ≤ length bytes) [
      | true ↦ λ t k.
          let f = (entries_size m p.1 starting 0 start_whole k).room in
          let l = ap (λ (xs : List ℕ). length xs) ((bytes_eq-Decides p.0 (codes "psh image 1")).0 t) in
          let s = start_size in
          omega (arith, all, f, l, s)
      | false ↦ λ t k. cc
    ] refl h

image_size : (m : FileMap) → length (image_text m) ≡ size m + 16
image_size m =
    let rest = paths_text m.nodes (map.entries m.paths) ++ last_line in
    let a = length-append (codes "psh image 1") (10 ∷ rest) in
    let b = length-append (paths_text m.nodes (map.entries m.paths)) last_line in
    omega (arith, a, b)

numbered_size : (m : FileMap) (bytes : List ℕ) (r : Result FileMap Stop) → (r ≡ Ok m → size m + 16 ≤ length bytes) → numbered_line bytes r ≡ Ok m → size m + 16 ≤ length bytes
numbered_size m bytes (Ok files) w h = let same : files ≡ m = cc in w (ap (λ (x : FileMap). Ok x) same)
numbered_size m bytes (Err stop) w h = cc

never : (m : FileMap) (line : ℕ) (r : Result FileMap ImageFault) → beyond line r ≡ Ok m → ⊥
never m line (Ok files) h = cc
never m line (Err fault) h =
    elim (stands fault line) as (λ b. (if b then Err fault else Err (record { kind = TooLarge; line = line })) ≡ Ok m → ⊥) [ true ↦ λ k. cc | false ↦ λ k. cc ] h

within_limit : (bytes : List ℕ) (m : FileMap) (b : Bool) → nat_le (length bytes) 268435456 ≡ b → (if b then image_of bytes else beyond (1 + newlines (take 268435456 bytes)) (image_of (take 268435456 bytes))) ≡ Ok m → (nat_le (length bytes) 268435456 ≡ true) × (image_of bytes ≡ Ok m)
within_limit bytes m true e h = (e, h)
within_limit bytes m false e h = absurd (never m (1 + newlines (take 268435456 bytes)) (image_of (take 268435456 bytes)) h)

-- what is written of what was read is short enough to be read
pub read_size : (bytes : List ℕ) (m : FileMap) → read_image bytes ≡ Ok m → length (image_text m) ≤ 268435456
read_size bytes m h =
    let t = within_limit bytes m (nat_le (length bytes) 268435456) refl h in
    let l = numbered_size m bytes (by_header bytes (line_of bytes)) (header_size m bytes (line_of bytes) refl) t.1 in
    let s = image_size m in
    let k = bound (length bytes) t.0 in
    omega (arith, l, s, k)
  where
    bound : (n : ℕ) → nat_le n 268435456 ≡ true → n ≤ 268435456
    bound n e = grind (arith, nat_tests)
