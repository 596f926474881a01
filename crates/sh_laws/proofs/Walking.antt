-- Where a path leads: a directory, or a name in one.
use Rattle.std.proofs.Common.{◌≡◌, ℕ, suc, zero, ◌+◌, ◌≤◌, List, [], ◌∷◌, ◌++◌, Bool, true, false, cond, length, take, Some, None, Option, Result, Ok, refl, sym, ap, ◌∙◌, subst, arith, inl, inr, ◌⊎◌, length-append}
use Rattle.std.proofs.lemmas.Bool.{and_parts}
use Rattle.std.specs.Prelude.{if◌then◌else◌, codes, max, nat_le, slice_get}
use Rattle.std.specs.FinMap as map
use Rattle.std.specs.Option.{option_and_then}
use Rattle.std.specs.Str.{bytes_eq}
use Rattle.std.proofs.lemmas.Slice.Eq.{bytes_eq-Decides}
use Rattle.sh_files_image.specs.Paths.{has_slash, is_good_name, path_in, last_slash, names_fit, parent, next_place}
use Rattle.sh_files_image.specs.Texts.{is_left_out}
use Rattle.sh_files_image.specs.declared.node.Node.{Node}
use Rattle.sh_files_image.specs.declared.node.Node.TheVariants.{Directory, File, Null, Terminal}
use Rattle.sh_files_image.proofs.Places.{order}
use Rattle.sh_files.specs.Image.{is_directory}
use Rattle.sh_files.specs.Nodes.{FileMap, entrance, behind_entrance, node_at, starting, walk_end}
use Rattle.sh_files.specs.Whole.{IsPlaced, IsWhole}
use Rattle.sh_files.specs.declared.fault.FileFault.{FileFault}
use Rattle.sh_files.proofs.Lookups.{is, is_same}
use Rattle.sh_files.proofs.Whole.{first_entries, started}
use Rattle.sh_laws.proofs.Names.{NoSlash, total}

-- ---- the directories that are there from the start
abbrev at_start : List ℕ → Option ℕ → Option Node
at_start q o = option_and_then (slice_get starting.nodes) o

root_or_devices : (q : List ℕ) → is_directory (at_start q (map.find order q first_entries)) ≡ true → (q ≡ codes "/") ⊎ (q ≡ codes "/dev")
unfolding starting
root_or_devices q h = root (is q (codes "/")) refl h
  where
    third : (b : Bool) → is_directory (at_start q (cond b (Some 3) None)) ≡ true → (q ≡ codes "/") ⊎ (q ≡ codes "/dev")
    third true k = cc
    third false k = cc

    second : (b : Bool) → is_directory (at_start q (cond b (Some 2) (cond (is q (codes "/dev/tty")) (Some 3) None))) ≡ true → (q ≡ codes "/") ⊎ (q ≡ codes "/dev")
    second true k = cc
    second false k = third (is q (codes "/dev/tty")) k

    first : (b : Bool) → is q (codes "/dev") ≡ b → is_directory (at_start q (cond b (Some 1) (cond (is q (codes "/dev/null")) (Some 2) (cond (is q (codes "/dev/tty")) (Some 3) None)))) ≡ true → (q ≡ codes "/") ⊎ (q ≡ codes "/dev")
    first true e k = inr (is_same q (codes "/dev") e)
    first false e k = second (is q (codes "/dev/null")) k

    root : (b : Bool) → is q (codes "/") ≡ b → is_directory (at_start q (cond b (Some 0) (cond (is q (codes "/dev")) (Some 1) (cond (is q (codes "/dev/null")) (Some 2) (cond (is q (codes "/dev/tty")) (Some 3) None))))) ≡ true → (q ≡ codes "/") ⊎ (q ≡ codes "/dev")
    root true e k = inl (is_same q (codes "/") e)
    root false e k = first (is q (codes "/dev")) refl k

-- ---- a directory is the root, that of the devices, or one that an image may name
pub data Directories (files : FileMap) (p : List ℕ) : Type 0 where
  root : p ≡ codes "/" → Directories files p
  devices : p ≡ codes "/dev" → Directories files p
  named : IsPlaced files p Directory → Directories files p

a_directory : (o : Option Node) → is_directory o ≡ true → o ≡ Some Directory
a_directory None h = cc
a_directory (Some Directory) h = refl
a_directory (Some (File f)) h = cc
a_directory (Some Null) h = cc
a_directory (Some Terminal) h = cc

pub which : (files : FileMap) (p : List ℕ) → IsWhole files → is_directory (node_at files p) ≡ true → Directories files p
which files p w h = at (is_left_out p) refl
  where
    of : (p ≡ codes "/") ⊎ (p ≡ codes "/dev") → Directories files p
    of (inl e) = root e
    of (inr e) = devices e

    at : (b : Bool) → is_left_out p ≡ b → Directories files p
    at true e = of (root_or_devices p (ap (λ o. is_directory (at_start p o)) (sym (started p)) ∙ ap is_directory (sym (w.there p e)) ∙ h))
    at false e = named (w.placed p Directory e (a_directory (node_at files p) h))

root_at_start : is_directory (node_at starting (codes "/")) ≡ true
unfolding starting
root_at_start = ap (λ o. is_directory (at_start (codes "/") o)) (started (codes "/"))

pub root_is : (files : FileMap) → IsWhole files → is_directory (node_at files (codes "/")) ≡ true
root_is files w = ap is_directory (w.there (codes "/") refl) ∙ root_at_start

parent_is : (files : FileMap) (p : List ℕ) → IsWhole files → is_directory (node_at files p) ≡ true → is_directory (node_at files (parent p)) ≡ true
parent_is files p w h = at (which files p w h)
  where
    at : Directories files p → is_directory (node_at files (parent p)) ≡ true
    at (root e) = subst (λ q. is_directory (node_at files (parent q)) ≡ true) (sym e) (root_is files w)
    at (devices e) = subst (λ q. is_directory (node_at files (parent q)) ≡ true) (sym e) (root_is files w)
    at (named placed) = placed.held

-- ---- a name in a directory
pub record Entry (files : FileMap) (r : List ℕ) : Type 0 where
  pub place : List ℕ
  pub name : List ℕ
  pub directory : is_directory (node_at files place) ≡ true
  pub good : is_good_name name ≡ true
  pub plain : has_slash name ≡ false
  pub path : r ≡ path_in place name

abbrev pub Standing : FileMap → List ℕ → Type 0
Standing files r = (is_directory (node_at files r) ≡ true) ⊎ Entry files r

step_stands : (files : FileMap) (place name : List ℕ) → IsWhole files → is_directory (node_at files place) ≡ true → nat_le (length name) 255 ≡ true → has_slash name ≡ false → Standing files (next_place place name)
step_stands files place name w d l s = empty (bytes_eq name []) refl
  where
    up : (b : Bool) → bytes_eq name (codes "..") ≡ b → bytes_eq name [] ≡ false → bytes_eq name (codes ".") ≡ false → Standing files (if b then parent place else path_in place name)
    up true e f g = inl (parent_is files place w d)
    up false e f g = inr (record { place = place; name = name; directory = d; good = rw (f, g, e) l; plain = s; path = refl })

    dot : (b : Bool) → bytes_eq name (codes ".") ≡ b → bytes_eq name [] ≡ false → Standing files (if b then place else if bytes_eq name (codes "..") then parent place else path_in place name)
    dot true e f = inl d
    dot false e f = up (bytes_eq name (codes "..")) refl f e

    empty : (b : Bool) → bytes_eq name [] ≡ b → Standing files (if b then place else if bytes_eq name (codes ".") then place else if bytes_eq name (codes "..") then parent place else path_in place name)
    empty true e = inl d
    empty false e = dot (bytes_eq name (codes ".")) refl e

-- ---- how long a path is
abbrev pub Short : List ℕ → ℕ → Type 0
Short p n = (p ≡ codes "/") ⊎ (length p ≤ n)

pub longer : (p : List ℕ) (n m : ℕ) → Short p n → n ≤ m → Short p m
longer p n m (inl e) l = inl e
longer p n m (inr k) l = inr (omega (arith, k, l))

take_short : (k : ℕ) (xs : List ℕ) → length (take k xs) ≤ length xs
take_short zero xs = omega arith
take_short (suc k) [] = omega arith
take_short (suc k) (x ∷ xs) = let i = take_short k xs in omega (arith, i)

parent_short : (p : List ℕ) (n : ℕ) → Short p n → Short (parent p) n
parent_short p n (inl e) = inl (ap parent e)
parent_short p n (inr l) = let i = take_short (max 1 (last_slash p)) p in inr (omega (arith, i, l))

joined_short : (p name : List ℕ) (n : ℕ) → Short p n → Short (path_in p name) (suc (length name) + n)
joined_short p name n s = at (bytes_eq p (codes "/")) refl s
  where
    behind : bytes_eq p (codes "/") ≡ false → Short p n → Short (p ++ 47 ∷ name) (suc (length name) + n)
    behind e (inl f) = let g : true ≡ false = sym ((bytes_eq-Decides p (codes "/")).1 f) ∙ e in cc
    behind e (inr l) = inr (omega (arith, l, length-append p (47 ∷ name)))

    at : (b : Bool) → bytes_eq p (codes "/") ≡ b → Short p n → Short (if b then 47 ∷ name else p ++ 47 ∷ name) (suc (length name) + n)
    at true e k = inr (omega arith)
    at false e k = behind e k

step_short : (place name : List ℕ) (n : ℕ) → Short place n → Short (next_place place name) (suc (length name) + n)
step_short place name n s = empty (bytes_eq name []) s
  where
    stay : Short place n → Short place (suc (length name) + n)
    stay k = longer place n (suc (length name) + n) k (omega arith)

    up : (b : Bool) → Short place n → Short (if b then parent place else path_in place name) (suc (length name) + n)
    up true k = longer (parent place) n (suc (length name) + n) (parent_short place n k) (omega arith)
    up false k = joined_short place name n k

    dot : (b : Bool) → Short place n → Short (if b then place else if bytes_eq name (codes "..") then parent place else path_in place name) (suc (length name) + n)
    dot true k = stay k
    dot false k = up (bytes_eq name (codes "..")) k

    empty : (b : Bool) → Short place n → Short (if b then place else if bytes_eq name (codes ".") then place else if bytes_eq name (codes "..") then parent place else path_in place name) (suc (length name) + n)
    empty true k = stay k
    empty false k = dot (bytes_eq name (codes ".")) k

-- ---- the walk
pub entered : (o : Option Node) (next : Result (List ℕ) FileFault) (r : List ℕ) → behind_entrance (entrance o) next ≡ Ok r → (is_directory o ≡ true) × (next ≡ Ok r)
entered None next r h = cc
entered (Some Directory) next r h = (refl, h)
entered (Some (File f)) next r h = cc
entered (Some Null) next r h = cc
entered (Some Terminal) next r h = cc

pub walk : (files : FileMap) (names : List (List ℕ)) (place r : List ℕ) (n : ℕ) → IsWhole files → Standing files place → Short place n → NoSlash names → names_fit names ≡ true → walk_end files place names ≡ Ok r
    → Standing files r × Short r (total names + n)
walk files [] place r n w s k p f h = let same : place ≡ r = cc in subst (λ q. Standing files q × Short q (0 + n)) same (s, longer place n (0 + n) k (omega arith))
walk files (name ∷ names) place r n w s k p f h =
    let g = entered (node_at files place) (walk_end files (next_place place name) names) r h in
    let l = and_parts (nat_le (length name) 255) (names_fit names) f in
    let i = walk files names (next_place place name) r (suc (length name) + n) w (step_stands files place name w g.0 l.0 p.0) (step_short place name n k) p.1 l.1 g.1 in
    (i.0, longer r (total names + (suc (length name) + n)) (total (name ∷ names) + n) i.1 (omega arith))
