-- Files of which one was opened are files that an image can hold, as before.
use Rattle.std.proofs.Common.{◌≡◌, ℕ, suc, zero, ◌+◌, ◌≤◌, List, [], ◌∷◌, ◌++◌, Bool, true, false, length, set, drop, Some, None, Option, Result, Ok, Err, refl, sym, ap, ◌∙◌, subst, arith, inl, inr, length-append}
use Rattle.std.specs.Prelude.{◌==◌, ◌||◌, if◌then◌else◌, not, codes, nat_eq, nat_le, slice_get}
use Rattle.std.specs.FinMap as map
use Rattle.std.specs.List.{list_any, slice_split, starts_with}
use Rattle.std.specs.Option.{option_and_then}
use Rattle.std.specs.Str.{bytes_eq}
use Rattle.std.proofs.lemmas.Bool.{and_parts, eqb-true, leb-true}
use Rattle.std.proofs.lemmas.Bool.Decides.{nat_tests}
use Rattle.std.proofs.lemmas.Slice.Eq.{bytes_eq-Decides}
use Rattle.sh_files_image.specs.Contents.{Regular}
use Rattle.sh_files_image.specs.Paths.{absolute, begins_at_root, components, fits, good_names, has_slash, is_device, is_good_name, is_image_path, path_in, names_fit, parent}
use Rattle.sh_files_image.specs.declared.node.Node.{Node}
use Rattle.sh_files_image.specs.declared.node.Node.TheVariants.{Directory, File, Null, Terminal}
use Rattle.sh_files.specs.Image.{is_directory, path_fault}
use Rattle.sh_files.specs.Nodes.{FileMap, allows, file_creation, file_after_open, is_empty, may_create, new_file, node_at, number_and_files, open_node, open_number, open_place, opened, resolution, starting, walk_end, with_new, with_node}
use Rattle.sh_files.specs.Whole.{IsWhole}
use Rattle.sh_files.specs.declared.fault.FileFault.{FileFault}
use Rattle.sh_files.specs.declared.fault.FileFault.TheVariants.{Exists, NoAccess, NoEntry}
use Rattle.sh_files.specs.declared.opening.Opening.{Opening}
use Rattle.sh_files.proofs.Changed.{truncate_whole}
use Rattle.sh_files.proofs.Kept.{new_whole, not_left_out}
use Rattle.sh_files.proofs.Whole.{started}
use Rattle.sh_laws.proofs.Names.{Good, NoSlash, good_more, one_more, one_part, parent_behind, parent_in_root, slash, split_good, total}
use Rattle.sh_laws.proofs.Walking.{Directories, Entry, Short, Standing, devices, entered, longer, named, root, root_is, walk, which}

untrue : (b : Bool) → not b ≡ true → b ≡ false
untrue true h = cc
untrue false h = refl

either_false : (a b : Bool) → (a || b) ≡ false → (a ≡ false) × (b ≡ false)
either_false true b h = cc
either_false false b h = (refl, h)

-- ---- where a path leads
rooted : (xs : List ℕ) → begins_at_root xs ≡ true → (rest : List ℕ) × (xs ≡ 47 ∷ rest)
rooted [] h = cc
rooted (b ∷ bs) h = (bs, ap (λ c. c ∷ bs) (eqb-true b 47 h))

absolute_rooted : (directory path : List ℕ) → begins_at_root directory ≡ true → (rest : List ℕ) × (absolute directory path ≡ 47 ∷ rest)
absolute_rooted directory path h = at (begins_at_root path) refl
  where
    in_it : (b : Bool) → (rest : List ℕ) × ((if b then 47 ∷ path else directory ++ 47 ∷ path) ≡ 47 ∷ rest)
    in_it true = (path, refl)
    in_it false = let r = rooted directory h in (r.0 ++ 47 ∷ path, ap (λ xs. xs ++ 47 ∷ path) r.1)

    at : (b : Bool) → begins_at_root path ≡ b → (rest : List ℕ) × ((if b then path else path_in directory path) ≡ 47 ∷ rest)
    at true e = rooted path e
    at false e = in_it (bytes_eq directory (codes "/"))

parts_are : (n : ℕ) (l : List (List ℕ)) → Good n l → NoSlash l × (total l ≡ suc n)
parts_are n [] g = absurd g
parts_are n (y ∷ ys) g = g

from_root : (files : FileMap) (rest r : List ℕ) → IsWhole files → length (47 ∷ rest) ≤ 1024 → names_fit (components (47 ∷ rest)) ≡ true → walk_end files (codes "/") (components (47 ∷ rest)) ≡ Ok r
    → Standing files r × Short r 1024
from_root files rest r w l f h =
    let g = parts_are (length rest) (slice_split slash rest) (split_good rest) in
    let e = entered (node_at files (codes "/")) (walk_end files (codes "/") (slice_split slash rest)) r h in
    let s = walk files (slice_split slash rest) (codes "/") r 0 w (inl e.0) (inl refl) g.0 f e.1 in
    (s.0, longer r (total (slice_split slash rest) + 0) 1024 s.1 (omega (arith, l, g.1)))

pub reached : (files : FileMap) (directory path r : List ℕ) → begins_at_root directory ≡ true → IsWhole files → resolution files directory path ≡ Ok r → Standing files r × Short r 1024
reached files directory path r b w h = tried (is_empty path) (fits directory path) refl h
  where
    from : (fits directory path ≡ true) → walk_end files (codes "/") (components (absolute directory path)) ≡ Ok r → Standing files r × Short r 1024
    from f g =
        let a = absolute_rooted directory path b in
        let k = and_parts (nat_le (length path) 1024) _ f in
        let m = and_parts (nat_le (length (absolute directory path)) 1024) (names_fit (components (absolute directory path))) k.1 in
        from_root files a.0 r w (leb-true (length (47 ∷ a.0)) 1024 (ap (λ xs. nat_le (length xs) 1024) (sym a.1) ∙ m.0)) (ap (λ xs. names_fit (components xs)) (sym a.1) ∙ m.1)
        (ap (λ xs. walk_end files (codes "/") (components xs)) (sym a.1) ∙ g)

    tried : (e f : Bool) → fits directory path ≡ f → (if e || not f then Err NoEntry else walk_end files (codes "/") (components (absolute directory path))) ≡ Ok r → Standing files r × Short r 1024
    tried true f q g = cc
    tried false true q g = from q g
    tried false false q g = cc

-- ---- a file may be made there
record Creates (r : List ℕ) : Type 0 where
  no_device : starts_with nat_eq r (codes "/dev/") ≡ false
  one_line : list_any (λ b. b == 10) r ≡ false
  no_nul : list_any (λ b. b == 0) r ≡ false

creates : (r : List ℕ) → may_create r ≡ true → Creates r
creates r h =
    let a = and_parts (not (starts_with nat_eq r (codes "/dev/"))) _ h in
    let b = and_parts (not (list_any (λ b. b == 10) r)) (not (list_any (λ b. b == 0) r)) a.1 in
    record { no_device = untrue _ a.0; one_line = untrue _ b.0; no_nul = untrue _ b.1 }

record Path (files : FileMap) (r : List ℕ) : Type 0 where
  named : is_image_path r ≡ true
  held : is_directory (node_at files (parent r)) ≡ true

-- the names of a path of one name more, and its directory
record Behind (files : FileMap) (r : List ℕ) : Type 0 where
  rooted : begins_at_root r ≡ true
  names : good_names (components (drop 1 r)) ≡ true
  held : is_directory (node_at files (parent r)) ≡ true
  long : 2 ≤ length r

some_bytes : (name : List ℕ) → is_good_name name ≡ true → 1 ≤ length name
some_bytes [] h = cc
some_bytes (b ∷ bs) h = omega arith

in_root : (files : FileMap) (name : List ℕ) → is_directory (node_at files (codes "/")) ≡ true → is_good_name name ≡ true → has_slash name ≡ false → Behind files (47 ∷ name)
in_root files name d g s =
    let n = some_bytes name g in
    record {
      rooted = refl;
      names = rw (one_part name s, g) refl;
      held = rw (parent_in_root name s) d;
      long = omega (arith, n);
    }

in_named : (files : FileMap) (p name : List ℕ) → begins_at_root p ≡ true → good_names (components (drop 1 p)) ≡ true → is_directory (node_at files p) ≡ true → is_good_name name ≡ true → has_slash name ≡ false
    → Behind files (p ++ 47 ∷ name)
in_named files [] name b c d g s = cc
in_named files (x ∷ xs) name b c d g s =
    record {
      rooted = b;
      names = rw (one_more xs name s) (good_more (slice_split slash xs) name c g);
      held = rw (parent_behind x xs name s) d;
      long = omega (arith, length-append xs (47 ∷ name));
    }

behind : (files : FileMap) (r : List ℕ) → IsWhole files → Creates r → Entry files r → Behind files r
behind files r w c e = at (which files e.place w e.directory)
  where
    at : Directories files e.place → Behind files r
    at (root q) =
        subst (Behind files) (sym (e.path ∙ ap (λ p. path_in p e.name) q)) (in_root files e.name (root_is files w) e.good e.plain)
    at (devices q) =
        let f : true ≡ false = ap (λ p. starts_with nat_eq p (codes "/dev/")) (sym (e.path ∙ ap (λ p. path_in p e.name) q)) ∙ c.no_device in
        cc
    at (named placed) =
        let k = and_parts (begins_at_root e.place) _ placed.named in
        let m = and_parts (good_names (components (drop 1 e.place))) _ k.1 in
        let o = either_false (bytes_eq e.place (codes "/")) (is_device e.place) (not_left_out e.place placed.named) in
        subst (Behind files) (sym (e.path ∙ ap (λ b. if b then 47 ∷ e.name else e.place ++ 47 ∷ e.name) o.0))
        (in_named files e.place e.name k.0 m.0 e.directory e.good e.plain)

absent : (files : FileMap) (p : List ℕ) → map.get files.paths p ≡ None → is_directory (node_at files p) ≡ false
absent files p h = ap (λ o. is_directory (option_and_then (slice_get files.nodes) o)) h

devices_are : is_directory (node_at starting (codes "/dev")) ≡ true
unfolding starting
devices_are = ap (λ o. is_directory (option_and_then (slice_get starting.nodes) o)) (started (codes "/dev"))

no_devices : (files : FileMap) (r : List ℕ) → IsWhole files → map.get files.paths r ≡ None → bytes_eq r (codes "/dev") ≡ false
no_devices files r w h = at (bytes_eq r (codes "/dev")) refl
  where
    at : (b : Bool) → bytes_eq r (codes "/dev") ≡ b → b ≡ false
    at true e =
        let q = (bytes_eq-Decides r (codes "/dev")).0 e in
        let f : true ≡ false = sym (ap is_directory (w.there (codes "/dev") refl) ∙ devices_are) ∙ (ap (λ p. is_directory (node_at files p)) (sym q) ∙ absent files r h) in
        cc
    at false e = refl

short_path : (r : List ℕ) → Short r 1024 → 2 ≤ length r → nat_le (length r) 1024 ≡ true
short_path r (inl e) l = let f = ap (λ (xs : List ℕ). length xs) e in absurd (omega (arith, f, l))
short_path r (inr k) l = grind (arith, nat_tests)

no_fault : (files : FileMap) (r : List ℕ) → IsWhole files → Standing files r → Short r 1024 → map.get files.paths r ≡ None → may_create r ≡ true → path_fault files r ≡ None
no_fault files r w (inl d) s h m = let f : true ≡ false = sym d ∙ absent files r h in cc
no_fault files r w (inr e) s h m =
    let c = creates r m in
    let b = behind files r w c e in
    let i : is_image_path r ≡ true = rw (b.rooted, b.names, c.no_nul, short_path r s b.long, no_devices files r w h, c.no_device) refl in
    rw (i, b.held, h) refl

-- ---- the calls
abbrev files_of : FileMap → Result (ℕ × FileMap) FileFault → FileMap
files_of files (Ok p) = p.1
files_of files (Err fault) = files

abbrev if_made : FileMap → List ℕ → Bool → Result (ℕ × FileMap) FileFault
if_made files place b = if b then Ok (length files.nodes, with_new files place new_file) else Err NoAccess

abbrev if_wanted : FileMap → List ℕ → Bool → Result (ℕ × FileMap) FileFault
if_wanted files place b = if not b then Err NoEntry else if_made files place (may_create place)

made_whole : (files m : FileMap) (n : ℕ) (place : List ℕ) (how : Opening) → IsWhole files → Standing files place × Short place 1024 → map.get files.paths place ≡ None → file_creation files place how ≡ Ok (n, m) → IsWhole m
made_whole files m n place how w s h g = wanted how.create g
  where
    made : (b : Bool) → may_create place ≡ b → if_made files place b ≡ Ok (n, m) → IsWhole m
    made true e k =
        let same : with_new files place new_file ≡ m = ap (files_of files) k in
        subst IsWhole same (new_whole files place new_file w (no_fault files place w s.0 s.1 h e) (creates place e).one_line refl)
    made false e k = cc

    wanted : (b : Bool) → if_wanted files place b ≡ Ok (n, m) → IsWhole m
    wanted true k = made (may_create place) refl k
    wanted false k = cc

set_same : (nodes : List Node) (n : ℕ) (node : Node) → slice_get nodes n ≡ Some node → nodes ≡ set nodes n node
set_same [] n node h = cc
set_same (x ∷ nodes) zero node h = let same : x ≡ node = cc in ap (λ y. y ∷ nodes) same
set_same (x ∷ nodes) (suc n) node h = ap (λ ns. x ∷ ns) (set_same nodes n node h)

same_whole : (files m : FileMap) (n k : ℕ) (node : Node) → IsWhole files → slice_get files.nodes n ≡ Some node → number_and_files n (with_node files n (Ok node)) ≡ Ok (k, m) → IsWhole m
same_whole files m n k node w h g =
    let same : record files { nodes = set files.nodes n node } ≡ m = ap (files_of files) g in
    subst IsWhole same (subst (λ ns. IsWhole (record files { nodes = ns })) (set_same files.nodes n node h) w)

emptied_whole : (files m : FileMap) (n k : ℕ) (file : Regular) (how : Opening) → IsWhole files → slice_get files.nodes n ≡ Some (File file) → number_and_files n (with_node files n (Ok (File (file_after_open file how)))) ≡ Ok (k, m) → IsWhole m
emptied_whole files m n k file how w h g = at how.truncate g
  where
    at : (b : Bool) → number_and_files n (with_node files n (Ok (File (if b then record file { bytes = [] } else file)))) ≡ Ok (k, m) → IsWhole m
    at true q =
        let same : record files { nodes = set files.nodes n (File (record file { bytes = [] })) } ≡ m = ap (files_of files) q in
        truncate_whole files m n 0 w (rw h (ap Ok same))
    at false q = same_whole files m n k (File file) w h q

there_whole : (files m : FileMap) (n k : ℕ) (how : Opening) (o : Option Node) → IsWhole files → slice_get files.nodes n ≡ o → number_and_files n (open_node files how n o) ≡ Ok (k, m) → IsWhole m
there_whole files m n k how None w h g = cc
there_whole files m n k how (Some Directory) w h g = cc
there_whole files m n k how (Some (File file)) w h g = exclusive how.exclusive g
  where
    allowed : (b : Bool) → number_and_files n (with_node files n (if b then Ok (File (file_after_open file how)) else Err NoAccess)) ≡ Ok (k, m) → IsWhole m
    allowed true q = emptied_whole files m n k file how w h q
    allowed false q = cc

    exclusive : (b : Bool) → number_and_files n (with_node files n (if b then Err Exists else if allows file.flags how then Ok (File (file_after_open file how)) else Err NoAccess)) ≡ Ok (k, m) → IsWhole m
    exclusive true q = cc
    exclusive false q = allowed (allows file.flags how) q
there_whole files m n k how (Some Null) w h g = same_whole files m n k Null w h g
there_whole files m n k how (Some Terminal) w h g = same_whole files m n k Terminal w h g

pub opened_whole : (files changed : FileMap) (directory path : List ℕ) (how : Opening) (n : ℕ) → begins_at_root directory ≡ true → IsWhole files → opened files directory path how ≡ Ok (n, changed) → IsWhole changed
opened_whole files changed directory path how n b w h = at (resolution files directory path) refl h
  where
    of : (place : List ℕ) (o : Option ℕ) → Standing files place × Short place 1024 → map.get files.paths place ≡ o → open_number files place how o ≡ Ok (n, changed) → IsWhole changed
    of place None s e g = made_whole files changed n place how w s e g
    of place (Some k) s e g = there_whole files changed k n how (slice_get files.nodes k) w refl g

    at : (r : Result (List ℕ) FileFault) → resolution files directory path ≡ r → open_place files how r ≡ Ok (n, changed) → IsWhole changed
    at (Err fault) e g = cc
    at (Ok place) e g = of place (map.get files.paths place) (reached files directory path place b w e) refl g
