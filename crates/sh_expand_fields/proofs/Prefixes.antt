-- Directories along a path: where a longer path leads somewhere, what stands before its last components does so too.
use Rattle.std.proofs.Common.{◌≡◌, ◌⊎◌, inl, inr, ⊎_elim, ℕ, suc, ◌+◌, ◌<◌, ◌≤◌, List, [], ◌∷◌, ◌++◌, Bool, true, false, cond, ◌&&◌, ◌||◌, not, length, length-append, append_assoc, drop, codes, Option, Some, None, Result, Ok, Err, nat_le, refl, sym, ap, ◌∙◌, subst, arith}
use Rattle.std.specs.Prelude.{◌==◌, nat_eq, if◌then◌else◌, option_to_list, slice_get}
use Rattle.std.specs.List.{onto_first, starts_with}
use Rattle.std.specs.Str.{bytes_eq}
use Rattle.std.specs.FinMap as map
use Rattle.std.specs.Option.{option_and_then}
use Rattle.std.proofs.lemmas.Bool.{eq-eqb}
use Rattle.std.proofs.lemmas.Bool.Decides.{nat_tests}
use Rattle.sh_files_image.specs.Fields.{behind}
use Rattle.sh_files_image.specs.Listing.{prefix_of, is_filename, name_if, name_in, names_in}
use Rattle.sh_files_image.specs.Paths.{absolute, begins_at_root, components, fits, has_slash, path_in, names_fit, parent, next_place}
use Rattle.sh_files_image.specs.Places.{Entries}
use Rattle.sh_files_image.proofs.Places.{order}
use Rattle.sh_files.specs.Nodes.{FileMap, behind_entrance, entrance, is_empty, list_place, names_at, node_at, resolution, walk_end}
use Rattle.sh_files.specs.declared.fault.FileFault.{FileFault}
use Rattle.sh_files.specs.declared.fault.FileFault.TheVariants.{NoEntry}
use Rattle.sh_files.proofs.Lookups.{is, is_same}
use Rattle.sh_expand_fields.specs.Pathnames.{IsOne, if_listed, names_behind, or_here}

-- ---- components
parts_first : (xs : List ℕ) → (h : List ℕ) × (hs : List (List ℕ)) × (components xs ≡ h ∷ hs)
parts_first [] = ([], [], refl)
parts_first (x ∷ xs) =
    let f = parts_first xs in
    elim (x == 47) as (λ b. (h : List ℕ) × (hs : List (List ℕ)) × (cond b ([] ∷ components xs) (onto_first x (components xs)) ≡ h ∷ hs)) [
      | true ↦ ([], components xs, refl)
      | false ↦ (x ∷ f.0, f.1, ap (onto_first x) f.2)
    ]

split_append : (xs ys : List ℕ) → components (xs ++ 47 ∷ ys) ≡ components xs ++ components ys
split_append [] ys = refl
split_append (x ∷ xs) ys =
    let f = parts_first xs in
    elim (x == 47) as (λ b. cond b ([] ∷ components (xs ++ 47 ∷ ys)) (onto_first x (components (xs ++ 47 ∷ ys))) ≡ cond b ([] ∷ components xs) (onto_first x (components xs)) ++ components ys) [
      | true ↦ ap (λ (l : List (List ℕ)). [] ∷ l) (split_append xs ys)
      | false ↦ ap (onto_first x) (split_append xs ys ∙ ap (λ (l : List (List ℕ)). l ++ components ys) f.2) ∙ ap (λ (l : List (List ℕ)). onto_first x l ++ components ys) (sym f.2)
    ]

pub one_part : (xs : List ℕ) → has_slash xs ≡ false → components xs ≡ xs ∷ []
one_part [] h = refl
one_part (x ∷ xs) h =
    elim (x == 47) as (λ b. (b || has_slash xs) ≡ false → cond b ([] ∷ components xs) (onto_first x (components xs)) ≡ (x ∷ xs) ∷ []) [
      | true ↦ λ k. cc
      | false ↦ λ k. ap (onto_first x) (one_part xs k)
    ] h

and_left : (a b : Bool) → (a && b) ≡ true → a ≡ true
and_left true b h = refl
and_left false b h = cc

and_right : (a b : Bool) → (a && b) ≡ true → b ≡ true
and_right true b h = h
and_right false b h = cc

fit_left : (xs ys : List (List ℕ)) → names_fit (xs ++ ys) ≡ true → names_fit xs ≡ true
fit_left [] ys h = refl
fit_left (x ∷ xs) ys h =
    let l = and_left (nat_le (length x) 255) (names_fit (xs ++ ys)) h in
    ap (λ b. b && names_fit xs) l ∙ fit_left xs ys (and_right (nat_le (length x) 255) (names_fit (xs ++ ys)) h)

fit_join : (xs ys : List (List ℕ)) → names_fit xs ≡ true → names_fit ys ≡ true → names_fit (xs ++ ys) ≡ true
fit_join [] ys h k = k
fit_join (x ∷ xs) ys h k =
    let l = and_left (nat_le (length x) 255) (names_fit xs) h in
    ap (λ b. b && names_fit (xs ++ ys)) l ∙ fit_join xs ys (and_right (nat_le (length x) 255) (names_fit xs) h) k

shorter : (m n k : ℕ) → m ≤ n → nat_le n k ≡ true → nat_le m k ≡ true
shorter m n k l h = grind (arith, nat_tests)

-- ---- walks
through : (r : Result (Unit {0}) FileFault) (next : Result (List ℕ) FileFault) (place : List ℕ) → behind_entrance r next ≡ Ok place → (u : Unit {0}) × (r ≡ Ok u) × (next ≡ Ok place)
through (Ok u) next place h = (u, refl, h)
through (Err f) next place h = cc

walked_split : (files : FileMap) (at : List ℕ) (xs ys : List (List ℕ)) (place : List ℕ) → walk_end files at (xs ++ ys) ≡ Ok place → (mid : List ℕ) × (walk_end files at xs ≡ Ok mid) × (walk_end files mid ys ≡ Ok place)
walked_split files at [] ys place h = (at, refl, h)
walked_split files at (x ∷ xs) ys place h =
    let t = through (entrance (node_at files at)) (walk_end files (next_place at x) (xs ++ ys)) place h in
    let r = walked_split files (next_place at x) xs ys place t.2 in
    (r.0, ap (λ (e : Result (Unit {0}) FileFault). behind_entrance e (walk_end files (next_place at x) xs)) t.1 ∙ r.1, r.2)

walked_join : (files : FileMap) (at : List ℕ) (xs ys : List (List ℕ)) (mid : List ℕ) → walk_end files at xs ≡ Ok mid → walk_end files at (xs ++ ys) ≡ walk_end files mid ys
walked_join files at [] ys mid h = let e : at ≡ mid = cc in ap (λ (p : List ℕ). walk_end files p ys) e
walked_join files at (x ∷ xs) ys mid h =
    let t = through (entrance (node_at files at)) (walk_end files (next_place at x) xs) mid h in
    ap (λ (e : Result (Unit {0}) FileFault). behind_entrance e (walk_end files (next_place at x) (xs ++ ys))) t.1 ∙ walked_join files (next_place at x) xs ys mid t.2

-- ---- a prefix of a path, and the absolute path that it stands for
abbrev pub IsPrefix : List ℕ → Type 0
IsPrefix f = (f ≡ []) ⊎ ((g : List ℕ) × (f ≡ g ++ 47 ∷ []))

-- its absolute path ends in a component that stays where it is
record Base (directory f : List ℕ) : Type 0 where
  base : List ℕ
  end : List ℕ
  stays : (place : List ℕ) → next_place place end ≡ place
  single : components end ≡ end ∷ []
  small : length end ≤ 1
  here : absolute directory (or_here f) ≡ base ++ 47 ∷ end
  further : (r : List ℕ) → (f ≡ [] → begins_at_root r ≡ false) → absolute directory (f ++ r) ≡ base ++ 47 ∷ r
  short : length (or_here f) ≤ length f + 1
  filled : is_empty (or_here f) ≡ false
  within : (r : List ℕ) → 0 < length r → length (or_here f) ≤ length (f ++ r)

abbrev chosen : Bool → List ℕ → List ℕ → List ℕ
chosen b directory path = if b then path else path_in directory path

-- what stands before the slash between a directory and a name in it: nothing where the directory is the root
abbrev stem_by : Bool → List ℕ → List ℕ
stem_by true directory = []
stem_by false directory = directory

abbrev stem : List ℕ → List ℕ
stem directory = stem_by (bytes_eq directory (codes "/")) directory

joined_stem : (directory name : List ℕ) → path_in directory name ≡ stem directory ++ 47 ∷ name
joined_stem directory name = by (bytes_eq directory (codes "/"))
  where
    by : (b : Bool) → (if b then 47 ∷ name else directory ++ 47 ∷ name) ≡ stem_by b directory ++ 47 ∷ name
    by true = refl
    by false = refl

based : (b : Bool) (directory g : List ℕ) → (base : List ℕ) × ((r : List ℕ) → chosen b directory (g ++ 47 ∷ r) ≡ base ++ 47 ∷ r)
based true directory g = (g, λ r. refl)
based false directory g =
    (stem directory ++ 47 ∷ g, λ r. joined_stem directory (g ++ 47 ∷ r) ∙ sym (append_assoc (stem directory) (47 ∷ g) (47 ∷ r)))

longer : (f r : List ℕ) → length f ≤ length (f ++ r)
longer f r = let a : length (f ++ r) ≡ length f + length r = length-append f r in omega arith

base_here : (directory : List ℕ) → Base directory []
base_here directory = record {
  base = stem directory;
  end = codes ".";
  stays = λ place. refl;
  single = refl;
  small = omega arith;
  here = joined_stem directory (codes ".");
  further = λ r n. ap (λ b. if b then r else path_in directory r) (n refl) ∙ joined_stem directory r;
  short = omega arith;
  filled = refl;
  within = λ r h. omega arith;
}

base_root : (directory : List ℕ) → Base directory (47 ∷ [])
base_root directory = record {
  base = [];
  end = [];
  stays = λ place. refl;
  single = refl;
  small = omega arith;
  here = refl;
  further = λ r n. refl;
  short = omega arith;
  filled = refl;
  within = λ r h. omega arith;
}

base_behind : (directory : List ℕ) (x : ℕ) (g : List ℕ) → Base directory ((x ∷ g) ++ 47 ∷ [])
base_behind directory x g =
    let b = based (x == 47) directory (x ∷ g) in
    record {
      base = b.0;
      end = [];
      stays = λ place. refl;
      single = refl;
      small = omega arith;
      here = b.1 [];
      further = λ r n. ap (absolute directory) (append_assoc (x ∷ g) (47 ∷ []) r) ∙ b.1 r;
      short = omega arith;
      filled = refl;
      within = λ r h. longer ((x ∷ g) ++ 47 ∷ []) r;
    }

base_of : (directory f : List ℕ) → IsPrefix f → Base directory f
base_of directory f h =
    ⊎_elim
    (λ (e : f ≡ []). subst (Base directory) (sym e) (base_here directory))
    (λ (k : (g : List ℕ) × (f ≡ g ++ 47 ∷ [])). subst (Base directory) (sym k.1) (ended k.0))
    h
  where
    ended : (g : List ℕ) → Base directory (g ++ 47 ∷ [])
    ended [] = base_root directory
    ended (x ∷ g) = base_behind directory x g

-- ---- listed directories
abbrev Opens : FileMap → Result (List ℕ) FileFault → Type 0
Opens files r = (place : List ℕ) × (u : Unit {0}) × (r ≡ Ok place) × (entrance (node_at files place) ≡ Ok u)

listed_ok : (files : FileMap) (r : Result (List ℕ) FileFault) (xs : List (List ℕ)) → if_listed (list_place files r) ≡ Some xs → Opens files r
listed_ok files (Err f) xs h = cc
listed_ok files (Ok place) xs h = at (entrance (node_at files place)) refl h
  where
    at : (e : Result (Unit {0}) FileFault) → entrance (node_at files place) ≡ e → if_listed (names_at files place e) ≡ Some xs → Opens files (Ok place)
    at (Ok u) q k = (place, u, refl, q)
    at (Err f) q k = cc

pick : (e f : Bool) (w : Result (List ℕ) FileFault) (place : List ℕ) → (if e || not f then Err NoEntry else w) ≡ Ok place → (f ≡ true) × (w ≡ Ok place)
pick true f w place h = cc
pick false false w place h = cc
pick false true w place h = (refl, h)

-- what the absolute path leads to
walk_of : (files : FileMap) (directory path : List ℕ) (place : List ℕ) → resolution files directory path ≡ Ok place → (fits directory path ≡ true) × (walk_end files (codes "/") (components (absolute directory path)) ≡ Ok place)
walk_of files directory path place h = pick (is_empty path) (fits directory path) (walk_end files (codes "/") (components (absolute directory path))) place h

resolved_by : (files : FileMap) (directory path : List ℕ) (place : List ℕ) → is_empty path ≡ false → fits directory path ≡ true → walk_end files (codes "/") (components (absolute directory path)) ≡ Ok place → resolution files directory path ≡ Ok place
resolved_by files directory path place e f w = ap (λ b. if b || not (fits directory path) then Err NoEntry else walk_end files (codes "/") (components (absolute directory path))) e ∙ ap (λ b. if false || not b then Err NoEntry else walk_end files (codes "/") (components (absolute directory path))) f ∙ w

-- where a prefix leads, and what the path goes on with from there
pub record Back (files : FileMap) (directory f r : List ℕ) : Type 0 where
  pub mid : List ℕ
  pub place : List ℕ
  pub listing : names_behind files directory f ≡ Some (names_in (prefix_of mid) (map.entries files.paths))
  pub onward : walk_end files mid (components r ++ [] ∷ []) ≡ Ok place
  pub last : (u : Unit {0}) × (entrance (node_at files place) ≡ Ok u)

-- what the limits say of a prefix, where they hold of a longer path
prefix_fits : (directory f r : List ℕ) (b : Base directory f) → (f ≡ [] → begins_at_root r ≡ false) → 0 < length r → fits directory (f ++ r) ≡ true → fits directory (or_here f) ≡ true
prefix_fits directory f r b n l h =
    let a = b.further r n in
    let h1 : nat_le (length (f ++ r)) 1024 ≡ true = and_left (nat_le (length (f ++ r)) 1024) (nat_le (length (absolute directory (f ++ r))) 1024 && names_fit (components (absolute directory (f ++ r)))) h in
    let h2 = and_right (nat_le (length (f ++ r)) 1024) (nat_le (length (absolute directory (f ++ r))) 1024 && names_fit (components (absolute directory (f ++ r)))) h in
    let h3 : nat_le (length (absolute directory (f ++ r))) 1024 ≡ true = and_left (nat_le (length (absolute directory (f ++ r))) 1024) (names_fit (components (absolute directory (f ++ r)))) h2 in
    let h4 : names_fit (components (absolute directory (f ++ r))) ≡ true = and_right (nat_le (length (absolute directory (f ++ r))) 1024) (names_fit (components (absolute directory (f ++ r)))) h2 in
    let h5 : names_fit (components b.base ++ components r) ≡ true = subst (λ x. names_fit x ≡ true) (ap components a ∙ split_append b.base r) h4 in
    let k1 : nat_le (length (or_here f)) 1024 ≡ true = shorter (length (or_here f)) (length (f ++ r)) 1024 (b.within r l) h1 in
    let k3 : nat_le (length (b.base ++ 47 ∷ b.end)) 1024 ≡ true = shorter (length (b.base ++ 47 ∷ b.end)) (length (b.base ++ 47 ∷ r)) 1024 (no_longer b.base b.end r b.small l) (subst (λ x. nat_le (length x) 1024 ≡ true) a h3) in
    let k4 : names_fit (components (b.base ++ 47 ∷ b.end)) ≡ true = ap names_fit (split_append b.base b.end ∙ ap (λ (x : List (List ℕ)). components b.base ++ x) b.single) ∙ fit_join (components b.base) (b.end ∷ []) (fit_left (components b.base) (components r) h5) (short_end b.end b.small) in
    ap (λ x. x && (nat_le (length (absolute directory (or_here f))) 1024 && names_fit (components (absolute directory (or_here f))))) k1
    ∙ ap (λ (x : List ℕ). nat_le (length x) 1024 && names_fit (components x)) b.here
    ∙ ap (λ x. x && names_fit (components (b.base ++ 47 ∷ b.end))) k3
    ∙ k4
  where
    no_longer : (base end r : List ℕ) → length end ≤ 1 → 0 < length r → length (base ++ 47 ∷ end) ≤ length (base ++ 47 ∷ r)
    no_longer base end r s l = let a : length (base ++ 47 ∷ end) ≡ length base + suc (length end) = length-append base (47 ∷ end) in let b : length (base ++ 47 ∷ r) ≡ length base + suc (length r) = length-append base (47 ∷ r) in omega arith

    short_end : (end : List ℕ) → length end ≤ 1 → names_fit (end ∷ []) ≡ true
    short_end end s = ap (λ b. b && true) (shorter (length end) 1 255 s refl)

filled_here : (f r : List ℕ) → or_here (f ++ (r ++ 47 ∷ [])) ≡ f ++ (r ++ 47 ∷ [])
filled_here [] [] = refl
filled_here [] (x ∷ r) = refl
filled_here (x ∷ f) r = refl

-- where a path with more behind a prefix leads somewhere, the prefix does
pub back : (files : FileMap) (directory f r : List ℕ) → IsPrefix f → (f ≡ [] → begins_at_root (r ++ 47 ∷ []) ≡ false) → (xs : List (List ℕ)) → names_behind files directory (f ++ (r ++ 47 ∷ [])) ≡ Some xs → Back files directory f r
back files directory f r prefix n xs h =
    let w : List ℕ = f ++ (r ++ 47 ∷ []) in
    let l = listed_ok files (resolution files directory w) xs (subst (λ p. if_listed (list_place files (resolution files directory p)) ≡ Some xs) (filled_here f r) h) in
    let v = walk_of files directory w l.0 l.2 in
    let b = base_of directory f prefix in
    let parts : components (absolute directory w) ≡ components b.base ++ (components r ++ [] ∷ []) = ap components (b.further (r ++ 47 ∷ []) n) ∙ split_append b.base (r ++ 47 ∷ []) ∙ ap (λ (x : List (List ℕ)). components b.base ++ x) (split_append r []) in
    let p = walked_split files (codes "/") (components b.base) (components r ++ [] ∷ []) l.0 (ap (walk_end files (codes "/")) (sym parts) ∙ v.1) in
    let q = parts_first r in
    let enter = through (entrance (node_at files p.0)) (walk_end files (next_place p.0 q.0) (q.1 ++ [] ∷ [])) l.0 (ap (λ (x : List (List ℕ)). walk_end files p.0 (x ++ [] ∷ [])) (sym q.2) ∙ p.2) in
    let stay : walk_end files (codes "/") (components (absolute directory (or_here f))) ≡ Ok p.0 =
    ap (walk_end files (codes "/")) (ap components b.here ∙ split_append b.base b.end ∙ ap (λ (x : List (List ℕ)). components b.base ++ x) b.single)
    ∙ walked_join files (codes "/") (components b.base) (b.end ∷ []) p.0 p.1
    ∙ ap (λ (e : Result (Unit {0}) FileFault). behind_entrance e (Ok (next_place p.0 b.end))) enter.1
    ∙ ap (λ (x : List ℕ). Ok x) (b.stays p.0)
    in
    record {
      mid = p.0;
      place = l.0;
      listing =
          ap (λ (x : Result (List ℕ) FileFault). if_listed (list_place files x)) (resolved_by files directory (or_here f) p.0 b.filled (prefix_fits directory f (r ++ 47 ∷ []) b n (filled r) v.0) stay)
          ∙ ap (λ (e : Result (Unit {0}) FileFault). if_listed (names_at files p.0 e)) enter.1;
      onward = p.2;
      last = (l.1, l.3);
    }
  where
    filled : (r : List ℕ) → 0 < length (r ++ 47 ∷ [])
    filled [] = omega arith
    filled (x ∷ r) = omega arith

-- ---- names in a directory
pub one_right : (t : List ℕ) (xs ys : List (List ℕ)) → IsOne t ys → IsOne t (xs ++ ys)
one_right t [] ys h = h
one_right t (x ∷ xs) ys h = inr (one_right t xs ys h)

begins_self : (xs ys : List ℕ) → starts_with nat_eq (xs ++ ys) xs ≡ true
begins_self [] ys = refl
begins_self (x ∷ xs) ys = ap (λ b. b && starts_with nat_eq (xs ++ ys) xs) (eq-eqb x x refl) ∙ begins_self xs ys

dropped_self : (xs ys : List ℕ) → drop (length xs) (xs ++ ys) ≡ ys
dropped_self [] ys = refl
dropped_self (x ∷ xs) ys = dropped_self xs ys

behind_self : (xs ys : List ℕ) → behind xs (xs ++ ys) ≡ Some ys
behind_self xs ys = ap (λ b. if b then Some (drop (length xs) (xs ++ ys)) else None) (begins_self xs ys) ∙ ap (λ (r : List ℕ). Some r) (dropped_self xs ys)

joined_name : (mid n : List ℕ) → is_filename n ≡ true → name_in (prefix_of mid) (path_in mid n) ≡ Some n
joined_name mid n h =
    elim (bytes_eq mid (codes "/")) as (λ b. name_if (behind (if b then codes "/" else mid ++ 47 ∷ []) (if b then 47 ∷ n else mid ++ 47 ∷ n)) ≡ Some n) [
      | true ↦ ap name_if (behind_self (codes "/") n) ∙ ap (λ b. if b then Some n else None) h
      | false ↦ ap (λ (x : List ℕ). name_if (behind (mid ++ 47 ∷ []) x)) (sym (append_assoc mid (47 ∷ []) n)) ∙ ap name_if (behind_self (mid ++ 47 ∷ []) n) ∙ ap (λ b. if b then Some n else None) h
    ]

listed_there : (prefix n x : List ℕ) (k : ℕ) (es : Entries) → map.find order x es ≡ Some k → name_in prefix x ≡ Some n → IsOne n (names_in prefix es)
listed_there prefix n x k [] h e = cc
listed_there prefix n x k (y ∷ es) h e =
    elim (is x y.0) as (λ b. is x y.0 ≡ b → cond b (Some y.1) (map.find order x es) ≡ Some k → IsOne n (names_in prefix (y ∷ es))) [
      | true ↦ λ s l.
          let o : name_in prefix y.0 ≡ Some n = ap (name_in prefix) (sym (is_same x y.0 s)) ∙ e in
          subst (λ (m : Option (List ℕ)). IsOne n (option_to_list m ++ names_in prefix es)) (sym o) (inl refl)
      | false ↦ λ s l. one_right n (option_to_list (name_in prefix y.0)) (names_in prefix es) (listed_there prefix n x k es l e)
    ] refl h

has_number : (files : FileMap) (x : List ℕ) (u : Unit {0}) → entrance (node_at files x) ≡ Ok u → (k : ℕ) × (map.get files.paths x ≡ Some k)
has_number files x u h = at (map.get files.paths x) refl
  where
    at : (o : Option ℕ) → map.get files.paths x ≡ o → (k : ℕ) × (map.get files.paths x ≡ Some k)
    at (Some k) e = (k, e)
    at None e = let z : entrance None ≡ Ok u = ap (λ (o : Option ℕ). entrance (option_and_then (slice_get files.nodes) o)) (sym e) ∙ h in cc

step_is : (a b c : Bool) (p q j : List ℕ) → a ≡ false → b ≡ false → c ≡ false → (if a then p else if b then p else if c then q else j) ≡ j
step_is false false false p q j x y z = refl
step_is true b c p q j x y z = cc
step_is false true c p q j x y z = cc
step_is false false true p q j x y z = cc

-- a name that isn't empty, dot or dot-dot, and has no slash
pub record IsProper (n : List ℕ) : Type 0 where
  pub filled : bytes_eq n [] ≡ false
  pub slashless : has_slash n ≡ false
  pub no_dot : bytes_eq n (codes ".") ≡ false
  pub no_dots : bytes_eq n (codes "..") ≡ false

pub held : (files : FileMap) (mid n place : List ℕ) → IsProper n → walk_end files mid (n ∷ [] ∷ []) ≡ Ok place → IsOne n (names_in (prefix_of mid) (map.entries files.paths))
held files mid n place p h =
    let first = through (entrance (node_at files mid)) (walk_end files (next_place mid n) ([] ∷ [])) place h in
    let second = through (entrance (node_at files (next_place mid n))) (Ok (next_place (next_place mid n) [])) place first.2 in
    let s : next_place mid n ≡ path_in mid n = step_is (bytes_eq n []) (bytes_eq n (codes ".")) (bytes_eq n (codes "..")) mid (parent mid) (path_in mid n) p.filled p.no_dot p.no_dots in
    let k = has_number files (path_in mid n) second.0 (ap (λ (x : List ℕ). entrance (node_at files x)) (sym s) ∙ second.1) in
    let name : is_filename n ≡ true = ap (λ b. not b && not (has_slash n)) p.filled ∙ ap (λ b. not b) p.slashless in
    listed_there (prefix_of mid) n (path_in mid n) k.0 (map.entries files.paths) (sym (map.get-entries files.paths (path_in mid n)) ∙ k.1) (joined_name mid n name)

pub not_root : (n : List ℕ) → IsProper n → begins_at_root (n ++ 47 ∷ []) ≡ false
not_root [] p = let e : true ≡ false = p.filled in cc
not_root (x ∷ n) p = or_left (x == 47) (has_slash n) p.slashless
  where
    or_left : (a b : Bool) → (a || b) ≡ false → a ≡ false
    or_left false b h = refl
    or_left true b h = cc

-- ---- paths that are there
