-- Paths that begin with a text stand together in a list in order.
use Rattle.std.proofs.Common.{◌≡◌, ℕ, suc, zero, ◌<◌, ◌≤◌, List, [], ◌∷◌, ◌++◌, ◌&&◌, T, Bool, true, false, length, take, drop, get_or, Some, None, Option, refl, sym, ap, ◌∙◌, subst, arith}
use Rattle.std.specs.Prelude.{nat_eq, not, if◌then◌else◌, option_to_list, ◌==◌, ◌||◌}
use Rattle.std.specs.List.{starts_with}
use Rattle.std.specs.List.Sorted.{IsPartitionPoint, IsPartitionedBy}
use Rattle.std.specs.Ordering.{is_lt, nat_cmp, ordering_then}
use Rattle.std.specs.declared.cmp.Ordering.{Ordering}
use Rattle.std.specs.declared.cmp.Ordering.TheVariants.{Less, Equal, Greater}
use Rattle.std.specs.Cmp.{tied_itself}
use Rattle.std.specs.FinMap as map
use Rattle.std.specs.FinMap.Entries.{below_all}
use Rattle.std.proofs.lemmas.Bool.Decides.{nat_tests}
use Rattle.std.proofs.lemmas.Cmp.{nat_cmp_total}
use Rattle.sh_files_image.specs.Fields.{behind}
use Rattle.sh_files_image.specs.Places.{Entries}
use Rattle.sh_files_image.specs.Listing.{comes_before, from, is_filename, name_if, name_in, names_in, none_before, past, rise}
use Rattle.sh_files_image.specs.Paths.{has_slash}
use Rattle.sh_files_image.proofs.Places.{Above, Below, Rises, Stands, below_at, laws, left, less, order, right}

abbrev pub begins : List ℕ → List ℕ → Bool
begins x prefix = starts_with nat_eq x prefix

pub both : (a b : Bool) → (a && b) ≡ true → (a ≡ true) × (b ≡ true)
both true b h = (refl, h)
both false b h = cc

pub same : (x y : ℕ) → nat_eq x y ≡ true → x ≡ y
same x y h = grind (arith, nat_tests)

pub itself : (n : ℕ) → nat_eq n n ≡ true
itself n = grind (arith, nat_tests)

-- what begins with a text doesn't come before it
pub begun_not_before : (x prefix : List ℕ) → begins x prefix ≡ true → is_lt (order x prefix) ≡ false
begun_not_before [] [] h = refl
begun_not_before (x ∷ xs) [] h = refl
begun_not_before [] (f ∷ fs) h = cc
begun_not_before (x ∷ xs) (f ∷ fs) h =
    let p = both (nat_eq f x) (begins xs fs) h in
    let tied : nat_cmp x f ≡ Equal = ap (nat_cmp x) (same f x p.0) ∙ tied_itself nat_cmp_total x in
    ap (λ r. is_lt (ordering_then r (order xs fs))) tied ∙ begun_not_before xs fs p.1

-- between a text and what begins with it, everything begins with it
pub between : (x y prefix : List ℕ) → is_lt (order x prefix) ≡ false → order x y ≡ Less → begins y prefix ≡ true → begins x prefix ≡ true
between x y [] a b c = refl
between [] y (f ∷ fs) a b c = cc
between (x ∷ xs) [] (f ∷ fs) a b c = cc
between (x ∷ xs) (y ∷ ys) (f ∷ fs) a b c = by (between xs ys fs) (nat_cmp x f) refl
  where
    p : (nat_eq f y ≡ true) × (begins ys fs ≡ true)
    p = both (nat_eq f y) (begins ys fs) c

    by : (is_lt (order xs fs) ≡ false → order xs ys ≡ Less → begins ys fs ≡ true → begins xs fs ≡ true) → (r : Ordering) → nat_cmp x f ≡ r → begins (x ∷ xs) (f ∷ fs) ≡ true
    by more Less e = let l : true ≡ false = sym (ap (λ r. is_lt (ordering_then r (order xs fs))) e) ∙ a in cc
    by more Equal e =
        let here : is_lt (order xs fs) ≡ false = sym (ap (λ r. is_lt (ordering_then r (order xs fs))) e) ∙ a in
        let there : order xs ys ≡ Less = sym (ap (λ r. ordering_then r (order xs ys)) (ap (nat_cmp x) (sym (same f y p.0)) ∙ e)) ∙ b in
        let rest = more here there p.1 in
        let tied : x ≡ f = map.nat_cmp-IsAntisymmetric x f e in
        ap (λ (n : ℕ). nat_eq n x && begins xs fs) (sym tied) ∙ ap (λ t. t && begins xs fs) (itself x) ∙ rest
    by more Greater e = let l : Greater ≡ Less = sym (ap (λ r. ordering_then r (order xs ys)) (ap (nat_cmp x) (sym (same f y p.0)) ∙ e)) ∙ b in cc

-- what comes behind a path that isn't before a text isn't before it
still_after : (x y prefix : List ℕ) → is_lt (order x prefix) ≡ false → order x y ≡ Less → is_lt (order y prefix) ≡ false
still_after x y prefix a b =
    elim (order y prefix) as (λ r. order y prefix ≡ r → is_lt r ≡ false) [
      | Less ↦ λ e. let t : true ≡ false = sym (ap is_lt (laws.trans x y prefix b e)) ∙ a in cc
      | Equal ↦ λ e. refl
      | Greater ↦ λ e. refl
    ] refl

pub later : (x prefix : List ℕ) (es : Entries) → T (map.is_sorted order ((x, 0) ∷ es)) → is_lt (order x prefix) ≡ false → none_before prefix es ≡ true
later x prefix [] h a = refl
later x prefix (e ∷ es) h a =
    let l = left _ _ h in
    ap (λ b. not b && none_before prefix es) (still_after x e.0 prefix a (less _ (left _ _ l)))
    ∙ later e.0 prefix es (right _ _ h) (still_after x e.0 prefix a (less _ (left _ _ l)))

-- no path comes before a text that the first doesn't come before
pub all_after : (prefix : List ℕ) (e : List ℕ × ℕ) (es : Entries) → Rises (e ∷ es) → is_lt (order e.0 prefix) ≡ false → none_before prefix (e ∷ es) ≡ true
all_after prefix e es h a = ap (λ b. not b && none_before prefix es) a ∙ later e.0 prefix es h a

pub first_after : (prefix : List ℕ) (e : List ℕ × ℕ) (es : Entries) → none_before prefix (e ∷ es) ≡ true → (is_lt (order e.0 prefix) ≡ false) × (none_before prefix es ≡ true)
first_after prefix e es a =
    let p = both (not (is_lt (order e.0 prefix))) (none_before prefix es) a in
    (untrue (is_lt (order e.0 prefix)) p.0, p.1)
  where
    untrue : (b : Bool) → not b ≡ true → b ≡ false
    untrue true h = cc
    untrue false h = refl

-- a search for the last that begins with a text may halve the list
pub together : (prefix : List ℕ) (es : Entries) → Rises es → none_before prefix es ≡ true → IsPartitionedBy (λ e. begins e.0 prefix) es
together prefix [] h a i j d le lt b = absurd (omega arith)
together prefix (e ∷ es) h a zero zero d le lt b = b
together prefix (e ∷ es) h a zero (suc j) d le lt b = between e.0 (get_or es j d).0 prefix (first_after prefix e es a).0 (below_at e.0 es j d (left _ _ h) (omega arith)) b
together prefix (e ∷ es) h a (suc i) zero d le lt b = absurd (omega arith)
together prefix (e ∷ es) h a (suc i) (suc j) d le lt b = together prefix es (right _ _ h) (first_after prefix e es a).1 i j d (omega arith) (omega arith) b

abbrev pub Ends : List ℕ → Entries → ℕ → Type 0
Ends prefix es i = IsPartitionPoint (λ e. begins e.0 prefix ≡ true) (λ e. begins e.0 prefix ≡ false) es i

pub drop_past : (prefix : List ℕ) (es : Entries) (i : ℕ) → i ≤ length es → Ends prefix es i → drop i es ≡ past prefix es
drop_past prefix [] zero le h = refl
drop_past prefix [] (suc i) le h = absurd (omega arith)
drop_past prefix (e ∷ es) zero le h = ap (λ b. if b then past prefix es else e ∷ es) (sym (h.1 0 e (omega arith) (omega arith)))
drop_past prefix (e ∷ es) (suc i) le h =
    drop_past prefix es i (omega arith) (λ k d _ lt. h.0 (suc k) d (omega arith) (omega arith), λ k d ge lt. h.1 (suc k) d (omega arith) (omega arith))
    ∙ ap (λ b. if b then past prefix es else e ∷ es) (sym (h.0 0 e (omega arith) (omega arith)))

pub drop_from_gap : (prefix : List ℕ) (es : Entries) (i : ℕ) → i ≤ length es → IsPartitionPoint (Below prefix) (Above prefix) es i → drop i es ≡ from prefix es
drop_from_gap prefix [] zero le h = refl
drop_from_gap prefix [] (suc i) le h = absurd (omega arith)
drop_from_gap prefix (e ∷ es) zero le h = ap (λ r. if is_lt r then from prefix es else e ∷ es) (sym (h.1 0 e (omega arith) (omega arith)))
drop_from_gap prefix (e ∷ es) (suc i) le h =
    drop_from_gap prefix es i (omega arith) (λ k d _ lt. h.0 (suc k) d (omega arith) (omega arith), λ k d ge lt. h.1 (suc k) d (omega arith) (omega arith))
    ∙ ap (λ r. if is_lt r then from prefix es else e ∷ es) (sym (h.0 0 e (omega arith) (omega arith)))

pub drop_from_found : (prefix : List ℕ) (es : Entries) (i : ℕ) → Rises es → i < length es → Stands prefix es i → drop i es ≡ from prefix es
drop_from_found prefix [] i h lt at = absurd (omega arith)
drop_from_found prefix (e ∷ es) zero h lt at = ap (λ r. if is_lt r then from prefix es else e ∷ es) (sym (ap (λ (x : List ℕ). order x prefix) (at e) ∙ tied_itself laws prefix))
drop_from_found prefix (e ∷ es) (suc i) h lt at =
    drop_from_found prefix es i (right _ _ h) (omega arith) at
    ∙ ap (λ r. if is_lt r then from prefix es else e ∷ es) (sym (sym (ap (order e.0) (at e)) ∙ below_at e.0 es i e (left _ _ h) (omega arith)))

-- ---- names
not_begun : (x prefix : List ℕ) → begins x prefix ≡ false → name_in prefix x ≡ None
not_begun x prefix h = ap (λ b. name_if (if b then Some (drop (length prefix) x) else None)) h

before_not_begun : (x prefix : List ℕ) → is_lt (order x prefix) ≡ true → begins x prefix ≡ false
before_not_begun x prefix h =
    elim (begins x prefix) as (λ b. begins x prefix ≡ b → b ≡ false) [
      | true ↦ λ e. sym h ∙ begun_not_before x prefix e
      | false ↦ λ e. refl
    ] refl

one_name : (prefix : List ℕ) (e : List ℕ × ℕ) (es : Entries) → name_in prefix e.0 ≡ None → names_in prefix (e ∷ es) ≡ names_in prefix es
one_name prefix e es h = ap (λ (o : Option (List ℕ)). option_to_list o ++ names_in prefix es) h

-- no name is left out before the first path that isn't before the directory's
pub names_from : (prefix : List ℕ) (es : Entries) → names_in prefix (from prefix es) ≡ names_in prefix es
names_from prefix [] = refl
names_from prefix (e ∷ es) =
    elim (is_lt (order e.0 prefix)) as (λ b. is_lt (order e.0 prefix) ≡ b → names_in prefix (if b then from prefix es else e ∷ es) ≡ names_in prefix (e ∷ es)) [
      | true ↦ λ h. names_from prefix es ∙ sym (one_name prefix e es (not_begun e.0 prefix (before_not_begun e.0 prefix h)))
      | false ↦ λ h. refl
    ] refl

none_begun : (x prefix : List ℕ) (es : Entries) → T (map.is_sorted order ((x, 0) ∷ es)) → is_lt (order x prefix) ≡ false → begins x prefix ≡ false → names_in prefix es ≡ []
none_begun x prefix [] h a b = refl
none_begun x prefix (e ∷ es) h a b =
    let l = less _ (left _ _ (left _ _ h)) in
    let n : begins e.0 prefix ≡ false =
    elim (begins e.0 prefix) as (λ t. begins e.0 prefix ≡ t → t ≡ false) [ true ↦ λ i. sym (between x e.0 prefix a l i) ∙ b | false ↦ λ i. refl ] refl in
    one_name prefix e es (not_begun e.0 prefix n) ∙ none_begun e.0 prefix es (right _ _ h) (still_after x e.0 prefix a l) n

-- behind the last path that begins with the directory's there is no name
pub names_end : (prefix : List ℕ) (e : List ℕ × ℕ) (es : Entries) → Rises (e ∷ es) → none_before prefix (e ∷ es) ≡ true → begins e.0 prefix ≡ false → names_in prefix (e ∷ es) ≡ []
names_end prefix e es h a b = one_name prefix e es (not_begun e.0 prefix b) ∙ none_begun e.0 prefix es h (first_after prefix e es a).0 b

-- a slash behind a place stays when more follows
slash_stays : (n : ℕ) (x sub : List ℕ) → begins x sub ≡ true → has_slash (drop n sub) ≡ true → has_slash (drop n x) ≡ true
slash_stays zero x [] b h = cc
slash_stays zero [] (s ∷ ss) b h = cc
slash_stays zero (x ∷ xs) (s ∷ ss) b h =
    let p = both (nat_eq s x) (begins xs ss) b in
    let q = same s x p.0 in
    elim (s == 47) as (λ t. (s == 47) ≡ t → (t || has_slash ss) ≡ true → has_slash (x ∷ xs) ≡ true) [
      | true ↦ λ e _. ap (λ t. t || has_slash xs) (ap (λ (n : ℕ). n == 47) (sym q) ∙ e)
      | false ↦ λ e k. ap (λ t. t || has_slash xs) (ap (λ (n : ℕ). n == 47) (sym q) ∙ e) ∙ slash_stays zero xs ss p.1 k
    ] refl h
slash_stays (suc n) x [] b h = cc
slash_stays (suc n) [] (s ∷ ss) b h = cc
slash_stays (suc n) (x ∷ xs) (s ∷ ss) b h = slash_stays n xs ss (both (nat_eq s x) (begins xs ss) b).1 h

no_name_below : (prefix x sub : List ℕ) → begins x sub ≡ true → has_slash (drop (length prefix) sub) ≡ true → name_in prefix x ≡ None
no_name_below prefix x sub b h =
    elim (begins x prefix) as (λ t. name_if (if t then Some (drop (length prefix) x) else None) ≡ None) [
      | true ↦ unnamed (drop (length prefix) x) (slash_stays (length prefix) x sub b h)
      | false ↦ refl
    ]
  where
    unnamed : (name : List ℕ) → has_slash name ≡ true → name_if (Some name) ≡ None
    unnamed [] k = cc
    unnamed (c ∷ cs) k = ap (λ t. if not t then Some (c ∷ cs) else None) k

-- what lies in a directory of the directory has no name there
pub names_past : (prefix sub : List ℕ) (es : Entries) → has_slash (drop (length prefix) sub) ≡ true → names_in prefix (past sub es) ≡ names_in prefix es
names_past prefix sub [] h = refl
names_past prefix sub (e ∷ es) h =
    elim (begins e.0 sub) as (λ b. begins e.0 sub ≡ b → names_in prefix (if b then past sub es else e ∷ es) ≡ names_in prefix (e ∷ es)) [
      | true ↦ λ k. names_past prefix sub es h ∙ sym (one_name prefix e es (no_name_below prefix e.0 sub k h))
      | false ↦ λ k. refl
    ] refl

-- ---- what is left of a list in order is in order
pub from_rises : (prefix : List ℕ) (es : Entries) → Rises es → Rises (from prefix es)
from_rises prefix [] h = h
from_rises prefix (e ∷ es) h = elim (is_lt (order e.0 prefix)) as (λ b. Rises (if b then from prefix es else e ∷ es)) [ true ↦ from_rises prefix es (right _ _ h) | false ↦ h ]

pub past_rises : (prefix : List ℕ) (es : Entries) → Rises es → Rises (past prefix es)
past_rises prefix [] h = h
past_rises prefix (e ∷ es) h = elim (begins e.0 prefix) as (λ b. Rises (if b then past prefix es else e ∷ es)) [ true ↦ past_rises prefix es (right _ _ h) | false ↦ h ]

pub past_after : (prefix sub : List ℕ) (es : Entries) → none_before prefix es ≡ true → none_before prefix (past sub es) ≡ true
past_after prefix sub [] a = a
past_after prefix sub (e ∷ es) a = elim (begins e.0 sub) as (λ b. none_before prefix (if b then past sub es else e ∷ es) ≡ true) [ true ↦ past_after prefix sub es (first_after prefix e es a).1 | false ↦ a ]

pub from_after : (prefix : List ℕ) (es : Entries) → Rises es → none_before prefix (from prefix es) ≡ true
from_after prefix [] h = refl
from_after prefix (e ∷ es) h =
    elim (is_lt (order e.0 prefix)) as (λ b. is_lt (order e.0 prefix) ≡ b → none_before prefix (if b then from prefix es else e ∷ es) ≡ true) [
      | true ↦ λ k. from_after prefix es (right _ _ h)
      | false ↦ λ k. all_after prefix e es h k
    ] refl

-- ---- one turn of the walk over a directory's paths
no_more : {A : Type 0} (xs : List A) → xs ++ [] ≡ xs
no_more [] = refl
no_more (x ∷ xs) = ap (λ (ys : List _). x ∷ ys) (no_more xs)

pub names_stop : (prefix : List ℕ) (names all : List (List ℕ)) (e : List ℕ × ℕ) (behind es : Entries) → es ≡ e ∷ behind → Rises es → none_before prefix es ≡ true → begins e.0 prefix ≡ false → names ++ names_in prefix es ≡ all → names ≡ all
names_stop prefix names all e behind es is h a b same =
    sym (no_more names)
    ∙ ap (λ (more : List (List ℕ)). names ++ more) (sym (ap (names_in prefix) is ∙ names_end prefix e behind (subst Rises is h) (subst (λ (xs : Entries). none_before prefix xs ≡ true) is a) b))
    ∙ same

pub begun_by_prefix : (n : ℕ) (x : List ℕ) → begins x (take n x) ≡ true
begun_by_prefix zero x = refl
begun_by_prefix (suc n) [] = refl
begun_by_prefix (suc n) (x ∷ xs) = ap (λ b. b && begins xs (take n xs)) (itself x) ∙ begun_by_prefix n xs

begun_by : (n : ℕ) (x path sub : List ℕ) → path ≡ x → sub ≡ take n path → begins x sub ≡ true
begun_by n x path sub is part = ap (λ (p : List ℕ). begins x p) (part ∙ ap (take n) is) ∙ begun_by_prefix n x

pub skip_after : (n : ℕ) (path sub : List ℕ) (e : List ℕ × ℕ) (behind es : Entries) → es ≡ e ∷ behind → path ≡ e.0 → sub ≡ take n path → Rises es → none_before sub es ≡ true
skip_after n path sub e behind es is named part h =
    ap (none_before sub) is ∙ all_after sub e behind (subst Rises is h) (begun_not_before e.0 sub (begun_by n e.0 path sub named part))

pub past-le : (sub : List ℕ) (es : Entries) → length (past sub es) ≤ length es
past-le sub [] = omega arith
past-le sub (e ∷ es) =
    let l = past-le sub es in
    elim (begins e.0 sub) as (λ b. length (if b then past sub es else e ∷ es) ≤ length (e ∷ es)) [ true ↦ omega arith | false ↦ omega arith ]

pub skip_shorter : (n : ℕ) (path sub : List ℕ) (e : List ℕ × ℕ) (behind es left : Entries) → es ≡ e ∷ behind → path ≡ e.0 → sub ≡ take n path → left ≡ past sub es → length left < length es
skip_shorter n path sub e behind es left is named part done =
    let one : past sub (e ∷ behind) ≡ past sub behind = ap (λ b. if b then past sub behind else e ∷ behind) (begun_by n e.0 path sub named part) in
    let size : length left ≡ length (past sub behind) = ap (λ (xs : Entries). length xs) (done ∙ ap (past sub) is ∙ one) in
    let whole : length es ≡ length (e ∷ behind) = ap (λ (xs : Entries). length xs) is in
    let l = past-le sub behind in
    omega arith

pub skip_names : (prefix sub slashed : List ℕ) (names all : List (List ℕ)) (es left : Entries) → left ≡ past sub es → slashed ≡ sub → has_slash (drop (length prefix) slashed) ≡ true → names ++ names_in prefix es ≡ all → names ++ names_in prefix left ≡ all
skip_names prefix sub slashed names all es left done is h same =
    ap (λ (xs : Entries). names ++ names_in prefix xs) done
    ∙ ap (λ (more : List (List ℕ)). names ++ more) (names_past prefix sub es (ap (λ (p : List ℕ). has_slash (drop (length prefix) p)) (sym is) ∙ h))
    ∙ same

-- ---- the names rise as their paths do
same_prefix : (x y prefix : List ℕ) → begins x prefix ≡ true → begins y prefix ≡ true → order (drop (length prefix) x) (drop (length prefix) y) ≡ order x y
same_prefix x y [] a b = refl
same_prefix [] y (f ∷ fs) a b = cc
same_prefix (x ∷ xs) [] (f ∷ fs) a b = cc
same_prefix (x ∷ xs) (y ∷ ys) (f ∷ fs) a b =
    let p = both (nat_eq f x) (begins xs fs) a in
    let q = both (nat_eq f y) (begins ys fs) b in
    let tied : nat_cmp x y ≡ Equal = ap (nat_cmp x) (sym (same f y q.0) ∙ same f x p.0) ∙ tied_itself nat_cmp_total x in
    same_prefix xs ys fs p.1 q.1 ∙ sym (ap (λ r. ordering_then r (order xs ys)) tied)

name_is : (prefix x name : List ℕ) → name_in prefix x ≡ Some name → (begins x prefix ≡ true) × (drop (length prefix) x ≡ name)
name_is prefix x name h = by (begins x prefix) refl h
  where
    inner : (t : Bool) → (if t then Some (drop (length prefix) x) else None) ≡ Some name → drop (length prefix) x ≡ name
    inner true g = cc
    inner false g = cc

    by : (b : Bool) → begins x prefix ≡ b → name_if (if b then Some (drop (length prefix) x) else None) ≡ Some name → (begins x prefix ≡ true) × (drop (length prefix) x ≡ name)
    by true e k = (e, inner (is_filename (drop (length prefix) x)) k)
    by false e k = cc

joined : (a b : Bool) → T a → T b → T (a && b)
joined true b p q = q
joined false b p q = p

skip_one : (x : List ℕ) (e : List ℕ × ℕ) (es : Entries) → T (map.is_sorted order ((x, 0) ∷ e ∷ es)) → T (map.is_sorted order ((x, 0) ∷ es))
skip_one x e es h =
    let low = left (below_all order x (e ∷ es)) (map.is_sorted order (e ∷ es)) h in
    let rest = right (below_all order x (e ∷ es)) (map.is_sorted order (e ∷ es)) h in
    joined (below_all order x es) (map.is_sorted order es) (right (is_lt (order x e.0)) (below_all order x es) low) (right (below_all order e.0 es) (map.is_sorted order es) rest)

all_behind : (prefix x name : List ℕ) (es : Entries) → T (map.is_sorted order ((x, 0) ∷ es)) → begins x prefix ≡ true → drop (length prefix) x ≡ name → comes_before name (names_in prefix es) ≡ true
all_behind prefix x name [] h b is = refl
all_behind prefix x name (e ∷ es) h b is = by (name_in prefix e.0) refl (all_behind prefix x name es (skip_one x e es h) b is)
  where
    by : (o : Option (List ℕ)) → name_in prefix e.0 ≡ o → comes_before name (names_in prefix es) ≡ true → comes_before name (option_to_list o ++ names_in prefix es) ≡ true
    by None k more = more
    by (Some other) k more =
        let n = name_is prefix e.0 other k in
        let l : order name other ≡ Less =
        ap (λ (y : List ℕ). order y other) (sym is) ∙ ap (order (drop (length prefix) x)) (sym n.1) ∙ same_prefix x e.0 prefix b n.0 ∙ less _ (left _ _ (left _ _ h)) in
        ap (λ r. is_lt r && comes_before name (names_in prefix es)) l ∙ more

pub names_rise : (prefix : List ℕ) (es : Entries) → Rises es → rise (names_in prefix es) ≡ true
names_rise prefix [] h = refl
names_rise prefix (e ∷ es) h = by (name_in prefix e.0) refl (names_rise prefix es (right _ _ h))
  where
    by : (o : Option (List ℕ)) → name_in prefix e.0 ≡ o → rise (names_in prefix es) ≡ true → rise (option_to_list o ++ names_in prefix es) ≡ true
    by None k more = more
    by (Some name) k more =
        let n = name_is prefix e.0 name k in
        ap (λ b. b && rise (names_in prefix es)) (all_behind prefix e.0 name es h n.0 n.1) ∙ more
