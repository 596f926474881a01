-- A walk over the paths of a directory from text to text.
use Rattle.std.proofs.Common.{◌≡◌, ℕ, ◌<◌, List, [], ◌∷◌, ◌++◌, ◌&&◌, T, true, false, length, drop, Some, None, Option, refl, sym, ap, ◌∙◌, subst, arith}
use Rattle.std.specs.Prelude.{map as map_list}
use Rattle.std.specs.Borrow.{Bor}
use Rattle.std.specs.Prelude.{nat_eq, if◌then◌else◌, option_to_list}
use Rattle.std.specs.Ordering.{is_lt, nat_cmp, ordering_reverse, ordering_then}
use Rattle.std.specs.declared.cmp.Ordering.{Ordering}
use Rattle.std.specs.declared.cmp.Ordering.TheVariants.{Less, Equal, Greater}
use Rattle.std.specs.Cmp.{ranked, tied_itself}
use Rattle.std.specs.FinMap as map
use Rattle.std.proofs.lemmas.Cmp.{nat_cmp_total}
use Rattle.sh_files_image.specs.Blocks.{head}
use Rattle.sh_files_image.specs.Listing.{from, name_if, name_in, names_in, none_before, past}
use Rattle.sh_files_image.specs.Paths.{has_slash}
use Rattle.sh_files_image.specs.Places.{Entries}
use Rattle.sh_files_image.proofs.Places.{Rises, flipped, laws, left, less, order, same_path}
use Rattle.sh_files_image.proofs.Held.{all_after, begins, begun_not_before, both, first_after, from_after, from_rises, itself, names_from, names_past, names_stop, past-le, past_after, same}

-- ---- texts
-- no path stands between a path and the same with a byte 0 behind it
zero_next : (x y : List ℕ) → order x y ≡ Less → is_lt (order y (x ++ 0 ∷ [])) ≡ false
zero_next [] [] h = cc
zero_next [] (y ∷ ys) h =
    elim (nat_cmp y 0) as (λ r. nat_cmp y 0 ≡ r → is_lt (ordering_then r (order ys [])) ≡ false) [
      | Less ↦ λ e. absurd (not_below y e)
      | Equal ↦ λ e. short ys
      | Greater ↦ λ e. refl
    ] refl
  where
    not_below : (n : ℕ) → nat_cmp n 0 ≡ Less → ⊥
    not_below n e = let l : n < 0 = ranked n 0 Less (sym e) in omega arith

    short : (ys : List ℕ) → is_lt (order ys []) ≡ false
    short [] = refl
    short (z ∷ zs) = refl
zero_next (x ∷ xs) [] h = cc
zero_next (x ∷ xs) (y ∷ ys) h =
    elim (nat_cmp x y) as (λ r. nat_cmp x y ≡ r → ordering_then r (order xs ys) ≡ Less → is_lt (order (y ∷ ys) (x ∷ (xs ++ 0 ∷ []))) ≡ false) [
      | Less ↦ λ e k. ap (λ r. is_lt (ordering_then r (order ys (xs ++ 0 ∷ [])))) (turned x y Less e)
      | Equal ↦ λ e k. ap (λ r. is_lt (ordering_then r (order ys (xs ++ 0 ∷ [])))) (turned x y Equal e) ∙ zero_next xs ys k
      | Greater ↦ λ e k. cc
    ] refl h
  where
    turned : (x y : ℕ) (r : Ordering) → nat_cmp x y ≡ r → nat_cmp y x ≡ ordering_reverse r
    turned x y r e = nat_cmp_total.antisymm y x ∙ ap ordering_reverse e

before_longer : (x : List ℕ) (b : ℕ) → order x (x ++ b ∷ []) ≡ Less
before_longer [] b = refl
before_longer (x ∷ xs) b = ap (λ r. ordering_then r (order xs (xs ++ b ∷ []))) (tied_itself nat_cmp_total x) ∙ before_longer xs b

-- what comes before a text comes before a path that stands behind something that the text isn't behind
lower_still : (a t x u : List ℕ) → order a t ≡ Less → is_lt (order x t) ≡ false → order x u ≡ Less → order a u ≡ Less
lower_still a t x u l n m =
    elim (order x t) as (λ r. order x t ≡ r → is_lt r ≡ false → order a u ≡ Less) [
      | Less ↦ λ e k. cc
      | Equal ↦ λ e k. laws.trans a x u (ap (order a) (same_path x t e) ∙ l) m
      | Greater ↦ λ e k. laws.trans a x u (laws.trans a t x l (flipped x t Greater e)) m
    ] refl n

-- a search from a later text may begin at what an earlier text left
from_later : (t u : List ℕ) (e : List ℕ × ℕ) (rest es : Entries) → from t es ≡ e ∷ rest → is_lt (order e.0 t) ≡ false → order e.0 u ≡ Less → from u es ≡ from u rest
from_later t u e rest [] h n m = cc
from_later t u e rest (x ∷ es) h n m =
    elim (is_lt (order x.0 t)) as (λ b. is_lt (order x.0 t) ≡ b → (if b then from t es else x ∷ es) ≡ e ∷ rest → from u (x ∷ es) ≡ from u rest) [
      | true ↦ λ k i. ap (λ r. if is_lt r then from u es else x ∷ es) (lower_still x.0 t e.0 u (lesser _ k) n m) ∙ from_later t u e rest es i n m
      | false ↦ λ k i.
          let same : x ≡ e = ap (λ (xs : Entries). first_or x xs) i in
          let left : es ≡ rest = ap (λ (xs : Entries). drop 1 xs) i in
          ap (λ r. if is_lt r then from u es else x ∷ es) (ap (λ (y : List ℕ × ℕ). order y.0 u) same ∙ m) ∙ ap (from u) left
    ] refl h
  where
    lesser : (r : Ordering) → is_lt r ≡ true → r ≡ Less
    lesser Less h = refl
    lesser Equal h = cc
    lesser Greater h = cc

    first_or : List ℕ × ℕ → Entries → List ℕ × ℕ
    first_or d [] = d
    first_or d (y ∷ ys) = y

all_left : (x : List ℕ) (rest : Entries) → T (map.is_sorted order ((x, 0) ∷ rest)) → from (x ++ 0 ∷ []) rest ≡ rest
all_left x [] h = refl
all_left x (e ∷ rest) h = ap (λ b. if b then from (x ++ 0 ∷ []) rest else e ∷ rest) (zero_next x e.0 (less _ (left _ _ (left _ _ h))))

-- what begins with a text and a slash comes before the text with the byte behind the slash
begun_before_next : (s x : List ℕ) → begins x (s ++ 47 ∷ []) ≡ true → order x (s ++ 48 ∷ []) ≡ Less
begun_before_next [] [] h = cc
begun_before_next [] (x ∷ xs) h =
    let p = both (nat_eq 47 x) (begins xs []) h in
    ap (λ (n : ℕ). ordering_then (nat_cmp n 48) (order xs [])) (sym (same 47 x p.0))
begun_before_next (f ∷ s) [] h = cc
begun_before_next (f ∷ s) (x ∷ xs) h =
    let p = both (nat_eq f x) (begins xs (s ++ 47 ∷ [])) h in
    ap (λ (n : ℕ). ordering_then (nat_cmp n f) (order xs (s ++ 48 ∷ []))) (sym (same f x p.0))
    ∙ ap (λ r. ordering_then r (order xs (s ++ 48 ∷ []))) (tied_itself nat_cmp_total f)
    ∙ begun_before_next s xs p.1

-- what isn't before it, and doesn't begin with it, isn't before that
other_not_before : (s x : List ℕ) → is_lt (order x (s ++ 47 ∷ [])) ≡ false → begins x (s ++ 47 ∷ []) ≡ false → is_lt (order x (s ++ 48 ∷ [])) ≡ false
other_not_before [] [] a b = cc
other_not_before [] (x ∷ xs) a b =
    elim (nat_cmp x 47) as (λ r. nat_cmp x 47 ≡ r → is_lt (order (x ∷ xs) (48 ∷ [])) ≡ false) [
      | Less ↦ λ e. let f : true ≡ false = sym (ap (λ r. is_lt (ordering_then r (order xs []))) e) ∙ a in cc
      | Equal ↦ λ e.
          let tied : x ≡ 47 = map.nat_cmp-IsAntisymmetric x 47 e in
          let f : true ≡ false = sym (ap (λ (n : ℕ). nat_eq 47 n && true) tied) ∙ b in
          cc
      | Greater ↦ λ e. past_it x xs e
    ] refl
  where
    short : (ys : List ℕ) → is_lt (order ys []) ≡ false
    short [] = refl
    short (z ∷ zs) = refl

    past_it : (x : ℕ) (xs : List ℕ) → nat_cmp x 47 ≡ Greater → is_lt (ordering_then (nat_cmp x 48) (order xs [])) ≡ false
    past_it x xs e =
        let l : 47 < x = ranked x 47 Greater (sym e) in
        elim (nat_cmp x 48) as (λ r. nat_cmp x 48 ≡ r → is_lt (ordering_then r (order xs [])) ≡ false) [
          | Less ↦ λ k. let m : x < 48 = ranked x 48 Less (sym k) in absurd (omega arith)
          | Equal ↦ λ k. short xs
          | Greater ↦ λ k. refl
        ] refl
other_not_before (f ∷ s) [] a b = cc
other_not_before (f ∷ s) (x ∷ xs) a b =
    elim (nat_cmp x f) as (λ r. nat_cmp x f ≡ r → is_lt (ordering_then r (order xs (s ++ 47 ∷ []))) ≡ false → is_lt (ordering_then r (order xs (s ++ 48 ∷ []))) ≡ false) [
      | Less ↦ λ e k. cc
      | Equal ↦ λ e k.
          let tied : x ≡ f = map.nat_cmp-IsAntisymmetric x f e in
          let one : nat_eq f x ≡ true = ap (nat_eq f) tied ∙ itself f in
          other_not_before s xs k (sym (ap (λ t. t && begins xs (s ++ 47 ∷ [])) one) ∙ b)
      | Greater ↦ λ e k. refl
    ] refl a

next_is_past : (s : List ℕ) (es : Entries) → none_before (s ++ 47 ∷ []) es ≡ true → from (s ++ 48 ∷ []) es ≡ past (s ++ 47 ∷ []) es
next_is_past s [] a = refl
next_is_past s (e ∷ es) a =
    let f = first_after (s ++ 47 ∷ []) e es a in
    elim (begins e.0 (s ++ 47 ∷ [])) as (λ b. begins e.0 (s ++ 47 ∷ []) ≡ b → from (s ++ 48 ∷ []) (e ∷ es) ≡ (if b then past (s ++ 47 ∷ []) es else e ∷ es)) [
      | true ↦ λ k. ap (λ r. if is_lt r then from (s ++ 48 ∷ []) es else e ∷ es) (begun_before_next s e.0 k) ∙ next_is_past s es f.1
      | false ↦ λ k. ap (λ b. if b then from (s ++ 48 ∷ []) es else e ∷ es) (other_not_before s e.0 f.0 k)
    ] refl

pub head_is : (e : List ℕ × ℕ) (es : Entries) → Some e ≡ head es → es ≡ e ∷ drop 1 es
head_is e [] h = cc
head_is e (x ∷ es) h = let same : x ≡ e = cc in ap (λ (y : List ℕ × ℕ). y ∷ es) same

pub head_none : (es : Entries) → None ≡ head es → es ≡ []
head_none [] h = refl
head_none (x ∷ es) h = cc

-- ---- where a walk goes
not_before : (t : List ℕ) (e : List ℕ × ℕ) (es : Entries) → Rises es → from t es ≡ e ∷ drop 1 (from t es) → is_lt (order e.0 t) ≡ false
not_before t e es h is = (first_after t e (drop 1 (from t es)) (ap (none_before t) (sym is) ∙ from_after t es h)).0

pub step_one : (t u : List ℕ) (e : List ℕ × ℕ) (es : Entries) → Rises es → Some e ≡ head (from t es) → u ≡ e.0 ++ 0 ∷ [] → from u es ≡ drop 1 (from t es)
step_one t u e es h first next =
    let is = head_is e (from t es) first in
    ap (λ (x : List ℕ). from x es) next
    ∙ from_later t (e.0 ++ 0 ∷ []) e (drop 1 (from t es)) es is (not_before t e es h is) (before_longer e.0 0)
    ∙ all_left e.0 (drop 1 (from t es)) (subst Rises is (from_rises t es h))

pub step_over : (t u s : List ℕ) (e : List ℕ × ℕ) (es : Entries) → Rises es → Some e ≡ head (from t es) → begins e.0 (s ++ 47 ∷ []) ≡ true → u ≡ s ++ 48 ∷ [] → from u es ≡ past (s ++ 47 ∷ []) (from t es)
step_over t u s e es h first b next =
    let is = head_is e (from t es) first in
    let rest = drop 1 (from t es) in
    let more = s ++ 48 ∷ [] in
    ap (λ (x : List ℕ). from x es) next
    ∙ from_later t more e rest es is (not_before t e es h is) (begun_before_next s e.0 b)
    ∙ sym (ap (λ r. if is_lt r then from more rest else e ∷ rest) (begun_before_next s e.0 b))
    ∙ next_is_past s (e ∷ rest) (all_after (s ++ 47 ∷ []) e rest (subst Rises is (from_rises t es h)) (begun_not_before e.0 (s ++ 47 ∷ []) b))
    ∙ ap (past (s ++ 47 ∷ [])) (sym is)

-- ---- the names so far
abbrev pub Names : Type 0
Names = List (List ℕ)

no_more : (xs : Names) → xs ++ [] ≡ xs
no_more [] = refl
no_more (x ∷ xs) = ap (λ (ys : Names). x ∷ ys) (no_more xs)

assoc : (xs ys zs : Names) → (xs ++ ys) ++ zs ≡ xs ++ (ys ++ zs)
assoc [] ys zs = refl
assoc (x ∷ xs) ys zs = ap (λ (ns : Names). x ∷ ns) (assoc xs ys zs)

-- what a walk keeps: no path that is left comes before the directory's, and their names follow those so far
pub record IsAt (prefix : List ℕ) (names all : Names) (rest : Entries) : Type 0 where
  pub after : none_before prefix rest ≡ true
  pub same : names ++ names_in prefix rest ≡ all

pub ended : (prefix : List ℕ) (names all : Names) (rest : Entries) → IsAt prefix names all rest → None ≡ head rest → names ≡ all
ended prefix names all rest w h =
    sym (no_more names) ∙ ap (λ (es : Entries). names ++ names_in prefix es) (sym (head_none rest h)) ∙ w.same

pub stopped : (prefix : List ℕ) (names all : Names) (e : List ℕ × ℕ) (rest : Entries) → Rises rest → IsAt prefix names all rest → Some e ≡ head rest → begins e.0 prefix ≡ false → names ≡ all
stopped prefix names all e rest h w first b = names_stop prefix names all e (drop 1 rest) rest (head_is e rest first) h w.after b w.same

pub skipped : (prefix s : List ℕ) (names all : Names) (rest left : Entries) → IsAt prefix names all rest → left ≡ past (s ++ 47 ∷ []) rest → has_slash (drop (length prefix) (s ++ 47 ∷ [])) ≡ true → IsAt prefix names all left
skipped prefix s names all rest left w done h =
    record {
      after = ap (none_before prefix) done ∙ past_after prefix (s ++ 47 ∷ []) rest w.after;
      same = ap (λ (es : Entries). names ++ names_in prefix es) done ∙ ap (λ (ns : Names). names ++ ns) (names_past prefix (s ++ 47 ∷ []) rest h) ∙ w.same;
    }

rest_names : (prefix : List ℕ) (e : List ℕ × ℕ) (o : Option (List ℕ)) (rest : Entries) → Some e ≡ head rest → name_in prefix e.0 ≡ o → names_in prefix rest ≡ option_to_list o ++ names_in prefix (drop 1 rest)
rest_names prefix e o rest first is =
    ap (names_in prefix) (head_is e rest first) ∙ ap (λ (n : Option (List ℕ)). option_to_list n ++ names_in prefix (drop 1 rest)) is

left_after : (prefix : List ℕ) (e : List ℕ × ℕ) (rest : Entries) → none_before prefix rest ≡ true → Some e ≡ head rest → none_before prefix (drop 1 rest) ≡ true
left_after prefix e rest a first = (first_after prefix e (drop 1 rest) (ap (none_before prefix) (sym (head_is e rest first)) ∙ a)).1

nameless : (prefix x : List ℕ) → begins x prefix ≡ true → name_in prefix x ≡ name_if (Some (drop (length prefix) x))
nameless prefix x b = ap (λ t. name_if (if t then Some (drop (length prefix) x) else None)) b

-- a path's name is added, if it has one
pub moved : (prefix name : List ℕ) (names new all : Names) (e : List ℕ × ℕ) (rest left : Entries) → IsAt prefix names all rest → Some e ≡ head rest → begins e.0 prefix ≡ true → name ≡ drop (length prefix) e.0 → new ≡ names ++ option_to_list (name_if (Some name)) → left ≡ drop 1 rest → IsAt prefix new all left
moved prefix name names new all e rest left w first b is more done =
    let own : name_in prefix e.0 ≡ name_if (Some name) = nameless prefix e.0 b ∙ ap (λ (n : List ℕ). name_if (Some n)) (sym is) in
    record {
      after = ap (none_before prefix) done ∙ left_after prefix e rest w.after first;
      same =
          ap (λ (es : Entries). new ++ names_in prefix es) done
          ∙ ap (λ (ns : Names). ns ++ names_in prefix (drop 1 rest)) more
          ∙ assoc names (option_to_list (name_if (Some name))) (names_in prefix (drop 1 rest))
          ∙ ap (λ (ns : Names). names ++ ns) (sym (rest_names prefix e (name_if (Some name)) rest first own))
          ∙ w.same;
    }

abbrev Items : Type 0
Items = List (Bor (List ℕ))

-- ---- what is left becomes less
pub fewer_one : (e : List ℕ × ℕ) (rest left : Entries) → Some e ≡ head rest → left ≡ drop 1 rest → length left < length rest
fewer_one e [] left first done = cc
fewer_one e (x ∷ rest) left first done = let l : length left ≡ length rest = ap (λ (es : Entries). length es) done in omega arith

pub fewer_over : (s : List ℕ) (e : List ℕ × ℕ) (rest left : Entries) → Some e ≡ head rest → begins e.0 (s ++ 47 ∷ []) ≡ true → left ≡ past (s ++ 47 ∷ []) rest → length left < length rest
fewer_over s e [] left first b done = cc
fewer_over s e (x ∷ rest) left first b done =
    let is : e ≡ x = cc in
    let begun : begins x.0 (s ++ 47 ∷ []) ≡ true = ap (λ (y : List ℕ × ℕ). begins y.0 (s ++ 47 ∷ [])) (sym is) ∙ b in
    let one : past (s ++ 47 ∷ []) (x ∷ rest) ≡ past (s ++ 47 ∷ []) rest = ap (λ t. if t then past (s ++ 47 ∷ []) rest else x ∷ rest) begun in
    let l : length left ≡ length (past (s ++ 47 ∷ []) rest) = ap (λ (es : Entries). length es) (done ∙ one) in
    let le = past-le (s ++ 47 ∷ []) rest in
    omega arith

pub begin : (prefix text : List ℕ) (items : Items) (es : Entries) → Rises es → items ≡ [] → text ≡ prefix → IsAt prefix (map_list (λ (n : Bor (List ℕ)). n.now) items) (names_in prefix es) (from text es)
begin prefix text items es h none is =
    let at : IsAt prefix [] (names_in prefix es) (from prefix es) = record { after = from_after prefix es h; same = names_from prefix es } in
    subst (λ (t : List ℕ). IsAt prefix (map_list (λ (n : Bor (List ℕ)). n.now) items) (names_in prefix es) (from t es)) (sym is)
    (subst (λ (ns : Items). IsAt prefix (map_list (λ (n : Bor (List ℕ)). n.now) ns) (names_in prefix es) (from prefix es)) (sym none) at)
