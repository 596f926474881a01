-- Paths in a list that stands in blocks.
use Rattle.std.proofs.Common.{◌≡◌, ℕ, suc, zero, ◌-◌, ◌<◌, ◌≤◌, List, [], ◌∷◌, ◌++◌, ◌&&◌, T, Bool, true, false, cond, length, take, drop, get_or, set, Some, Option, refl, sym, ap, ◌∙◌, subst, arith}
use Rattle.std.specs.Prelude.{not, if◌then◌else◌, nat_lt}
use Rattle.std.specs.List.{insert, list_all}
use Rattle.std.specs.List.Sorted.{IsPartitionPoint, IsPartitionedBy}
use Rattle.std.specs.Ordering.{is_eq, is_gt, is_lt}
use Rattle.std.specs.declared.cmp.Ordering.{Ordering}
use Rattle.std.specs.declared.cmp.Ordering.TheVariants.{Less, Equal, Greater}
use Rattle.std.proofs.lemmas.Bool.Decides.{nat_tests}
use Rattle.std.specs.FinMap as map
use Rattle.std.specs.FinMap.Entries.{below_all, by_order}
use Rattle.sh_files_image.specs.Blocks.{AreBlocks, IsBlockOf, all_filled, flat, head, is_filled, starts_by}
use Rattle.sh_files_image.specs.Listing.{from}
use Rattle.sh_files_image.specs.Paths.{PathMap}
use Rattle.sh_files_image.specs.Places.{Entries}
use Rattle.sh_files_image.proofs.Places.{Rises, below_not_after, flipped, laws, left, less, listed, order, put_rises, right, same_path, skipped}

abbrev pub before : List ℕ → List ℕ × ℕ → Bool
before q e = is_lt (order e.0 q)

abbrev pub behind : List ℕ → List ℕ × ℕ → Bool
behind q e = is_gt (order e.0 q)

both : (a b : Bool) → (a && b) ≡ true → (a ≡ true) × (b ≡ true)
both true b h = (refl, h)
both false b h = cc

untrue : (b : Bool) → not b ≡ true → b ≡ false
untrue true h = cc
untrue false h = refl

unfalse : (b : Bool) → not b ≡ false → b ≡ true
unfalse true h = refl
unfalse false h = cc

lesser : (r : Ordering) → is_lt r ≡ true → r ≡ Less
lesser Less h = refl
lesser Equal h = cc
lesser Greater h = cc

greater : (r : Ordering) → is_gt r ≡ true → r ≡ Greater
greater Less h = cc
greater Equal h = cc
greater Greater h = refl

joined : (a b : Bool) → T a → T b → T (a && b)
joined true b h k = k
joined false b h k = absurd h

assoc : (xs ys zs : Entries) → (xs ++ ys) ++ zs ≡ xs ++ (ys ++ zs)
assoc [] ys zs = refl
assoc (x ∷ xs) ys zs = ap (λ (es : Entries). x ∷ es) (assoc xs ys zs)

-- ---- parts of a list in order
drop_below : (x : List ℕ) (xs ys : Entries) → T (below_all order x (xs ++ ys)) → T (below_all order x ys)
drop_below x [] ys h = h
drop_below x (e ∷ xs) ys h = drop_below x xs ys (right _ _ h)

keep_below : (x : List ℕ) (xs ys : Entries) → T (below_all order x (xs ++ ys)) → T (below_all order x xs)
keep_below x [] ys h = tt
keep_below x (e ∷ xs) ys h = joined _ _ (left _ _ h) (keep_below x xs ys (right _ _ h))

pub rises_back : (xs ys : Entries) → Rises (xs ++ ys) → Rises ys
rises_back [] ys h = h
rises_back (e ∷ xs) ys h = rises_back xs ys (right _ _ h)

pub rises_prefix : (xs ys : Entries) → Rises (xs ++ ys) → Rises xs
rises_prefix [] ys h = tt
rises_prefix (e ∷ xs) ys h = joined _ _ (keep_below e.0 xs ys (left _ _ h)) (rises_prefix xs ys (right _ _ h))

-- ---- the block of a path
starts_strict : (q x : List ℕ) (bs : List Entries) (j : ℕ) (d : Entries) → T (below_all order x (flat bs)) → j < length bs → starts_by q (get_or bs j d) ≡ true → order x q ≡ Less
starts_strict q x [] j d h lt s = absurd (omega arith)
starts_strict q x (b ∷ bs) zero d h lt s = by b h s
  where
    by : (es : Entries) → T (below_all order x (es ++ flat bs)) → starts_by q es ≡ true → order x q ≡ Less
    by [] g k = cc
    by (e ∷ es) g k = below_not_after x e.0 q (less _ (left _ _ g)) (untrue _ k)
starts_strict q x (b ∷ bs) (suc j) d h lt s = starts_strict q x bs j d (drop_below x b (flat bs) h) (omega arith) s

-- a search for the last block that starts by a path may halve the list
pub together : (q : List ℕ) (bs : List Entries) → Rises (flat bs) → all_filled bs ≡ true → IsPartitionedBy (λ b. starts_by q b) bs
together q [] h f i j d le lt s = absurd (omega arith)
together q (b ∷ bs) h f zero zero d le lt s = s
together q (b ∷ bs) h f zero (suc j) d le lt s = by b h (both (is_filled b) (all_filled bs) f).0
  where
    by : (es : Entries) → Rises (es ++ flat bs) → is_filled es ≡ true → starts_by q es ≡ true
    by [] g k = cc
    by (e ∷ es) g k = ap (λ r. not (is_gt r)) (starts_strict q e.0 bs j d (drop_below e.0 es (flat bs) (left _ _ g)) (omega arith) s)
together q (b ∷ bs) h f (suc i) zero d le lt s = absurd (omega arith)
together q (b ∷ bs) h f (suc i) (suc j) d le lt s = together q bs (rises_back b (flat bs) h) (both (is_filled b) (all_filled bs) f).1 i j d (omega arith) (omega arith) s

all_before : (q : List ℕ) (bs : List Entries) (i : ℕ) (d : Entries) → Rises (flat bs) → i < length bs → starts_by q (get_or bs i d) ≡ true → list_all (before q) (flat (take i bs)) ≡ true
all_before q [] i d h lt s = absurd (omega arith)
all_before q (b ∷ bs) zero d h lt s = refl
all_before q (b ∷ bs) (suc i) d h lt s = by b h (all_before q bs i d (rises_back b (flat bs) h) (omega arith) s)
  where
    by : (es : Entries) → Rises (es ++ flat bs) → list_all (before q) (flat (take i bs)) ≡ true → list_all (before q) (es ++ flat (take i bs)) ≡ true
    by [] g more = more
    by (e ∷ es) g more =
        ap (λ r. is_lt r && list_all (before q) (es ++ flat (take i bs))) (starts_strict q e.0 bs i d (drop_below e.0 es (flat bs) (left _ _ g)) (omega arith) s)
        ∙ by es (right _ _ g) more

higher : (x y q : List ℕ) → order x y ≡ Less → order x q ≡ Greater → order y q ≡ Greater
higher x y q l g = flipped q y Less (laws.trans q x y (flipped x q Greater g) l)

all_behind : (q : List ℕ) (e : List ℕ × ℕ) (es : Entries) → Rises (e ∷ es) → order e.0 q ≡ Greater → list_all (behind q) (e ∷ es) ≡ true
all_behind q e [] h g = ap (λ r. is_gt r && true) g
all_behind q e (f ∷ fs) h g =
    ap (λ r. is_gt r && list_all (behind q) (f ∷ fs)) g
    ∙ all_behind q f fs (right _ _ h) (higher e.0 f.0 q (less _ (left _ _ (left _ _ h))) g)

ends_behind : (q : List ℕ) (bs : List Entries) (m : ℕ) → Rises (flat bs) → all_filled bs ≡ true → ((k : ℕ) (d : Entries) → m ≤ k → k < length bs → starts_by q (get_or bs k d) ≡ false) → list_all (behind q) (flat (drop m bs)) ≡ true
ends_behind q [] zero h f s = refl
ends_behind q [] (suc m) h f s = refl
ends_behind q (b ∷ bs) zero h f s = by b h (both (is_filled b) (all_filled bs) f).0 (s 0 b (omega arith) (omega arith))
  where
    by : (es : Entries) → Rises (es ++ flat bs) → is_filled es ≡ true → starts_by q es ≡ false → list_all (behind q) (es ++ flat bs) ≡ true
    by [] g k n = cc
    by (e ∷ es) g k n = all_behind q e (es ++ flat bs) g (greater _ (unfalse _ n))
ends_behind q (b ∷ bs) (suc m) h f s = ends_behind q bs m (rises_back b (flat bs) h) (both (is_filled b) (all_filled bs) f).1 (λ k d le lt. s (suc k) d (omega arith) (omega arith))

abbrev pub Started : List ℕ → List Entries → ℕ → Type 0
Started q bs n = IsPartitionPoint (λ b. starts_by q b ≡ true) (λ b. starts_by q b ≡ false) bs n

pub block_found : (q : List ℕ) (bs : List Entries) (n i : ℕ) → AreBlocks bs → n ≤ length bs → Started q bs n → i ≡ n - 1 → IsBlockOf q bs i
block_found q bs zero i w le h is =
    let z : 0 ≡ i = omega arith in
    subst (IsBlockOf q bs) z (record { before = refl; behind = ends_behind q bs 1 w.rise w.filled (λ k d a lt. h.1 k d (omega arith) lt) })
block_found q bs (suc n) i w le h is =
    let z : n ≡ i = omega arith in
    subst (IsBlockOf q bs) z (record { before = all_before q bs n [] w.rise (omega arith) (h.0 n [] (omega arith) (omega arith)); behind = ends_behind q bs (suc n) w.rise w.filled (λ k d a lt. h.1 k d a lt) })

pub started_within : (q : List ℕ) (bs : List Entries) (i : ℕ) → starts_by q (get_or bs i []) ≡ true → i < length bs
started_within q [] i s = cc
started_within q (b ∷ bs) zero s = omega arith
started_within q (b ∷ bs) (suc i) s =
    let k : i < length bs = started_within q bs i s in
    omega arith

within_same : (bs : List Entries) (i : ℕ) (d e : Entries) → i < length bs → get_or bs i d ≡ get_or bs i e
within_same [] i d e lt = absurd (omega arith)
within_same (b ∷ bs) zero d e lt = refl
within_same (b ∷ bs) (suc i) d e lt = within_same bs i d e (omega arith)

differ : true ≡ false → ⊥
differ h = cc

pub last_found : (q : List ℕ) (bs : List Entries) (i : ℕ) (d : Entries) → AreBlocks bs → length bs ≡ suc i → starts_by q (get_or bs i d) ≡ true → IsBlockOf q bs i
last_found q bs i d w n s =
    record {
      before = all_before q bs i d w.rise (omega arith) s;
      behind = ends_behind q bs (suc i) w.rise w.filled (λ k e le lt. absurd (omega arith));
    }

only_started : (q : List ℕ) (bs : List Entries) (i : ℕ) → AreBlocks bs → starts_by q (get_or bs i []) ≡ true → starts_by q (get_or bs (suc i) []) ≡ false → IsBlockOf q bs i
only_started q bs i w s n =
    record {
      before = all_before q bs i [] w.rise (started_within q bs i s) s;
      behind = ends_behind q bs (suc i) w.rise w.filled (λ k e le lt. by k e le lt (starts_by q (get_or bs k e)) refl);
    }
  where
    by : (k : ℕ) (e : Entries) → suc i ≤ k → k < length bs → (b : Bool) → starts_by q (get_or bs k e) ≡ b → starts_by q (get_or bs k e) ≡ false
    by k e le lt false h = h
    by k e le lt true h =
        let t : starts_by q (get_or bs (suc i) e) ≡ true = together q bs w.rise w.filled (suc i) k e le lt h in
        let same : get_or bs (suc i) e ≡ get_or bs (suc i) [] = within_same bs (suc i) e [] (omega arith) in
        absurd (differ (sym t ∙ ap (starts_by q) same ∙ n))

pub near_found : (q : List ℕ) (bs : List Entries) (i j : ℕ) (a b : Bool) → AreBlocks bs → j ≡ suc i → a ≡ starts_by q (get_or bs i []) → b ≡ starts_by q (get_or bs j []) → a ≡ true → not b ≡ true → IsBlockOf q bs i
near_found q bs i j a b w next s n h k =
    only_started q bs i w (sym s ∙ h) (ap (λ l. starts_by q (get_or bs l [])) (sym next) ∙ sym n ∙ untrue b k)

-- ---- a block among the others
pub flat_at : (bs : List Entries) (i : ℕ) (d : Entries) → i < length bs → flat bs ≡ flat (take i bs) ++ (get_or bs i d ++ flat (drop (suc i) bs))
flat_at [] i d lt = absurd (omega arith)
flat_at (b ∷ bs) zero d lt = refl
flat_at (b ∷ bs) (suc i) d lt = ap (λ (es : Entries). b ++ es) (flat_at bs i d (omega arith)) ∙ sym (assoc b (flat (take i bs)) _)

flat_set : (bs : List Entries) (i : ℕ) (new : Entries) → i < length bs → flat (set bs i new) ≡ flat (take i bs) ++ (new ++ flat (drop (suc i) bs))
flat_set [] i new lt = absurd (omega arith)
flat_set (b ∷ bs) zero new lt = refl
flat_set (b ∷ bs) (suc i) new lt = ap (λ (es : Entries). b ++ es) (flat_set bs i new (omega arith)) ∙ sym (assoc b (flat (take i bs)) _)

pub block_rises : (bs : List Entries) (i : ℕ) (d : Entries) → Rises (flat bs) → i < length bs → Rises (get_or bs i d)
block_rises bs i d h lt =
    rises_prefix (get_or bs i d) (flat (drop (suc i) bs)) (rises_back (flat (take i bs)) _ (subst Rises (flat_at bs i d lt) h))

-- ---- finding
find_back : (q : List ℕ) (xs ys : Entries) → list_all (before q) xs ≡ true → map.find order q (xs ++ ys) ≡ map.find order q ys
find_back q [] ys h = refl
find_back q (e ∷ xs) ys h =
    let p = both (before q e) (list_all (before q) xs) h in
    skipped q e (xs ++ ys) (flipped e.0 q Less (lesser _ p.0)) ∙ find_back q xs ys p.1

find_prefix : (q : List ℕ) (ys zs : Entries) → list_all (behind q) zs ≡ true → map.find order q (ys ++ zs) ≡ map.find order q ys
find_prefix q [] [] h = refl
find_prefix q [] (z ∷ zs) h =
    let p = both (behind q z) (list_all (behind q) zs) h in
    ap (λ r. cond (is_eq r) (Some z.1) (map.find order q zs)) (flipped z.0 q Greater (greater _ p.0)) ∙ find_prefix q [] zs p.1
find_prefix q (e ∷ ys) zs h = ap (λ (o : Option ℕ). cond (is_eq (order q e.0)) (Some e.1) o) (find_prefix q ys zs h)

pub find_block : (q : List ℕ) (bs : List Entries) (i : ℕ) (d : Entries) → i < length bs → IsBlockOf q bs i → map.find order q (get_or bs i d) ≡ map.find order q (flat bs)
find_block q bs i d lt at =
    sym (ap (map.find order q) (flat_at bs i d lt)
    ∙ find_back q (flat (take i bs)) _ at.before
    ∙ find_prefix q (get_or bs i d) (flat (drop (suc i) bs)) at.behind)

equal : (r : Ordering) → is_eq r ≡ true → r ≡ Equal
equal Less h = cc
equal Equal h = refl
equal Greater h = cc

below_found : (q x : List ℕ) (n : ℕ) (ys : Entries) → T (below_all order x ys) → map.find order q ys ≡ Some n → order x q ≡ Less
below_found q x n [] h f = cc
below_found q x n (y ∷ ys) h f =
    elim (is_eq (order q y.0)) as (λ b. is_eq (order q y.0) ≡ b → cond b (Some y.1) (map.find order q ys) ≡ Some n → order x q ≡ Less) [
      | true ↦ λ e g. ap (order x) (same_path q y.0 (equal _ e)) ∙ less _ (left _ _ h)
      | false ↦ λ e g. below_found q x n ys (right _ _ h) g
    ] refl f

found_back : (q : List ℕ) (n : ℕ) (xs ys : Entries) → Rises (xs ++ ys) → map.find order q ys ≡ Some n → map.find order q (xs ++ ys) ≡ Some n
found_back q n [] ys h f = f
found_back q n (e ∷ xs) ys h f =
    skipped q e (xs ++ ys) (flipped e.0 q Less (below_found q e.0 n ys (drop_below e.0 xs ys (left _ _ h)) f)) ∙ found_back q n xs ys (right _ _ h) f

found_prefix : (q : List ℕ) (n : ℕ) (ys zs : Entries) → map.find order q ys ≡ Some n → map.find order q (ys ++ zs) ≡ Some n
found_prefix q n [] zs f = cc
found_prefix q n (e ∷ ys) zs f =
    elim (is_eq (order q e.0)) as (λ b. cond b (Some e.1) (map.find order q ys) ≡ Some n → cond b (Some e.1) (map.find order q (ys ++ zs)) ≡ Some n) [
      | true ↦ λ g. g
      | false ↦ λ g. found_prefix q n ys zs g
    ] f

-- what one block holds is found
pub found_in : (q : List ℕ) (n : ℕ) (bs : List Entries) (i : ℕ) (d : Entries) → Rises (flat bs) → i < length bs → map.find order q (get_or bs i d) ≡ Some n → map.find order q (flat bs) ≡ Some n
found_in q n bs i d h lt f =
    let is = flat_at bs i d lt in
    let more = flat (drop (suc i) bs) in
    ap (map.find order q) is ∙ found_back q n (flat (take i bs)) (get_or bs i d ++ more) (subst Rises is h) (found_prefix q n (get_or bs i d) more f)

-- ---- putting
put_back : (q : List ℕ) (v : ℕ) (xs ys : Entries) → list_all (before q) xs ≡ true → map.put order q v (xs ++ ys) ≡ xs ++ map.put order q v ys
put_back q v [] ys h = refl
put_back q v (e ∷ xs) ys h =
    let p = both (before q e) (list_all (before q) xs) h in
    ap (λ r. by_order r ((q, v) ∷ e ∷ (xs ++ ys)) ((e.0, v) ∷ (xs ++ ys)) (e ∷ map.put order q v (xs ++ ys))) (flipped e.0 q Less (lesser _ p.0))
    ∙ ap (λ (es : Entries). e ∷ es) (put_back q v xs ys p.1)

put_front : (q : List ℕ) (v : ℕ) (ys zs : Entries) → list_all (behind q) zs ≡ true → map.put order q v (ys ++ zs) ≡ map.put order q v ys ++ zs
put_front q v [] [] h = refl
put_front q v [] (z ∷ zs) h =
    let p = both (behind q z) (list_all (behind q) zs) h in
    ap (λ r. by_order r ((q, v) ∷ z ∷ zs) ((z.0, v) ∷ zs) (z ∷ map.put order q v zs)) (flipped z.0 q Greater (greater _ p.0))
put_front q v (e ∷ ys) zs h =
    elim (order q e.0) as (λ r. by_order r ((q, v) ∷ e ∷ (ys ++ zs)) ((e.0, v) ∷ (ys ++ zs)) (e ∷ map.put order q v (ys ++ zs)) ≡ by_order r ((q, v) ∷ e ∷ ys) ((e.0, v) ∷ ys) (e ∷ map.put order q v ys) ++ zs) [
      | Less ↦ refl
      | Equal ↦ refl
      | Greater ↦ ap (λ (es : Entries). e ∷ es) (put_front q v ys zs h)
    ]

pub put_block : (q : List ℕ) (v : ℕ) (bs : List Entries) (i : ℕ) (d : Entries) → i < length bs → IsBlockOf q bs i → flat (set bs i (map.put order q v (get_or bs i d))) ≡ map.put order q v (flat bs)
put_block q v bs i d lt at =
    let b = get_or bs i d in
    flat_set bs i (map.put order q v b) lt
    ∙ ap (λ (es : Entries). flat (take i bs) ++ es) (sym (put_front q v b (flat (drop (suc i) bs)) at.behind))
    ∙ sym (put_back q v (flat (take i bs)) (b ++ flat (drop (suc i) bs)) at.before)
    ∙ ap (map.put order q v) (sym (flat_at bs i d lt))

filled_put : (q : List ℕ) (v : ℕ) (es : Entries) → is_filled (map.put order q v es) ≡ true
filled_put q v [] = refl
filled_put q v (e ∷ es) = elim (order q e.0) as (λ r. is_filled (by_order r ((q, v) ∷ e ∷ es) ((e.0, v) ∷ es) (e ∷ map.put order q v es)) ≡ true) [ Less ↦ refl | Equal ↦ refl | Greater ↦ refl ]

filled_set : (bs : List Entries) (i : ℕ) (new : Entries) → all_filled bs ≡ true → is_filled new ≡ true → all_filled (set bs i new) ≡ true
filled_set [] zero new h k = h
filled_set [] (suc i) new h k = h
filled_set (b ∷ bs) zero new h k = ap (λ t. t && all_filled bs) k ∙ (both (is_filled b) (all_filled bs) h).1
filled_set (b ∷ bs) (suc i) new h k =
    let p = both (is_filled b) (all_filled bs) h in
    ap (λ t. t && all_filled (set bs i new)) p.0 ∙ filled_set bs i new p.1 k

pub set_length : (bs : List Entries) (i : ℕ) (new : Entries) → length (set bs i new) ≡ length bs
set_length [] zero new = refl
set_length [] (suc i) new = refl
set_length (b ∷ bs) zero new = refl
set_length (b ∷ bs) (suc i) new = ap suc (set_length bs i new)

pub put_blocks : (q : List ℕ) (v : ℕ) (bs : List Entries) (i : ℕ) (d : Entries) → AreBlocks bs → i < length bs → IsBlockOf q bs i → AreBlocks (set bs i (map.put order q v (get_or bs i d)))
put_blocks q v bs i d w lt at =
    let n = set_length bs i (map.put order q v (get_or bs i d)) in
    let s = w.some in
    record {
      rise = subst Rises (sym (put_block q v bs i d lt at)) (put_rises q v (flat bs) w.rise);
      filled = filled_set bs i _ w.filled (filled_put q v (get_or bs i d));
      some = omega arith;
    }

-- ---- what isn't before a text
from_back : (q : List ℕ) (xs ys : Entries) → list_all (before q) xs ≡ true → from q (xs ++ ys) ≡ from q ys
from_back q [] ys h = refl
from_back q (e ∷ xs) ys h =
    let p = both (before q e) (list_all (before q) xs) h in
    ap (λ b. if b then from q (xs ++ ys) else e ∷ (xs ++ ys)) p.0 ∙ from_back q xs ys p.1

from_prefix : (q : List ℕ) (ys zs : Entries) → list_all (behind q) zs ≡ true → from q (ys ++ zs) ≡ from q ys ++ zs
from_prefix q [] [] h = refl
from_prefix q [] (z ∷ zs) h =
    let p = both (behind q z) (list_all (behind q) zs) h in
    ap (λ r. if is_lt r then from q zs else z ∷ zs) (greater _ p.0)
from_prefix q (e ∷ ys) zs h =
    elim (is_lt (order e.0 q)) as (λ b. (if b then from q (ys ++ zs) else e ∷ (ys ++ zs)) ≡ (if b then from q ys else e ∷ ys) ++ zs) [ true ↦ from_prefix q ys zs h | false ↦ refl ]

pub from_block : (q : List ℕ) (bs : List Entries) (i : ℕ) (d : Entries) → i < length bs → IsBlockOf q bs i → from q (flat bs) ≡ from q (get_or bs i d) ++ flat (drop (suc i) bs)
from_block q bs i d lt at =
    ap (from q) (flat_at bs i d lt)
    ∙ from_back q (flat (take i bs)) _ at.before
    ∙ from_prefix q (get_or bs i d) (flat (drop (suc i) bs)) at.behind

pub head_at : (bs : List Entries) (i : ℕ) (b : Entries) → all_filled bs ≡ true → nat_lt i (length bs) ≡ true → b ≡ get_or bs i b → head b ≡ head (flat (drop i bs))
head_at bs i b f lt is = at bs i f (within i (length bs) lt) is
  where
    within : (i n : ℕ) → nat_lt i n ≡ true → i < n
    within i n h = grind (arith, nat_tests)

    by : (es more : Entries) → is_filled es ≡ true → head es ≡ head (es ++ more)
    by [] more k = cc
    by (x ∷ es) more k = refl

    at : (bs : List Entries) (i : ℕ) → all_filled bs ≡ true → i < length bs → b ≡ get_or bs i b → head b ≡ head (flat (drop i bs))
    at [] i f lt is = absurd (omega arith)
    at (c ∷ bs) zero f lt is = ap head is ∙ by c (flat bs) (both (is_filled c) (all_filled bs) f).0
    at (c ∷ bs) (suc i) f lt is = at bs i (both (is_filled c) (all_filled bs) f).1 (omega arith) is

-- ---- a block in two
pub flat_split : (bs : List Entries) (i : ℕ) (lower upper d : Entries) → i < length bs → lower ++ upper ≡ get_or bs i d → flat (insert (set bs i lower) (suc i) upper) ≡ flat bs
flat_split [] i lower upper d lt h = absurd (omega arith)
flat_split (b ∷ []) zero lower upper d lt h = sym (assoc lower upper []) ∙ ap (λ (es : Entries). es ++ []) h
flat_split (b ∷ c ∷ bs) zero lower upper d lt h = sym (assoc lower upper (flat (c ∷ bs))) ∙ ap (λ (es : Entries). es ++ flat (c ∷ bs)) h
flat_split (b ∷ bs) (suc i) lower upper d lt h = ap (λ (es : Entries). b ++ es) (flat_split bs i lower upper d (omega arith) h)

filled_split : (bs : List Entries) (i : ℕ) (lower upper : Entries) → i < length bs → all_filled bs ≡ true → is_filled lower ≡ true → is_filled upper ≡ true → all_filled (insert (set bs i lower) (suc i) upper) ≡ true
filled_split [] i lower upper lt f l u = absurd (omega arith)
filled_split (b ∷ []) zero lower upper lt f l u = ap (λ t. t && (is_filled upper && true)) l ∙ ap (λ t. t && true) u
filled_split (b ∷ c ∷ bs) zero lower upper lt f l u =
    ap (λ t. t && (is_filled upper && all_filled (c ∷ bs))) l ∙ ap (λ t. t && all_filled (c ∷ bs)) u ∙ (both (is_filled b) (all_filled (c ∷ bs)) f).1
filled_split (b ∷ bs) (suc i) lower upper lt f l u =
    let p = both (is_filled b) (all_filled bs) f in
    ap (λ t. t && all_filled (insert (set bs i lower) (suc i) upper)) p.0 ∙ filled_split bs i lower upper (omega arith) p.1 l u

some_split : (bs : List Entries) (i : ℕ) (upper : Entries) → 0 < length bs → 0 < length (insert bs (suc i) upper)
some_split [] i upper h = absurd (omega arith)
some_split (b ∷ bs) i upper h = omega arith

pub split_blocks : (bs : List Entries) (i : ℕ) (lower upper d : Entries) → AreBlocks bs → i < length bs → lower ++ upper ≡ get_or bs i d → is_filled lower ≡ true → is_filled upper ≡ true → AreBlocks (insert (set bs i lower) (suc i) upper)
split_blocks bs i lower upper d w lt h l u =
    let n = set_length bs i lower in
    let s = w.some in
    record {
      rise = subst Rises (sym (flat_split bs i lower upper d lt h)) w.rise;
      filled = filled_split bs i lower upper lt w.filled l u;
      some = some_split (set bs i lower) i upper (omega arith);
    }

-- ---- in the words of the code
set_same : (bs : List Entries) (i : ℕ) (d : Entries) → d ≡ get_or bs i d → set bs i d ≡ bs
set_same [] zero d h = refl
set_same [] (suc i) d h = refl
set_same (b ∷ bs) zero d h = ap (λ (c : Entries). c ∷ bs) h
set_same (b ∷ bs) (suc i) d h = ap (λ (cs : List Entries). b ∷ cs) (set_same bs i d h)

pub choose_blocks : (r : Bool) (e : List ℕ × ℕ) (bs : List Entries) (i : ℕ) (d new : Entries) → AreBlocks bs → i < length bs → IsBlockOf e.0 bs i → d ≡ get_or bs i d → new ≡ (if r then map.put order e.0 e.1 d else d) → AreBlocks (set bs i new)
choose_blocks true e bs i d new w lt at is h =
    subst (λ (b : Entries). AreBlocks (set bs i b)) (ap (map.put order e.0 e.1) (sym is) ∙ sym h) (put_blocks e.0 e.1 bs i d w lt at)
choose_blocks false e bs i d new w lt at is h = subst AreBlocks (sym (ap (set bs i) h ∙ set_same bs i d is)) w

pub choose_flat : (r : Bool) (e : List ℕ × ℕ) (bs : List Entries) (i : ℕ) (d new : Entries) → i < length bs → IsBlockOf e.0 bs i → d ≡ get_or bs i d → new ≡ (if r then map.put order e.0 e.1 d else d) → flat (set bs i new) ≡ (if r then map.put order e.0 e.1 (flat bs) else flat bs)
choose_flat true e bs i d new lt at is h =
    ap (λ (b : Entries). flat (set bs i b)) (h ∙ ap (map.put order e.0 e.1) is) ∙ put_block e.0 e.1 bs i d lt at
choose_flat false e bs i d new lt at is h = ap flat (ap (set bs i) h ∙ set_same bs i d is)

pub split_done : (bs base new : List Entries) (i j : ℕ) (lower upper d : Entries) → AreBlocks bs → i < length bs → base ≡ bs → d ≡ get_or base i d → lower ++ upper ≡ d → is_filled lower ≡ true → is_filled upper ≡ true → j ≡ suc i → new ≡ insert (set base i lower) j upper → AreBlocks new × (flat new ≡ flat bs)
split_done bs base new i j lower upper d w lt same is parts l u next h =
    let whole : lower ++ upper ≡ get_or bs i d = parts ∙ is ∙ ap (λ (cs : List Entries). get_or cs i d) same in
    let done : new ≡ insert (set bs i lower) (suc i) upper = h ∙ ap (λ k. insert (set base i lower) k upper) next ∙ ap (λ (cs : List Entries). insert (set cs i lower) (suc i) upper) same in (
      subst AreBlocks (sym done) (split_blocks bs i lower upper d w lt whole l u),
      ap flat done ∙ flat_split bs i lower upper d lt whole,
    )

pub first_here : (x : List ℕ × ℕ) (es more : Entries) → 1 ≤ length es → x ≡ get_or es 0 x → Some x ≡ head (es ++ more)
first_here x [] more h is = absurd (omega arith)
first_here x (e ∷ es) more h is = ap (λ (y : List ℕ × ℕ). Some y) is

pub first_later : (es more : Entries) → length es < 1 → head more ≡ head (es ++ more)
first_later [] more h = refl
first_later (e ∷ es) more h = absurd (omega arith)

-- what is left from a text on, in the words of the table's map
pub from_map : (q : List ℕ) (bs : List Entries) (i : ℕ) (b es : Entries) (m : PathMap) → AreBlocks bs → i < length bs → IsBlockOf q bs i → b ≡ get_or bs i b → es ≡ from q b → map.from_sorted (flat bs) ≡ m → es ++ flat (drop (suc i) bs) ≡ from q (map.entries m)
from_map q bs i b es m w lt at is part view =
    ap (λ (xs : Entries). xs ++ flat (drop (suc i) bs)) (part ∙ ap (from q) is)
    ∙ sym (from_block q bs i b lt at)
    ∙ ap (from q) (listed (flat bs) w.rise m view)

pub head_in : (bs cs : List Entries) (i j : ℕ) → cs ≡ bs → j ≡ suc i → head (flat (drop j cs)) ≡ head (flat (drop (suc i) bs))
head_in bs cs i j same next = ap (λ k. head (flat (drop k cs))) next ∙ ap (λ (xs : List Entries). head (flat (drop (suc i) xs))) same
