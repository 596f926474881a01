-- What is found and put at a place in a list of entries in the order of their paths.
use Rattle.std.proofs.Common.{◌≡◌, ℕ, suc, zero, ◌<◌, ◌≤◌, List, [], ◌∷◌, ◌&&◌, T, Bool, true, false, cond, length, length-drop, drop, take, ◌-◌, get_or, set, Some, None, Result, Ok, Err, refl, sym, ap, ◌∙◌, arith}
use Rattle.std.specs.Prelude.{if◌then◌else◌}
use Rattle.std.specs.List.{HoldsAt, AllWithin, insert}
use Rattle.std.specs.List.Sorted.{IsPartitionPoint, IsNonDecreasingBy, IsSearchInRange, IsBinarySearchResult}
use Rattle.std.proofs.Math.Seq.{take-length}
use Rattle.std.specs.Ordering.{nat_cmp, is_eq, is_gt, is_lt, ordering_index, ordering_reverse}
use Rattle.std.specs.declared.cmp.Ordering.{Ordering}
use Rattle.std.specs.declared.cmp.Ordering.TheVariants.{Less, Equal, Greater}
use Rattle.std.specs.Cmp.{IsTotalOrder, tied_itself}
use Rattle.std.specs.Cmp.Lexicographic.{slice_cmp}
use Rattle.std.specs.FinMap as map
use Rattle.std.specs.FinMap.Entries.{below_all, by_order, is_sorted-put}
use Rattle.std.proofs.lemmas.Cmp.{nat_list_cmp_total}
use Rattle.std.proofs.lemmas.Map.Lookups.{exact_bytes}
use Rattle.sh_files_image.specs.Paths.{PathMap}
use Rattle.sh_files_image.specs.Places.{Entries, IsPlace}

abbrev pub order : List ℕ → List ℕ → Ordering
order = slice_cmp nat_cmp

abbrev pub Rises : Entries → Type 0
Rises es = T (map.is_sorted order es)

pub left : (a b : Bool) → T (a && b) → T a
left true b h = tt
left false b h = absurd h

pub right : (a b : Bool) → T (a && b) → T b
right true b h = h
right false b h = absurd h

pub less : (r : Ordering) → T (is_lt r) → r ≡ Less
less Less h = refl
less Equal h = absurd h
less Greater h = absurd h

-- a path below all others is below the one at each place
pub below_at : (x : List ℕ) (es : Entries) (j : ℕ) (d : List ℕ × ℕ) → T (below_all order x es) → j < length es → order x (get_or es j d).0 ≡ Less
below_at x [] j d h lt = absurd (omega arith)
below_at x (e ∷ es) zero d h lt = less _ (left _ _ h)
below_at x (e ∷ es) (suc j) d h lt = below_at x es j d (right _ _ h) (omega arith)

pub laws : IsTotalOrder order
laws = nat_list_cmp_total

pub flipped : (x y : List ℕ) (r : Ordering) → order x y ≡ r → order y x ≡ ordering_reverse r
flipped x y r e = laws.antisymm y x ∙ ap ordering_reverse e

-- a path before a path that comes before q comes before q, too
index_rises : (x y q : List ℕ) → order x y ≡ Less → ordering_index (order x q) ≤ ordering_index (order y q)
index_rises x y q lt = by (order x q) refl
  where
    above : order q y ≡ Less → ordering_index (order y q) ≡ 2
    above e = ap ordering_index (flipped q y Less e)

    by : (r : Ordering) → order x q ≡ r → ordering_index (order x q) ≤ ordering_index (order y q)
    by Less e = let low : ordering_index (order x q) ≡ 0 = ap ordering_index e in omega arith
    by Equal e =
        let here : ordering_index (order x q) ≡ 1 = ap ordering_index e in
        let there = above (sym (laws.congr x q y e) ∙ lt) in
        omega arith
    by Greater e =
        let here : ordering_index (order x q) ≡ 2 = ap ordering_index e in
        let there = above (laws.trans q x y (flipped x q Greater e) lt) in
        omega arith

-- a search may halve a list in order
pub rises : (q : List ℕ) (es : Entries) → Rises es → IsNonDecreasingBy (λ e. ordering_index (order e.0 q)) es
rises q [] h i j d le lt = absurd (omega arith)
rises q (e ∷ es) h zero zero d le lt = omega arith
rises q (e ∷ es) h zero (suc j) d le lt = index_rises e.0 (get_or es j d).0 q (below_at e.0 es j d (left _ _ h) (omega arith))
rises q (e ∷ es) h (suc i) zero d le lt = absurd (omega arith)
rises q (e ∷ es) h (suc i) (suc j) d le lt = rises q es (right _ _ h) i j d (omega arith) (omega arith)

pub same_path : (x y : List ℕ) → order x y ≡ Equal → x ≡ y
same_path x y e = exact_bytes x y e

-- what a binary search answers is a place
pub placed : (q : List ℕ) (es : Entries) (r : Result ℕ ℕ) → Rises es → IsSearchInRange r (length es) → IsBinarySearchResult (λ e. order e.0 q) es r → IsPlace es q r
placed q es (Ok i) h lt at = (lt, λ d. same_path _ q (at d))
placed q es (Err i) h le at = (le, at (rises q es h))

abbrev pub Below : List ℕ → List ℕ × ℕ → Type 0
Below q e = order e.0 q ≡ Less

abbrev pub Above : List ℕ → List ℕ × ℕ → Type 0
Above q e = order e.0 q ≡ Greater

pub skipped : (q : List ℕ) (e : List ℕ × ℕ) (es : Entries) → order q e.0 ≡ Greater → map.find order q (e ∷ es) ≡ map.find order q es
skipped q e es g = ap (λ r. cond (is_eq r) (Some e.1) (map.find order q es)) g

-- ---- where a path is missing
missing_below : (q : List ℕ) (es : Entries) → AllWithin (Above q) es 0 (length es) → map.find order q es ≡ None
missing_below q [] h = refl
missing_below q (e ∷ es) h =
    ap (λ r. cond (is_eq r) (Some e.1) (map.find order q es)) (flipped e.0 q Greater (h 0 e (omega arith) (omega arith)))
    ∙ missing_below q es (λ k d _ lt. h (suc k) d (omega arith) (omega arith))

pub missing : (q : List ℕ) (es : Entries) (i : ℕ) → IsPartitionPoint (Below q) (Above q) es i → map.find order q es ≡ None
missing q [] i h = refl
missing q (e ∷ es) zero h = missing_below q (e ∷ es) h.1
missing q (e ∷ es) (suc i) h =
    skipped q e es (flipped e.0 q Less (h.0 0 e (omega arith) (omega arith)))
    ∙ missing q es i (λ k d _ lt. h.0 (suc k) d (omega arith) (omega arith), λ k d ge lt. h.1 (suc k) d (omega arith) (omega arith))

pub insert_put : (q : List ℕ) (v : ℕ) (es : Entries) (i : ℕ) → i ≤ length es → IsPartitionPoint (Below q) (Above q) es i → insert es i (q, v) ≡ map.put order q v es
insert_put q v [] zero le h = refl
insert_put q v [] (suc i) le h = absurd (omega arith)
insert_put q v (e ∷ es) zero le h =
    ap (λ r. by_order r ((q, v) ∷ e ∷ es) ((e.0, v) ∷ es) (e ∷ map.put order q v es)) (sym (flipped e.0 q Greater (h.1 0 e (omega arith) (omega arith))))
insert_put q v (e ∷ es) (suc i) le h =
    ap (λ (rest : Entries). e ∷ rest) (insert_put q v es i (omega arith) (λ k d _ lt. h.0 (suc k) d (omega arith) (omega arith), λ k d ge lt. h.1 (suc k) d (omega arith) (omega arith)))
    ∙ ap (λ r. by_order r ((q, v) ∷ e ∷ es) ((e.0, v) ∷ es) (e ∷ map.put order q v es)) (sym (flipped e.0 q Less (h.0 0 e (omega arith) (omega arith))))

-- ---- where a path stands
abbrev pub Stands : List ℕ → Entries → ℕ → Type 0
Stands q es i = HoldsAt (λ e. e.0 ≡ q) es i

above_at : (q : List ℕ) (e : List ℕ × ℕ) (es : Entries) (i : ℕ) → Rises (e ∷ es) → i < length es → Stands q es i → order q e.0 ≡ Greater
above_at q e es i h lt at = flipped e.0 q Less (sym (ap (order e.0) (at e)) ∙ below_at e.0 es i e (left _ _ h) lt)

pub found : (q : List ℕ) (es : Entries) (i : ℕ) (d : List ℕ × ℕ) → Rises es → i < length es → Stands q es i → map.find order q es ≡ Some (get_or es i d).1
found q [] i d h lt at = absurd (omega arith)
found q (e ∷ es) zero d h lt at = ap (λ r. cond (is_eq r) (Some e.1) (map.find order q es)) (ap (order q) (at e) ∙ tied_itself laws q)
found q (e ∷ es) (suc i) d h lt at = skipped q e es (above_at q e es i h (omega arith) at) ∙ found q es i d (right _ _ h) (omega arith) at

pub set_put : (q : List ℕ) (v : ℕ) (es : Entries) (i : ℕ) → Rises es → i < length es → Stands q es i → set es i (q, v) ≡ map.put order q v es
set_put q v [] i h lt at = absurd (omega arith)
set_put q v (e ∷ es) zero h lt at =
    ap (λ (x : List ℕ). (x, v) ∷ es) (sym (at e))
    ∙ ap (λ r. by_order r ((q, v) ∷ e ∷ es) ((e.0, v) ∷ es) (e ∷ map.put order q v es)) (sym (ap (order q) (at e) ∙ tied_itself laws q))
set_put q v (e ∷ es) (suc i) h lt at =
    ap (λ (rest : Entries). e ∷ rest) (set_put q v es i (right _ _ h) (omega arith) at)
    ∙ ap (λ r. by_order r ((q, v) ∷ e ∷ es) ((e.0, v) ∷ es) (e ∷ map.put order q v es)) (sym (above_at q e es i h (omega arith) at))

-- ---- a change of the map
pub put_rises : (q : List ℕ) (v : ℕ) (es : Entries) → Rises es → Rises (map.put order q v es)
put_rises q v es h = is_sorted-put order laws q v es h

pub put_map : (q : List ℕ) (v : ℕ) (es : Entries) → Rises es → map.from_sorted {R = order} (map.put order q v es) ≡ map.insert (map.from_sorted es) q v
put_map q v es h =
    map.same_entries_map _ _ (map.entries-from_sorted order (map.put order q v es) (put_rises q v es h)
    ∙ sym (map.entries-insert laws (map.from_sorted es) q v ∙ ap (map.put order q v) (map.entries-from_sorted order es h)))

pub found_at : (q : List ℕ) (es : Entries) (i : ℕ) (e : List ℕ × ℕ) → Rises es → IsPlace es q (Ok i) → e ≡ get_or es i e → Some e.1 ≡ map.find order q es
found_at q es i e h at is = ap (λ (x : List ℕ × ℕ). Some x.1) is ∙ sym (found q es i e h at.0 at.1)

-- ---- in the words of the map
-- a list in order is the map of its entries
pub in_any_order : (es : Entries) → Rises es → map.from_sorted {R = order} es ≡ map.from_entries es
in_any_order es h =
    map.same_map laws (map.slice_cmp-IsAntisymmetric map.nat_cmp-IsAntisymmetric) _ _
    (λ q. map.get-from_sorted order es q h ∙ sym (map.get-from_entries laws es q))

pub listed : (es : Entries) → Rises es → (m : PathMap) → map.from_sorted es ≡ m → es ≡ map.entries m
listed es h m view = sym (map.entries-from_sorted order es h) ∙ ap (λ (n : PathMap). map.entries n) view

-- the list after an entry was put at the place of its name
pub put_found : (e : List ℕ × ℕ) (es : Entries) (i : ℕ) → Rises es → IsPlace es e.0 (Ok i) → set es i e ≡ map.put order e.0 e.1 es
put_found e es i h at = set_put e.0 e.1 es i h at.0 at.1

pub put_new : (e : List ℕ × ℕ) (es new : Entries) (i : ℕ) → IsPlace es e.0 (Err i) → new ≡ insert es i e → new ≡ map.put order e.0 e.1 es
put_new e es new i gap is = is ∙ insert_put e.0 e.1 es i gap.0 gap.1

pub put_list_map : (r : Bool) (e : List ℕ × ℕ) (es new : Entries) → Rises es → new ≡ (if r then map.put order e.0 e.1 es else es) → (m : PathMap) → map.from_sorted es ≡ m → map.from_sorted {R = order} new ≡ (if r then map.insert m e.0 e.1 else m)
put_list_map true e es new h is m view =
    ap (λ (xs : Entries). map.from_sorted {R = order} xs) is ∙ put_map e.0 e.1 es h ∙ ap (λ (n : PathMap). map.insert n e.0 e.1) view
put_list_map false e es new h is m view = ap (λ (xs : Entries). map.from_sorted {R = order} xs) is ∙ view

pub below_not_after : (x y q : List ℕ) → order x y ≡ Less → is_gt (order y q) ≡ false → order x q ≡ Less
below_not_after x y q lt h =
    elim (order y q) as (λ r. order y q ≡ r → order x q ≡ Less) [
      | Less ↦ λ e. laws.trans x y q lt e
      | Equal ↦ λ e. ap (order x) (sym (same_path y q e)) ∙ lt
      | Greater ↦ λ e. let f : true ≡ false = sym (ap is_gt e) ∙ h in cc
    ] refl

-- what a slice to the end of a list is
pub to_end : (i : ℕ) (es : Entries) → take (length es - i) (drop i es) ≡ drop i es
to_end i es = ap (λ n. take n (drop i es)) (sym (length-drop i es)) ∙ take-length (drop i es)
