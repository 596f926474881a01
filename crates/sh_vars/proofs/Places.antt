-- What is found, put and taken out at a place in a list of entries in the order of their names.
use Rattle.std.proofs.Common.{◌≡◌, ℕ, suc, zero, ◌<◌, ◌≤◌, List, [], ◌∷◌, ◌&&◌, T, Bool, true, false, cond, not, length, get_or, set, Option, Some, None, unwrap_or, Result, Ok, Err, refl, sym, ap, ◌∙◌, subst, arith}
use Rattle.std.specs.List.{HoldsAt, AllWithin, insert, remove, slice_get}
use Rattle.std.specs.List.Sorted.{IsPartitionPoint, IsNonDecreasingBy, IsSearchInRange, IsBinarySearchResult}
use Rattle.std.specs.Ordering.{nat_cmp, eq_by_cmp, is_eq, is_lt, ordering_index, ordering_reverse}
use Rattle.std.specs.declared.cmp.Ordering.{Ordering}
use Rattle.std.specs.declared.cmp.Ordering.TheVariants.{Less, Equal, Greater}
use Rattle.std.specs.Cmp.{IsTotalOrder, tied_itself, eq_by_cmp_equiv}
use Rattle.std.specs.Cmp.Lexicographic.{slice_cmp}
use Rattle.std.specs.FinMap as map
use Rattle.std.specs.FinMap.Entries.{below_all, by_order, is_sorted-put, where_key, is_sorted-where_key, find-where_key}
use Rattle.std.proofs.lemmas.Cmp.{nat_list_cmp_total}
use Rattle.std.proofs.lemmas.Map.Lookups.{exact_bytes}
use Rattle.std.proofs.lemmas.Option.{slice_get-get_or, slice_get_within, get_or_from_slice_get}
use Rattle.std.proofs.lemmas.List.{set-get_or}
use Rattle.sh_vars.specs.Environment.{Variable, VariableMap, absent, variable_or_absent}
use Rattle.sh_vars.specs.Places.{Entries, IsHeld, IsPlace}

abbrev pub order : List ℕ → List ℕ → Ordering
order = slice_cmp nat_cmp

abbrev pub Rises : Entries → Type 0
Rises es = T (map.is_sorted order es)

left : (a b : Bool) → T (a && b) → T a
left true b h = tt
left false b h = absurd h

right : (a b : Bool) → T (a && b) → T b
right true b h = h
right false b h = absurd h

less : (r : Ordering) → T (is_lt r) → r ≡ Less
less Less h = refl
less Equal h = absurd h
less Greater h = absurd h

-- a name below all others is below the one at each place
below_at : (x : List ℕ) (es : Entries) (j : ℕ) (d : List ℕ × Variable) → T (below_all order x es) → j < length es → order x (get_or es j d).0 ≡ Less
below_at x [] j d h lt = absurd (omega arith)
below_at x (e ∷ es) zero d h lt = less _ (left _ _ h)
below_at x (e ∷ es) (suc j) d h lt = below_at x es j d (right _ _ h) (omega arith)

laws : IsTotalOrder order
laws = nat_list_cmp_total

flipped : (x y : List ℕ) (r : Ordering) → order x y ≡ r → order y x ≡ ordering_reverse r
flipped x y r e = laws.antisymm y x ∙ ap ordering_reverse e

-- a name before a name that comes before q comes before q, too
index_rises : (x y q : List ℕ) → order x y ≡ Less → ordering_index (order x q) ≤ ordering_index (order y q)
index_rises x y q lt = by (order x q) refl
  where
    above : order q y ≡ Less → ordering_index (order y q) ≡ 2
    above e = ap ordering_index (flipped q y Less e)

    by : (r : Ordering) → order x q ≡ r → ordering_index (order x q) ≤ ordering_index (order y q)
    by Less e = let low : ordering_index (order x q) ≡ 0 = ap ordering_index e in omega arith
    by Equal e =
        let here : ordering_index (order x q) ≡ 1 = ap ordering_index e in
        let there = above (sym (laws.congr x q y e) ∙ lt) in
        omega arith
    by Greater e =
        let here : ordering_index (order x q) ≡ 2 = ap ordering_index e in
        let there = above (laws.trans q x y (flipped x q Greater e) lt) in
        omega arith

-- a search may halve a list in order
pub rises : (q : List ℕ) (es : Entries) → Rises es → IsNonDecreasingBy (λ e. ordering_index (order e.0 q)) es
rises q [] h i j d le lt = absurd (omega arith)
rises q (e ∷ es) h zero zero d le lt = omega arith
rises q (e ∷ es) h zero (suc j) d le lt = index_rises e.0 (get_or es j d).0 q (below_at e.0 es j d (left _ _ h) (omega arith))
rises q (e ∷ es) h (suc i) zero d le lt = absurd (omega arith)
rises q (e ∷ es) h (suc i) (suc j) d le lt = rises q es (right _ _ h) i j d (omega arith) (omega arith)

pub same_name : (x y : List ℕ) → order x y ≡ Equal → x ≡ y
same_name x y e = exact_bytes x y e

-- what a binary search answers is a place
pub placed : (q : List ℕ) (es : Entries) (r : Result ℕ ℕ) → Rises es → IsSearchInRange r (length es) → IsBinarySearchResult (λ e. order e.0 q) es r → IsPlace es q r
placed q es (Ok i) h lt at = (lt, λ d. same_name _ q (at d))
placed q es (Err i) h le at = (le, at (rises q es h))

abbrev Below : List ℕ → List ℕ × Variable → Type 0
Below q e = order e.0 q ≡ Less

abbrev Above : List ℕ → List ℕ × Variable → Type 0
Above q e = order e.0 q ≡ Greater

skipped : (q : List ℕ) (e : List ℕ × Variable) (es : Entries) → order q e.0 ≡ Greater → map.find order q (e ∷ es) ≡ map.find order q es
skipped q e es g = ap (λ r. cond (is_eq r) (Some e.1) (map.find order q es)) g

-- ---- where a name is missing
missing_below : (q : List ℕ) (es : Entries) → AllWithin (Above q) es 0 (length es) → map.find order q es ≡ None
missing_below q [] h = refl
missing_below q (e ∷ es) h =
    ap (λ r. cond (is_eq r) (Some e.1) (map.find order q es)) (flipped e.0 q Greater (h 0 e (omega arith) (omega arith)))
    ∙ missing_below q es (λ k d _ lt. h (suc k) d (omega arith) (omega arith))

pub missing : (q : List ℕ) (es : Entries) (i : ℕ) → IsPartitionPoint (Below q) (Above q) es i → map.find order q es ≡ None
missing q [] i h = refl
missing q (e ∷ es) zero h = missing_below q (e ∷ es) h.1
missing q (e ∷ es) (suc i) h =
    skipped q e es (flipped e.0 q Less (h.0 0 e (omega arith) (omega arith)))
    ∙ missing q es i (λ k d _ lt. h.0 (suc k) d (omega arith) (omega arith), λ k d ge lt. h.1 (suc k) d (omega arith) (omega arith))

pub insert_put : (q : List ℕ) (v : Variable) (es : Entries) (i : ℕ) → i ≤ length es → IsPartitionPoint (Below q) (Above q) es i → insert es i (q, v) ≡ map.put order q v es
insert_put q v [] zero le h = refl
insert_put q v [] (suc i) le h = absurd (omega arith)
insert_put q v (e ∷ es) zero le h =
    ap (λ r. by_order r ((q, v) ∷ e ∷ es) ((e.0, v) ∷ es) (e ∷ map.put order q v es)) (sym (flipped e.0 q Greater (h.1 0 e (omega arith) (omega arith))))
insert_put q v (e ∷ es) (suc i) le h =
    ap (λ (rest : Entries). e ∷ rest) (insert_put q v es i (omega arith) (λ k d _ lt. h.0 (suc k) d (omega arith) (omega arith), λ k d ge lt. h.1 (suc k) d (omega arith) (omega arith)))
    ∙ ap (λ r. by_order r ((q, v) ∷ e ∷ es) ((e.0, v) ∷ es) (e ∷ map.put order q v es)) (sym (flipped e.0 q Less (h.0 0 e (omega arith) (omega arith))))

-- ---- where a name stands
abbrev Stands : List ℕ → Entries → ℕ → Type 0
Stands q es i = HoldsAt (λ e. e.0 ≡ q) es i

above_at : (q : List ℕ) (e : List ℕ × Variable) (es : Entries) (i : ℕ) → Rises (e ∷ es) → i < length es → Stands q es i → order q e.0 ≡ Greater
above_at q e es i h lt at = flipped e.0 q Less (sym (ap (order e.0) (at e)) ∙ below_at e.0 es i e (left _ _ h) lt)

pub found : (q : List ℕ) (es : Entries) (i : ℕ) (d : List ℕ × Variable) → Rises es → i < length es → Stands q es i → map.find order q es ≡ Some (get_or es i d).1
found q [] i d h lt at = absurd (omega arith)
found q (e ∷ es) zero d h lt at = ap (λ r. cond (is_eq r) (Some e.1) (map.find order q es)) (ap (order q) (at e) ∙ tied_itself laws q)
found q (e ∷ es) (suc i) d h lt at = skipped q e es (above_at q e es i h (omega arith) at) ∙ found q es i d (right _ _ h) (omega arith) at

pub set_put : (q : List ℕ) (v : Variable) (es : Entries) (i : ℕ) → Rises es → i < length es → Stands q es i → set es i (q, v) ≡ map.put order q v es
set_put q v [] i h lt at = absurd (omega arith)
set_put q v (e ∷ es) zero h lt at =
    ap (λ (x : List ℕ). (x, v) ∷ es) (sym (at e))
    ∙ ap (λ r. by_order r ((q, v) ∷ e ∷ es) ((e.0, v) ∷ es) (e ∷ map.put order q v es)) (sym (ap (order q) (at e) ∙ tied_itself laws q))
set_put q v (e ∷ es) (suc i) h lt at =
    ap (λ (rest : Entries). e ∷ rest) (set_put q v es i (right _ _ h) (omega arith) at)
    ∙ ap (λ r. by_order r ((q, v) ∷ e ∷ es) ((e.0, v) ∷ es) (e ∷ map.put order q v es)) (sym (above_at q e es i h (omega arith) at))

-- ---- a change of the map
put_rises : (q : List ℕ) (v : Variable) (es : Entries) → Rises es → Rises (map.put order q v es)
put_rises q v es h = is_sorted-put order laws q v es h

pub put_map : (q : List ℕ) (v : Variable) (es : Entries) → Rises es → map.from_sorted {R = order} (map.put order q v es) ≡ map.insert (map.from_sorted es) q v
put_map q v es h =
    map.same_entries_map _ _ (map.entries-from_sorted order (map.put order q v es) (put_rises q v es h)
    ∙ sym (map.entries-insert laws (map.from_sorted es) q v ∙ ap (map.put order q v) (map.entries-from_sorted order es h)))

put_here : (q : List ℕ) (v w : Variable) (x : List ℕ) (es : Entries) → order q x ≡ Equal → map.put order q v ((x, w) ∷ es) ≡ (x, v) ∷ es
put_here q v w x es e = ap (λ r. by_order r ((q, v) ∷ (x, w) ∷ es) ((x, v) ∷ es) ((x, w) ∷ map.put order q v es)) e

put_twice : (q : List ℕ) (v w : Variable) (es : Entries) → map.put order q v (map.put order q w es) ≡ map.put order q v es
put_twice q v w [] = put_here q v w q [] (tied_itself laws q)
put_twice q v w (e ∷ es) =
    elim (order q e.0) as (λ r. order q e.0 ≡ r → map.put order q v (by_order r ((q, w) ∷ e ∷ es) ((e.0, w) ∷ es) (e ∷ map.put order q w es)) ≡ by_order r ((q, v) ∷ e ∷ es) ((e.0, v) ∷ es) (e ∷ map.put order q v es)) [
      | Less ↦ λ t. put_here q v w q (e ∷ es) (tied_itself laws q)
      | Equal ↦ λ t. put_here q v w e.0 es t
      | Greater ↦ λ t.
          ap (λ r. by_order r ((q, v) ∷ e ∷ map.put order q w es) ((e.0, v) ∷ map.put order q w es) (e ∷ map.put order q v (map.put order q w es))) t
          ∙ ap (λ (rest : Entries). e ∷ rest) (put_twice q v w es)
    ] refl

-- a list that holds the name at i, with the variable there
pub record Held (q : List ℕ) (old new : Entries) (i : ℕ) : Type 0 where
  pub rises : Rises old
  pub held : IsHeld old q new i

within : {q : List ℕ} {old new : Entries} {i : ℕ} → Held q old new i → i < length new
within h = slice_get_within _ _ _ h.held.1

stands : {q : List ℕ} {old new : Entries} {i : ℕ} → Held q old new i → Stands q new i
stands {q} {old} {new} {i} h d = ap (λ (e : List ℕ × Variable). e.0) (get_or_from_slice_get new i _ d h.held.1)

pub held_rises : {q : List ℕ} {old new : Entries} {i : ℕ} → Held q old new i → Rises new
held_rises {q} {old} {new} {i} h = subst Rises (sym h.held.0) (put_rises q _ old h.rises)

set_held : {q : List ℕ} {old new : Entries} {i : ℕ} (v : Variable) → Held q old new i → set new i (q, v) ≡ map.put order q v old
set_held {q} {old} {new} {i} v h =
    set_put q v new i (held_rises h) (within h) (stands h) ∙ ap (map.put order q v) h.held.0 ∙ put_twice q v _ old

pub set_held_rises : {q : List ℕ} {old new : Entries} {i : ℕ} (v : Variable) → Held q old new i → Rises (set new i (q, v))
set_held_rises {q} {old} v h = subst Rises (sym (set_held v h)) (put_rises q v old h.rises)

pub set_held_map : {q : List ℕ} {old new : Entries} {i : ℕ} (v : Variable) → Held q old new i → map.from_sorted {R = order} (set new i (q, v)) ≡ map.insert (map.from_sorted old) q v
set_held_map {q} {old} v h = ap (λ (es : Entries). map.from_sorted {R = order} es) (set_held v h) ∙ put_map q v old h.rises

-- ---- in the words of the map
pub found_in : (q : List ℕ) (es : Entries) (i : ℕ) (e : List ℕ × Variable) → Rises es → IsPlace es q (Ok i) → e ≡ get_or es i e → Some e.1 ≡ map.get (map.from_sorted {R = order} es) q
found_in q es i e h at is =
    ap (λ (x : List ℕ × Variable). Some x.1) is ∙ sym (map.get-from_sorted order es q h ∙ found q es i e h at.0 at.1)

pub missing_in : (q : List ℕ) (es : Entries) (i : ℕ) → Rises es → IsPlace es q (Err i) → None ≡ map.get (map.from_sorted {R = order} es) q
missing_in q es i h gap = sym (map.get-from_sorted order es q h ∙ missing q es i gap.1)

pub named_in : (q : List ℕ) (es : Entries) → Rises es → variable_or_absent (map.from_sorted es) q ≡ unwrap_or (map.find order q es) absent
named_in q es h = ap (λ (o : Option Variable). unwrap_or o absent) (map.get-from_sorted order es q h)

pub held_found : (q : List ℕ) (es : Entries) (i : ℕ) → Rises es → IsPlace es q (Ok i) → IsHeld es q es i
held_found q es i h at =
    let d : List ℕ × Variable = (q, absent) in
    let e : List ℕ × Variable = get_or es i d in
    let same : (q, e.1) ≡ e = ap (λ (x : List ℕ). (x, e.1)) (sym (at.1 d)) in
    let was : unwrap_or (map.find order q es) absent ≡ e.1 = ap (λ (o : Option Variable). unwrap_or o absent) (found q es i d h at.0 at.1) in (
      sym (set-get_or es i d) ∙ ap (set es i) (sym same) ∙ set_put q e.1 es i h at.0 at.1 ∙ ap (λ (v : Variable). map.put order q v es) (sym was),
      slice_get-get_or es i d at.0 ∙ ap (λ (x : List ℕ × Variable). Some x) (sym same) ∙ ap (λ (v : Variable). Some (q, v)) (sym was),
    )

get_inserted : (es : Entries) (i : ℕ) (e : List ℕ × Variable) → i ≤ length es → slice_get (insert es i e) i ≡ Some e
get_inserted [] zero e le = refl
get_inserted [] (suc i) e le = absurd (omega arith)
get_inserted (x ∷ es) zero e le = refl
get_inserted (x ∷ es) (suc i) e le = get_inserted es i e (omega arith)

pub held_new : (q : List ℕ) (es new : Entries) (i : ℕ) → IsPlace es q (Err i) → new ≡ insert es i (q, absent) → IsHeld es q new i
held_new q es new i gap is =
    let was : unwrap_or (map.find order q es) absent ≡ absent = ap (λ (o : Option Variable). unwrap_or o absent) (missing q es i gap.1) in (
      is ∙ insert_put q absent es i gap.0 gap.1 ∙ ap (λ (v : Variable). map.put order q v es) (sym was),
      ap (λ (xs : Entries). slice_get xs i) is ∙ get_inserted es i (q, absent) gap.0 ∙ ap (λ (v : Variable). Some (q, v)) (sym was),
    )

pub no_entries : (es : Entries) → es ≡ [] → map.from_sorted {R = order} es ≡ map.empty
no_entries es is =
    map.same_entries_map _ _ (ap (λ (xs : Entries). map.entries (map.from_sorted {R = order} xs)) is
    ∙ map.entries-from_sorted order [] tt
    ∙ sym (no_entries_left (map.entries (map.empty {R = order})) (sym (map.len-entries map.empty) ∙ map.len-empty order Variable)))
  where
    no_entries_left : (xs : Entries) → length xs ≡ 0 → xs ≡ []
    no_entries_left [] e = refl
    no_entries_left (x ∷ xs) e = absurd (omega arith)

-- the list after the entry of the held name was changed
pub changed : {q : List ℕ} {old new : Entries} {i : ℕ} (f : Variable → Variable) (e after : List ℕ × Variable) → Held q old new i → e ≡ get_or new i e → after ≡ (e.0, f e.1) → set new i after ≡ set new i (q, f (variable_or_absent (map.from_sorted old) q))
changed {q} {old} {new} {i} f e after h is change =
    let was : e ≡ (q, variable_or_absent (map.from_sorted old) q) = is ∙ get_or_from_slice_get new i _ e h.held.1 ∙ ap (λ (v : Variable). (q, v)) (sym (named_in q old h.rises)) in
    ap (set new i) (change ∙ ap (λ (x : List ℕ × Variable). (x.0, f x.1)) was)

pub changed_rises : {q : List ℕ} {old new : Entries} {i : ℕ} (f : Variable → Variable) (e after : List ℕ × Variable) → Held q old new i → e ≡ get_or new i e → after ≡ (e.0, f e.1) → Rises (set new i after)
changed_rises f e after h is change = subst Rises (sym (changed f e after h is change)) (set_held_rises _ h)

pub changed_map : {q : List ℕ} {old new : Entries} {i : ℕ} (f : Variable → Variable) (e after : List ℕ × Variable) → Held q old new i → e ≡ get_or new i e → after ≡ (e.0, f e.1) → (m : VariableMap) → map.from_sorted old ≡ m → map.from_sorted {R = order} (set new i after) ≡ map.insert m q (f (variable_or_absent m q))
changed_map {q} {old} f e after h is change m view =
    ap (λ (es : Entries). map.from_sorted {R = order} es) (changed f e after h is change)
    ∙ set_held_map _ h
    ∙ ap (λ (n : VariableMap). map.insert n q (f (variable_or_absent n q))) view

-- a list in order is the map of its entries
pub in_any_order : (es : Entries) → Rises es → map.from_sorted {R = order} es ≡ map.from_entries es
in_any_order es h =
    map.same_map laws (map.slice_cmp-IsAntisymmetric map.nat_cmp-IsAntisymmetric) _ _
    (λ q. map.get-from_sorted order es q h ∙ sym (map.get-from_entries laws es q))

-- ---- what is left without a name
abbrev other : List ℕ → List ℕ → Bool
other q x = not (eq_by_cmp order q x)

all_other : (q : List ℕ) (es : Entries) → T (below_all order q es) → where_key order (other q) es ≡ es
all_other q [] h = refl
all_other q (e ∷ es) h =
    ap (λ r. cond (not (is_eq r)) (e ∷ where_key order (other q) es) (where_key order (other q) es)) (less _ (left _ _ h))
    ∙ ap (λ (rest : Entries). e ∷ rest) (all_other q es (right _ _ h))

taken_out : (q : List ℕ) (es : Entries) (i : ℕ) → Rises es → i < length es → Stands q es i → remove es i ≡ where_key order (other q) es
taken_out q [] i h lt at = absurd (omega arith)
taken_out q (e ∷ es) zero h lt at =
    sym (all_other q es (subst (λ (x : List ℕ). T (below_all order x es)) (at e) (left _ _ h)))
    ∙ ap (λ r. cond (not (is_eq r)) (e ∷ where_key order (other q) es) (where_key order (other q) es)) (sym (ap (order q) (at e) ∙ tied_itself laws q))
taken_out q (e ∷ es) (suc i) h lt at =
    ap (λ (rest : Entries). e ∷ rest) (taken_out q es i (right _ _ h) (omega arith) at)
    ∙ ap (λ r. cond (not (is_eq r)) (e ∷ where_key order (other q) es) (where_key order (other q) es)) (sym (above_at q e es i h (omega arith) at))

turned : (b : Bool) (x y : Option Variable) → cond (not b) x y ≡ cond b y x
turned true x y = refl
turned false x y = refl

where_other : (q : List ℕ) (es : Entries) → Rises es → map.from_sorted {R = order} (where_key order (other q) es) ≡ map.remove (map.from_sorted es) q
where_other q es h =
    map.same_map laws (map.slice_cmp-IsAntisymmetric map.nat_cmp-IsAntisymmetric) _ _ (λ x.
    map.get-from_sorted order _ x (is_sorted-where_key order (other q) es h)
    ∙ find-where_key order (other q) x (λ y tie. ap (other q) (sym (same_name x y tie))) es
    ∙ turned (eq_by_cmp order q x) (map.find order x es) None
    ∙ ap (λ b. cond b None (map.find order x es)) ((eq_by_cmp_equiv laws).symm q x)
    ∙ ap (cond (eq_by_cmp order x q) None) (sym (map.get-from_sorted order es x h))
    ∙ sym (map.get-remove laws (map.from_sorted es) q x))

-- a list after the entry at a name's place was taken out
pub removed_rises : (q : List ℕ) (es new : Entries) (i : ℕ) → Rises es → IsPlace es q (Ok i) → new ≡ remove es i → Rises new
removed_rises q es new i h at is = subst Rises (sym (is ∙ taken_out q es i h at.0 at.1)) (is_sorted-where_key order (other q) es h)

pub removed_map : (q : List ℕ) (es new : Entries) (i : ℕ) → Rises es → IsPlace es q (Ok i) → new ≡ remove es i → (m : VariableMap) → map.from_sorted es ≡ m → map.from_sorted {R = order} new ≡ map.remove m q
removed_map q es new i h at is m view =
    ap (λ (xs : Entries). map.from_sorted {R = order} xs) (is ∙ taken_out q es i h at.0 at.1) ∙ where_other q es h ∙ ap (λ (n : VariableMap). map.remove n q) view

unchanged : (b : Bool) (x : Option Variable) → (b ≡ true → x ≡ None) → x ≡ cond b None x
unchanged true x h = h refl
unchanged false x h = refl

pub equal : (r : Ordering) → is_eq r ≡ true → r ≡ Equal
equal Less e = cc
equal Equal e = refl
equal Greater e = cc

-- where the name is missing nothing is to be taken out
pub nothing_removed : (q : List ℕ) (es : Entries) (i : ℕ) → Rises es → IsPlace es q (Err i) → (m : VariableMap) → map.from_sorted es ≡ m → m ≡ map.remove m q
nothing_removed q es i h gap m view =
    map.same_map laws (map.slice_cmp-IsAntisymmetric map.nat_cmp-IsAntisymmetric) _ _ (λ x.
    unchanged (eq_by_cmp order x q) (map.get m x) (λ e.
    ap (map.get m) (same_name x q (equal _ e)) ∙ ap (λ (n : VariableMap). map.get n q) (sym view) ∙ sym (missing_in q es i h gap))
    ∙ sym (map.get-remove laws m q x))

pub listed : (es : Entries) → Rises es → (m : VariableMap) → map.from_sorted es ≡ m → es ≡ map.entries m
listed es h m view = sym (map.entries-from_sorted order es h) ∙ ap (λ (n : VariableMap). map.entries n) view

-- the list after an entry was put at the place of its name
pub put_found : (e : List ℕ × Variable) (es : Entries) (i : ℕ) → Rises es → IsPlace es e.0 (Ok i) → set es i e ≡ map.put order e.0 e.1 es
put_found e es i h at = set_put e.0 e.1 es i h at.0 at.1

pub put_new : (e : List ℕ × Variable) (es new : Entries) (i : ℕ) → IsPlace es e.0 (Err i) → new ≡ insert es i e → new ≡ map.put order e.0 e.1 es
put_new e es new i gap is = is ∙ insert_put e.0 e.1 es i gap.0 gap.1

pub put_list_rises : (e : List ℕ × Variable) (es new : Entries) → Rises es → new ≡ map.put order e.0 e.1 es → Rises new
put_list_rises e es new h is = subst Rises (sym is) (put_rises e.0 e.1 es h)

pub put_list_map : (e : List ℕ × Variable) (es new : Entries) → Rises es → new ≡ map.put order e.0 e.1 es → (m : VariableMap) → map.from_sorted es ≡ m → map.from_sorted {R = order} new ≡ map.insert m e.0 e.1
put_list_map e es new h is m view =
    ap (λ (xs : Entries). map.from_sorted {R = order} xs) is ∙ put_map e.0 e.1 es h ∙ ap (λ (n : VariableMap). map.insert n e.0 e.1) view
