-- Where an alias is put, and what is found after that.
use Rattle.std.proofs.Common.{◌≡◌, ◌≢◌, ℕ, suc, ◌+◌, ◌≤◌, ◌∷◌, [], List, Bool, true, false, ◌&&◌, not, cond, length, set, Option, Some, None, refl, sym, ap, ◌∙◌, arith}
use Rattle.std.specs.List.{filter, find, insert, position, position_or_len}
use Rattle.std.specs.Option.{unwrap_or}
use Rattle.std.specs.Prelude.{nat_lt}
use Rattle.std.specs.Ordering.{is_eq, is_lt, nat_cmp, ordering_reverse}
use Rattle.std.specs.declared.cmp.Ordering.{Ordering}
use Rattle.std.specs.declared.cmp.Ordering.TheVariants.{Less, Equal, Greater}
use Rattle.std.specs.Cmp.{IsTotalOrder, tied_itself}
use Rattle.std.specs.Cmp.Lexicographic.{slice_cmp}
use Rattle.std.specs.Str.{bytes_eq}
use Rattle.std.proofs.lemmas.Cmp.{nat_list_cmp_total}
use Rattle.std.proofs.lemmas.Bool.{ltb-false, true≢false}
use Rattle.std.proofs.lemmas.List.Recursion.{is_position_or_len}
use Rattle.std.proofs.lemmas.List.Sums.{prefix_len-le-length}
use Rattle.std.proofs.lemmas.Map.Lookups.{exact_bytes}
use Rattle.std.proofs.lemmas.Map.Text.{is_eq-slice_cmp}
use Rattle.std.proofs.lemmas.Slice.Eq.{bytes_eq-Decides}
use Rattle.sh_aliases.specs.Aliases.{AliasTable, alias_named, has_name, is_before, is_sorted, name_order, placed_by, with_alias, without_alias}
use Rattle.sh_aliases.specs.Places.{has_name_at, is_not_before, place_of}
use Rattle.sh_aliases.specs.declared.alias.Alias.{Alias}

laws : IsTotalOrder name_order
laws = nat_list_cmp_total

-- ---- names that are the same, and others
same : (a : Alias) (name : List ℕ) → name_order a.name name ≡ Equal → has_name name a ≡ true
same a name e = sym (is_eq-slice_cmp a.name name) ∙ ap is_eq e

before : (a : Alias) (name : List ℕ) → name_order a.name name ≡ Less → has_name name a ≡ false
before a name e = sym (is_eq-slice_cmp a.name name) ∙ ap is_eq e

behind : (a : Alias) (name : List ℕ) → name_order a.name name ≡ Greater → has_name name a ≡ false
behind a name e = sym (is_eq-slice_cmp a.name name) ∙ ap is_eq e

own : (a : Alias) → has_name a.name a ≡ true
own a = same a a.name (tied_itself laws a.name)

other : (a : Alias) (name : List ℕ) → name ≢ a.name → has_name name a ≡ false
other a name differs = by (has_name name a) refl
  where
    by : (r : Bool) → has_name name a ≡ r → has_name name a ≡ false
    by true e = absurd (differs (sym ((bytes_eq-Decides a.name name).0 e)))
    by false e = e

-- ---- the place of a name
abbrev before_or_length : AliasTable → List ℕ → ℕ
before_or_length [] name = 0
before_or_length (a ∷ table) name = cond (is_not_before name a) 0 (suc (before_or_length table name))

one_more : (b : Bool) (n : ℕ) → cond b 0 (suc n) ≡ cond b 0 (1 + n)
one_more true n = refl
one_more false n = omega arith

first_or_length : (k n : ℕ) → k ≤ n → unwrap_or (cond (nat_lt k n) (Some k) None) n ≡ k
first_or_length k n le = by (nat_lt k n) refl
  where
    by : (b : Bool) → nat_lt k n ≡ b → unwrap_or (cond b (Some k) None) n ≡ k
    by true e = refl
    by false e = let past = ltb-false k n e in omega arith

place_is : (table : AliasTable) (name : List ℕ) → place_of table name ≡ before_or_length table name
place_is table name =
    first_or_length (position_or_len (is_not_before name) table) (length table) (prefix_len-le-length _ table)
    ∙ sym (is_position_or_len (λ (t : AliasTable). before_or_length t name) (is_not_before name) refl (λ a t. one_more (is_not_before name a) (before_or_length t name)) table)

-- ---- an alias at its place
abbrev pub put_at : AliasTable → Alias → ℕ → AliasTable
put_at table alias place = cond (has_name_at table place alias.name) (set table place alias) (insert table place alias)

behind_first : (b : Bool) (first : Alias) (xs ys : AliasTable) → cond b (first ∷ xs) (first ∷ ys) ≡ first ∷ cond b xs ys
behind_first true first xs ys = refl
behind_first false first xs ys = refl

put_by : (first : Alias) (table : AliasTable) (alias : Alias) (r : Ordering) → name_order first.name alias.name ≡ r → put_at table alias (before_or_length table alias.name) ≡ with_alias table alias → put_at (first ∷ table) alias (cond (not (is_lt r)) 0 (suc (before_or_length table alias.name))) ≡ placed_by r alias first table (with_alias table alias)
put_by first table alias Less e others =
    let place = before_or_length table alias.name in
    behind_first (has_name_at table place alias.name) first (set table place alias) (insert table place alias)
    ∙ ap (λ (t : AliasTable). first ∷ t) others
put_by first table alias Equal e others = ap (λ b. cond b (alias ∷ table) (alias ∷ first ∷ table)) (same first alias.name e)
put_by first table alias Greater e others = ap (λ b. cond b (alias ∷ table) (alias ∷ first ∷ table)) (behind first alias.name e)

put_there : (table : AliasTable) (alias : Alias) → put_at table alias (before_or_length table alias.name) ≡ with_alias table alias
put_there [] alias = refl
put_there (first ∷ table) alias = put_by first table alias (name_order first.name alias.name) refl (put_there table alias)

pub put_in : (table : AliasTable) (alias : Alias) → put_at table alias (place_of table alias.name) ≡ with_alias table alias
put_in table alias = ap (put_at table alias) (place_is table alias.name) ∙ put_there table alias

pub put_over : (table : AliasTable) (alias : Alias) (place : ℕ) → place ≡ place_of table alias.name → has_name_at table place alias.name ≡ true → set table place alias ≡ with_alias table alias
put_over table alias place at named =
    sym (ap (λ b. cond b (set table place alias) (insert table place alias)) named) ∙ ap (put_at table alias) at ∙ put_in table alias

pub put_between : (table : AliasTable) (alias : Alias) (place : ℕ) → place ≡ place_of table alias.name → has_name_at table place alias.name ≡ false → insert table place alias ≡ with_alias table alias
put_between table alias place at named =
    sym (ap (λ b. cond b (set table place alias) (insert table place alias)) named) ∙ ap (put_at table alias) at ∙ put_in table alias

-- ---- what is found after an alias was put
found_by : (first : Alias) (table : AliasTable) (alias : Alias) (r : Ordering) → name_order first.name alias.name ≡ r → alias_named (with_alias table alias) alias.name ≡ Some alias → alias_named (placed_by r alias first table (with_alias table alias)) alias.name ≡ Some alias
found_by first table alias Less e others =
    ap (λ b. cond b (Some first) (alias_named (with_alias table alias) alias.name)) (before first alias.name e) ∙ others
found_by first table alias Equal e others = ap (λ b. cond b (Some alias) (alias_named table alias.name)) (own alias)
found_by first table alias Greater e others = ap (λ b. cond b (Some alias) (alias_named (first ∷ table) alias.name)) (own alias)

pub found : (table : AliasTable) (alias : Alias) → alias_named (with_alias table alias) alias.name ≡ Some alias
found [] alias = ap (λ b. cond b (Some alias) None) (own alias)
found (first ∷ table) alias = found_by first table alias (name_order first.name alias.name) refl (found table alias)

as_before_by : (first : Alias) (table : AliasTable) (alias : Alias) (name : List ℕ) → name ≢ alias.name → (r : Ordering) → name_order first.name alias.name ≡ r → alias_named (with_alias table alias) name ≡ alias_named table name → alias_named (placed_by r alias first table (with_alias table alias)) name ≡ alias_named (first ∷ table) name
as_before_by first table alias name differs Less e others = ap (λ (o : Option Alias). cond (has_name name first) (Some first) o) others
as_before_by first table alias name differs Equal e others =
    ap (λ b. cond b (Some alias) (alias_named table name)) (other alias name differs)
    ∙ sym (ap (λ b. cond b (Some first) (alias_named table name)) (other first name (λ at. differs (at ∙ exact_bytes first.name alias.name e))))
as_before_by first table alias name differs Greater e others =
    ap (λ b. cond b (Some alias) (alias_named (first ∷ table) name)) (other alias name differs)

pub as_before : (table : AliasTable) (alias : Alias) (name : List ℕ) → name ≢ alias.name → alias_named (with_alias table alias) name ≡ alias_named table name
as_before [] alias name differs = ap (λ b. cond b (Some alias) None) (other alias name differs)
as_before (first ∷ table) alias name differs =
    as_before_by first table alias name differs (name_order first.name alias.name) refl (as_before table alias name differs)

-- ---- what is found after an alias was removed
abbrev left_by : Bool → Alias → AliasTable → AliasTable
left_by named first others = cond (not named) (first ∷ others) others

gone_by : (first : Alias) (table : AliasTable) (name : List ℕ) (b : Bool) → has_name name first ≡ b → alias_named (without_alias table name) name ≡ None → alias_named (left_by b first (without_alias table name)) name ≡ None
gone_by first table name true e others = others
gone_by first table name false e others = ap (λ b. cond b (Some first) (alias_named (without_alias table name) name)) e ∙ others

pub gone : (table : AliasTable) (name : List ℕ) → alias_named (without_alias table name) name ≡ None
gone [] name = refl
gone (first ∷ table) name = gone_by first table name (has_name name first) refl (gone table name)

kept_by : (first : Alias) (table : AliasTable) (name kept : List ℕ) → kept ≢ name → (b : Bool) → has_name name first ≡ b → alias_named (without_alias table name) kept ≡ alias_named table kept → alias_named (left_by b first (without_alias table name)) kept ≡ alias_named (first ∷ table) kept
kept_by first table name kept differs true e others =
    others ∙ sym (ap (λ b. cond b (Some first) (alias_named table kept)) (other first kept (λ at. differs (at ∙ (bytes_eq-Decides first.name name).0 e))))
kept_by first table name kept differs false e others = ap (λ (o : Option Alias). cond (has_name kept first) (Some first) o) others

pub still_there : (table : AliasTable) (name kept : List ℕ) → kept ≢ name → alias_named (without_alias table name) kept ≡ alias_named table kept
still_there [] name kept differs = refl
still_there (first ∷ table) name kept differs =
    kept_by first table name kept differs (has_name name first) refl (still_there table name kept differs)

-- ---- the order
both : (a b : Bool) → a ≡ true → b ≡ true → (a && b) ≡ true
both true b e h = h
both false b e h = absurd (true≢false (sym e))

left : (a b : Bool) → (a && b) ≡ true → a ≡ true
left true b h = refl
left false b h = h

right : (a b : Bool) → (a && b) ≡ true → b ≡ true
right true b h = h
right false b h = absurd (true≢false (sym h))

less : (r : Ordering) → is_lt r ≡ true → r ≡ Less
less Less h = refl
less Equal h = absurd (true≢false (sym h))
less Greater h = absurd (true≢false (sym h))

put_behind : (first : Alias) (table : AliasTable) (alias : Alias) → is_before first table ≡ true → is_lt (name_order first.name alias.name) ≡ true → is_before first (with_alias table alias) ≡ true
put_behind first [] alias h lt = lt
put_behind first (next ∷ table) alias h lt = by (name_order next.name alias.name)
  where
    by : (r : Ordering) → is_before first (placed_by r alias next table (with_alias table alias)) ≡ true
    by Less = h
    by Equal = lt
    by Greater = lt

same_before : (first alias : Alias) (table : AliasTable) → first.name ≡ alias.name → is_before first table ≡ true → is_before alias table ≡ true
same_before first alias [] at h = refl
same_before first alias (next ∷ table) at h = sym (ap (λ (name : List ℕ). is_lt (name_order name next.name)) at) ∙ h

sorted_by : (first : Alias) (table : AliasTable) (alias : Alias) → is_sorted (first ∷ table) ≡ true → (r : Ordering) → name_order first.name alias.name ≡ r → is_sorted (with_alias table alias) ≡ true → is_sorted (placed_by r alias first table (with_alias table alias)) ≡ true
sorted_by first table alias h Less e others =
    both _ _ (put_behind first table alias (left _ _ h) (ap is_lt e)) others
sorted_by first table alias h Equal e others =
    both _ _ (same_before first alias table (exact_bytes first.name alias.name e) (left _ _ h)) (right (is_before first table) _ h)
sorted_by first table alias h Greater e others =
    both _ _ (ap is_lt (laws.antisymm alias.name first.name ∙ ap ordering_reverse e)) h

pub sorted_put : (table : AliasTable) (alias : Alias) → is_sorted table ≡ true → is_sorted (with_alias table alias) ≡ true
sorted_put [] alias h = refl
sorted_put (first ∷ table) alias h =
    sorted_by first table alias h (name_order first.name alias.name) refl (sorted_put table alias (right (is_before first table) _ h))

-- what comes before the first of some aliases comes before the next of them
next_behind : (first next : Alias) (table : AliasTable) → is_lt (name_order first.name next.name) ≡ true → is_before next table ≡ true → is_before first table ≡ true
next_behind first next [] lt h = refl
next_behind first next (alias ∷ table) lt h = ap is_lt (laws.trans first.name next.name alias.name (less _ lt) (less _ h))

left_behind : (first : Alias) (table : AliasTable) (name : List ℕ) → is_before first table ≡ true → is_sorted table ≡ true → is_before first (without_alias table name) ≡ true
left_behind first [] name h sorted = refl
left_behind first (next ∷ table) name h sorted =
    by (has_name name next) (left_behind first table name (next_behind first next table h (left _ _ sorted)) (right (is_before next table) _ sorted))
  where
    by : (b : Bool) → is_before first (without_alias table name) ≡ true → is_before first (left_by b next (without_alias table name)) ≡ true
    by true others = others
    by false others = h

left_sorted : (first : Alias) (table : AliasTable) (name : List ℕ) (b : Bool) → is_before first (without_alias table name) ≡ true → is_sorted (without_alias table name) ≡ true → is_sorted (left_by b first (without_alias table name)) ≡ true
left_sorted first table name true before_them others = others
left_sorted first table name false before_them others = both _ _ before_them others

pub sorted_left : (table : AliasTable) (name : List ℕ) → is_sorted table ≡ true → is_sorted (without_alias table name) ≡ true
sorted_left [] name h = refl
sorted_left (first ∷ table) name h =
    left_sorted first table name (has_name name first)
    (left_behind first table name (left _ _ h) (right (is_before first table) _ h))
    (sorted_left table name (right (is_before first table) _ h))
