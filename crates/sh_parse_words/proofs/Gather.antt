-- Taking a production's values off the stack, and putting its own there.
use Rattle.std.proofs.Common.{◌≡◌, refl, ap, ◌∙◌, arith, ℕ, zero, suc, ◌≤◌, nat_le, Bool, true, false, ◌&&◌, List, [], ◌∷◌, ◌++◌, length, Option, Some, None, option_map, option_and_then, slice_get, slice_index_or}
use Rattle.std.proofs.lemmas.Bool.{leb-true}
use Rattle.sh_parse_actions.specs.declared.kind.Kind.{Kind}
use Rattle.sh_parse_actions.specs.declared.value.Children.{Children}
use Rattle.sh_parse_actions.specs.declared.value.Children.TheVariants as children
use Rattle.sh_parse_actions.specs.declared.value.Value.{Value}
use Rattle.sh_parse_actions.specs.Actions.{production_value}
use Rattle.sh_parse_actions.specs.Values.{children_values, with_child}
use Rattle.sh_parse_words.specs.Meaning.{kept_by, kept_values, value_made}
use Rattle.sh_parse_words.specs.Productions.{productions, kept_symbols, kinds}
use Rattle.sh_parse_words.specs.Stack.{after_expansion, children_and_rest, made_on, with_value}
use Rattle.sh_parse_words.proofs.Bools.{left_true, right_true}

abbrev pub how_many : List Bool → ℕ
how_many [] = 0
how_many (true ∷ kept) = suc (how_many kept)
how_many (false ∷ kept) = how_many kept

abbrev all_few : List (List Bool) → Bool
all_few [] = true
all_few (kept ∷ table) = nat_le (how_many kept) 3 && all_few table

few_are : all_few kept_symbols ≡ true
unfolding productions
few_are = refl

few_at : (table : List (List Bool)) (p : ℕ) → all_few table ≡ true → nat_le (how_many (slice_index_or table p [])) 3 ≡ true
few_at [] p e = refl
few_at (kept ∷ table) zero e = left_true _ _ e
few_at (kept ∷ table) (suc p) e = few_at table p (right_true _ _ e)

small : (n : ℕ) → nat_le n 3 ≡ true → n ≤ 3
small n e = leb-true n 3 e

pub few : (p : ℕ) → how_many (kept_by p) ≤ 3
few p = small (how_many (kept_by p)) (few_at kept_symbols p few_are)

pub record Gathers (kept : List Bool) (vs stack : List Value) : Type 0 where
  pub c : Children
  pub is : children_and_rest kept (vs ++ stack) ≡ Some (c, stack)
  pub values : children_values c ≡ kept_values kept vs
  pub size : length (children_values c) ≡ how_many kept

pub record Joins (v : Value) (c : Children) : Type 0 where
  pub all : Children
  pub is : with_child v c ≡ Some all
  pub values : children_values all ≡ v ∷ children_values c

joins : (v : Value) (c : Children) → length (children_values c) ≤ 2 → Joins v c
joins v children.None h = record { all = children.One v; is = refl; values = refl }
joins v (children.One a) h = record { all = children.Two v a; is = refl; values = refl }
joins v (children.Two a b) h = record { all = children.Three v a b; is = refl; values = refl }
joins v (children.Three a b c) h = absurd (omega arith)

with_kept : (kept : List Bool) (v : Value) (vs stack : List Value) (g : Gathers kept vs stack) → Joins v g.c → Gathers (true ∷ kept) (v ∷ vs) stack
with_kept kept v vs stack g j =
    record {
      c = j.all;
      is = ap (option_and_then (with_value true v)) g.is ∙ ap (option_map (λ c. (c, stack))) j.is;
      values = j.values ∙ ap (λ us. v ∷ us) g.values;
      size = ap length j.values ∙ ap suc g.size;
    }

without : (kept : List Bool) (v : Value) (vs stack : List Value) → Gathers kept vs stack → Gathers (false ∷ kept) (v ∷ vs) stack
without kept v vs stack g =
    record { c = g.c; is = ap (option_and_then (with_value false v)) g.is; values = g.values; size = g.size }

pub gathers : (kept : List Bool) (vs stack : List Value) → length vs ≡ length kept → how_many kept ≤ 3 → Gathers kept vs stack
gathers [] [] stack n h = record { c = children.None; is = refl; values = refl; size = refl }
gathers (true ∷ kept) (v ∷ vs) stack n h =
    let g = gathers kept vs stack (omega arith) (omega arith) in
    with_kept kept v vs stack g (joins v g.c (omega (arith, g.size)))
gathers (false ∷ kept) (v ∷ vs) stack n h = without kept v vs stack (gathers kept vs stack (omega arith) h)
gathers [] (v ∷ vs) stack n h = absurd (omega arith)
gathers (keeps ∷ kept) [] stack n h = absurd (omega arith)

made_there : (o : Option Kind) (c : Children) (us stack : List Value) → children_values c ≡ us
    → option_and_then (λ kind. made_on kind (c, stack)) o ≡ option_map (λ v. v ∷ stack) (option_and_then (λ kind. production_value kind us) o)
made_there None c us stack e = refl
made_there (Some kind) c us stack e = ap (λ xs. option_map (λ v. v ∷ stack) (production_value kind xs)) e

pub expanded_is : (p : ℕ) (vs stack : List Value) → length vs ≡ length (kept_by p)
    → after_expansion p (vs ++ stack) ≡ option_map (λ v. v ∷ stack) (value_made p vs)
expanded_is p vs stack n =
    let g : Gathers (kept_by p) vs stack = gathers (kept_by p) vs stack n (few p) in
    ap (λ o. option_and_then (λ kind. option_and_then (made_on kind) o) (slice_get kinds p)) g.is
    ∙ made_there (slice_get kinds p) g.c (kept_values (kept_by p) vs) stack g.values
