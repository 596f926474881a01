-- One table of many: what holds of it beside all other descriptors holds of all tables.
use Rattle.std.proofs.Common.{◌≡◌, ◌≢◌, ◌⊎◌, ℕ, ◌+◌, List, [], ◌∷◌, ◌++◌, Bool, true, false, cond, not, ◌&&◌, ◌==◌, Option, Some, None, Result, Ok, Err, Vec, refl, sym, ap, ◌∙◌, inl, inr, arith, subst, eq-eqb, append_assoc}
use Rattle.std.proofs.lemmas.Bool.{eqb-true}
use Rattle.std.proofs.lemmas.Map.Keys.{sorted_head, sorted_tail}
use Rattle.std.specs.BTreeMap.{insert_entry, is_at}
use Rattle.std.specs.List.{AllByRecursion}
use Rattle.std.specs.List.Sorted.{IsStrictlySortedBy}
use Rattle.std.specs.Map.{keys_of, lookup, remove_entry, set_value}
use Rattle.std.specs.Ordering.{is_eq, match_ordering, nat_cmp}
use Rattle.std.specs.Option.{option_map}
use Rattle.std.specs.Prelude.{find}
use Rattle.sh_kernel_descriptors.specs.Descriptors.{is_called}
use Rattle.sh_kernel_descriptors.specs.declared.descriptor.DescriptorRef.{DescriptorRef}
use Rattle.std.specs.declared.cmp.Ordering.{Ordering}
use Rattle.std.specs.declared.cmp.Ordering.TheVariants.{Less, Equal, Greater}
use Rattle.slab.specs.Slab.{Slab}
use Rattle.sh_pipe.specs.Pipe.{PipeState}
use Rattle.sh_kernel_descriptors.specs.Closings.{Pipes, descriptors_left, is_held, pipes_left}
use Rattle.sh_kernel_descriptors.specs.Counts as counts
use Rattle.sh_kernel_descriptors.specs.Kept.{Among, IsCounted, Linked, NoneOf, PipesAgree, Within, listed, named, pipe_made}
use Rattle.sh_kernel_descriptors.specs.declared.descriptor.Closing.{Closing}
use Rattle.sh_kernel_descriptors.specs.declared.descriptor.Closing.TheVariants.{All, Named}
use Rattle.sh_kernel_descriptors.specs.declared.descriptor.DescriptorRef.TheVariants.{Number}
use Rattle.sh_kernel_descriptors.specs.Counts.{ends_pipes}
use Rattle.sh_kernel_descriptors.specs.Copies as fork_copies
use Rattle.sh_kernel_descriptors.proofs.ForkCopies.{copies_listed}
use Rattle.sh_kernel_descriptors.specs.declared.descriptor.Descriptor.{Descriptor}
use Rattle.std.specs.Prelude.{OnErr, OnOk, is_ok, is_some}
use Rattle.sh_kernel_descriptors.specs.declared.description.Description.{Description}
use Rattle.sh_kernel_descriptors.specs.declared.kept.Entry.{Entry}
use Rattle.sh_kernel_descriptors.specs.declared.kept.Held.{Held}
use Rattle.sh_kernel_descriptors.proofs.Giving.{among_append, counted_same, in_front, in_rest, linked_within, listed_append, stands}
use Rattle.sh_kernel_descriptors.proofs.Ends.{same_number}
use Rattle.sh_kernel_descriptors.proofs.Leaving.{named_append}
use Rattle.sh_kernel_machine.specs.Tables.{AreOwn, Changes, CopiesOf, SameHeld, SameTables, held_in, own}
use Rattle.sh_kernel_machine.proofs.Owning.{copies_of_child, own_append, own_apart, pipes_same, with_given, with_same}
use Rattle.sh_kernel_descriptors.proofs.Going.{any_listed, closed_end, made_left, none_closed}
use Rattle.sh_kernel_machine.proofs.Lists.{apart}

-- ---- the same descriptors in another order
pub counted_by : (xs ys : List Held) (entries : Slab Entry) → SameHeld xs ys → IsCounted entries xs → IsCounted entries ys
counted_by xs ys entries s c = counted_same xs ys entries s.counts c

pub linked_by : (xs ys : List Held) (entries : Slab Entry) (es : List Description) → SameHeld xs ys → Linked xs entries es → Linked ys entries es
linked_by xs ys entries es s l = linked_within xs ys entries es (λ h a. stands h xs (s.back h a)) l

pub turned : (xs ys : List Held) → SameHeld xs ys → SameHeld ys xs
turned xs ys s = record { counts = λ k. sym (s.counts k); front = s.back; back = s.front }

swapped : (xs ys : List Held) → SameHeld (xs ++ ys) (ys ++ xs)
swapped xs ys = record {
  counts = λ k. omega (arith, named_append k xs ys, named_append k ys xs);
  front = λ h a. of_side xs ys h (among_append xs ys h a);
  back = λ h a. of_side ys xs h (among_append ys xs h a);
}
  where
    of_side : (hs is : List Held) (h : Held) → Among h hs ⊎ Among h is → Among h (is ++ hs)
    of_side hs is h (inl a) = in_rest is hs h a
    of_side hs is h (inr a) = in_front is hs h a

behind : (zs xs ys : List Held) → SameHeld xs ys → SameHeld (zs ++ xs) (zs ++ ys)
behind zs xs ys s = record {
  counts = λ k. named_append k zs xs ∙ ap (λ n. named k zs + n) (s.counts k) ∙ sym (named_append k zs ys);
  front = λ h a. of_side xs ys s.front h (among_append zs xs h a);
  back = λ h a. of_side ys xs s.back h (among_append zs ys h a);
}
  where
    of_side : (hs is : List Held) → Within hs is → (h : Held) → Among h zs ⊎ Among h hs → Among h (zs ++ is)
    of_side hs is f h (inl a) = in_front zs is h a
    of_side hs is f h (inr a) = in_rest zs is h (f h a)

-- ---- descriptors of one process alone
pub none_of : (pid : ℕ) (hs : List Held) → own pid (listed hs) ≡ [] → NoneOf pid hs
none_of pid [] e = tt
none_of pid (h ∷ hs) e = of_test (h.descriptor.pid == pid) refl (none_of pid hs) e
  where
    of_test : (b : Bool) → (h.descriptor.pid == pid) ≡ b → (own pid (listed hs) ≡ [] → NoneOf pid hs) → cond b (h.descriptor ∷ own pid (listed hs)) (own pid (listed hs)) ≡ [] → NoneOf pid (h ∷ hs)
    of_test true t f s = absurd (cc)
    of_test false t f s = (t, f s)

pub own_of_other : (q k : ℕ) (ds : List Descriptor) → own k ds ≡ ds → q ≢ k → own q ds ≡ []
own_of_other q k ds e n = ap (λ xs. own q xs) (sym e) ∙ own_apart q k ds n

nil_right : (ds : List Descriptor) → ds ++ [] ≡ ds
nil_right [] = refl
nil_right (d ∷ ds) = ap (λ xs. d ∷ xs) (nil_right ds)

-- ---- keys
key_is : (pid k : ℕ) (b : Bool) → is_at (nat_cmp pid) k ≡ b → (pid == k) ≡ b
key_is pid k b e = sym (same_number pid k) ∙ e

apart_above : (pid k : ℕ) → nat_cmp pid k ≡ Less → pid ≢ k
apart_above pid k e s = let t : (pid == k) ≡ false = sym (same_number pid k) ∙ ap (λ o. is_eq o) e in let u : (pid == k) ≡ true = eq-eqb pid k s in absurd (cc)

apart_key : (pid k : ℕ) → is_at (nat_cmp pid) k ≡ false → pid ≢ k
apart_key pid k u s = let t : (pid == k) ≡ true = eq-eqb pid k s in let v : (pid == k) ≡ false = key_is pid k false u in absurd (cc)

-- ---- the table of a process
module _ {Y : Type 0} (pid : ℕ) where
  pub split_at : (es : List (ℕ × Vec Held Y)) (t : Vec Held Y) → lookup (is_at (nat_cmp pid)) es ≡ Some t → SameHeld (held_in es) (held_in (remove_entry (is_at (nat_cmp pid)) es) ++ t.items)
  split_at [] t e = absurd (cc)
  split_at (x ∷ es) t e = of_test (is_at (nat_cmp pid) x.0) (split_at es t) e
    where
      of_test : (b : Bool) → (lookup (is_at (nat_cmp pid)) es ≡ Some t → SameHeld (held_in es) (held_in (remove_entry (is_at (nat_cmp pid)) es) ++ t.items))
          → cond b (Some x.1) (lookup (is_at (nat_cmp pid)) es) ≡ Some t → SameHeld (x.1.items ++ held_in es) (held_in (cond b es (x ∷ remove_entry (is_at (nat_cmp pid)) es)) ++ t.items)
      of_test true f s = let u : x.1 ≡ t = cc in subst (λ (v : Vec Held Y). SameHeld (x.1.items ++ held_in es) (held_in es ++ v.items)) u (swapped x.1.items (held_in es))
      of_test false f s =
          subst (λ zs. SameHeld (x.1.items ++ held_in es) zs) (sym (append_assoc x.1.items (held_in (remove_entry (is_at (nat_cmp pid)) es)) t.items))
          (behind x.1.items (held_in es) (held_in (remove_entry (is_at (nat_cmp pid)) es) ++ t.items) (f s))

  pub set_found : (es : List (ℕ × Vec Held Y)) (t w : Vec Held Y) → lookup (is_at (nat_cmp pid)) es ≡ Some t → lookup (is_at (nat_cmp pid)) (set_value (is_at (nat_cmp pid)) es w) ≡ Some w
  set_found [] t w e = absurd (cc)
  set_found (x ∷ es) t w e = of_test (is_at (nat_cmp pid) x.0) refl (set_found es t w) e
    where
      of_test : (b : Bool) → is_at (nat_cmp pid) x.0 ≡ b → (lookup (is_at (nat_cmp pid)) es ≡ Some t → lookup (is_at (nat_cmp pid)) (set_value (is_at (nat_cmp pid)) es w) ≡ Some w) → cond b (Some x.1) (lookup (is_at (nat_cmp pid)) es) ≡ Some t
          → lookup (is_at (nat_cmp pid)) (cond b ((x.0, w) ∷ es) (x ∷ set_value (is_at (nat_cmp pid)) es w)) ≡ Some w
      of_test true u f s = ap (λ c. cond c (Some w) (lookup (is_at (nat_cmp pid)) es)) u
      of_test false u f s = ap (λ c. cond c (Some x.1) (lookup (is_at (nat_cmp pid)) (set_value (is_at (nat_cmp pid)) es w))) u ∙ f s

  pub set_removed : (es : List (ℕ × Vec Held Y)) (w : Vec Held Y) → remove_entry (is_at (nat_cmp pid)) (set_value (is_at (nat_cmp pid)) es w) ≡ remove_entry (is_at (nat_cmp pid)) es
  set_removed [] w = refl
  set_removed (x ∷ es) w = of_test (is_at (nat_cmp pid) x.0) refl (set_removed es w)
    where
      of_test : (b : Bool) → is_at (nat_cmp pid) x.0 ≡ b → remove_entry (is_at (nat_cmp pid)) (set_value (is_at (nat_cmp pid)) es w) ≡ remove_entry (is_at (nat_cmp pid)) es
          → remove_entry (is_at (nat_cmp pid)) (cond b ((x.0, w) ∷ es) (x ∷ set_value (is_at (nat_cmp pid)) es w)) ≡ cond b es (x ∷ remove_entry (is_at (nat_cmp pid)) es)
      of_test true u e = ap (λ c. cond c es ((x.0, w) ∷ remove_entry (is_at (nat_cmp pid)) es)) u
      of_test false u e = ap (λ c. cond c (set_value (is_at (nat_cmp pid)) es w) (x ∷ remove_entry (is_at (nat_cmp pid)) (set_value (is_at (nat_cmp pid)) es w))) u ∙ ap (λ zs. x ∷ zs) e

  pub own_set : (es : List (ℕ × Vec Held Y)) (w : Vec Held Y) → own pid (listed w.items) ≡ listed w.items → AreOwn es → AreOwn (set_value (is_at (nat_cmp pid)) es w)
  own_set [] w e o = tt
  own_set (x ∷ es) w e o = of_test (is_at (nat_cmp pid) x.0) refl (own_set es w e o.1)
    where
      of_test : (b : Bool) → is_at (nat_cmp pid) x.0 ≡ b → AreOwn (set_value (is_at (nat_cmp pid)) es w) → AreOwn (cond b ((x.0, w) ∷ es) (x ∷ set_value (is_at (nat_cmp pid)) es w))
      of_test true u f = (subst (λ k. own k (listed w.items) ≡ listed w.items) (eqb-true pid x.0 (key_is pid x.0 true u)) e, o.1)
      of_test false u f = (o.0, f)

  -- ---- what is listed
  tables_listed : (x : ℕ × Vec Held Y) (es : List (ℕ × Vec Held Y)) (q : ℕ) → own q (listed (x.1.items ++ held_in es)) ≡ own q (listed x.1.items) ++ own q (listed (held_in es))
  tables_listed x es q = ap (λ ds. own q ds) (listed_append x.1.items (held_in es)) ∙ own_append q (listed x.1.items) (listed (held_in es))

  none_above : (es : List (ℕ × Vec Held Y)) → AreOwn es → AllByRecursion (λ k. nat_cmp pid k ≡ Less) (keys_of es) → own pid (listed (held_in es)) ≡ []
  none_above [] o above = refl
  none_above (x ∷ es) o above =
      tables_listed x es pid ∙ ap (λ ds. ds ++ own pid (listed (held_in es))) (own_of_other pid x.0 (listed x.1.items) o.0 (apart_above pid x.0 above.0)) ∙ none_above es o.1 above.1

  -- no other table has descriptors of the process
  pub none_elsewhere : (es : List (ℕ × Vec Held Y)) → AreOwn es → IsStrictlySortedBy nat_cmp (keys_of es) → own pid (listed (held_in (remove_entry (is_at (nat_cmp pid)) es))) ≡ []
  none_elsewhere [] o sorted = refl
  none_elsewhere (x ∷ es) o sorted = of_test (is_at (nat_cmp pid) x.0) refl (none_elsewhere es o.1 (sorted_tail nat_cmp x.0 (keys_of es) sorted))
    where
      of_test : (b : Bool) → is_at (nat_cmp pid) x.0 ≡ b → own pid (listed (held_in (remove_entry (is_at (nat_cmp pid)) es))) ≡ [] → own pid (listed (held_in (cond b es (x ∷ remove_entry (is_at (nat_cmp pid)) es)))) ≡ []
      of_test true u e = none_above es o.1 (subst (λ j. AllByRecursion (λ k. nat_cmp j k ≡ Less) (keys_of es)) (sym (eqb-true pid x.0 (key_is pid x.0 true u))) (sorted_head nat_cmp x.0 (keys_of es) sorted))
      of_test false u e = tables_listed x (remove_entry (is_at (nat_cmp pid)) es) pid ∙ ap (λ ds. ds ++ own pid (listed (held_in (remove_entry (is_at (nat_cmp pid)) es)))) (own_of_other pid x.0 (listed x.1.items) o.0 (apart_key pid x.0 u)) ∙ e

  pub own_found : (es : List (ℕ × Vec Held Y)) (t : Vec Held Y) → AreOwn es → IsStrictlySortedBy nat_cmp (keys_of es) → lookup (is_at (nat_cmp pid)) es ≡ Some t → own pid (listed (held_in es)) ≡ listed t.items
  own_found [] t o sorted e = absurd (cc)
  own_found (x ∷ es) t o sorted e = of_test (is_at (nat_cmp pid) x.0) refl (own_found es t o.1 (sorted_tail nat_cmp x.0 (keys_of es) sorted)) e
    where
      of_test : (b : Bool) → is_at (nat_cmp pid) x.0 ≡ b → (lookup (is_at (nat_cmp pid)) es ≡ Some t → own pid (listed (held_in es)) ≡ listed t.items) → cond b (Some x.1) (lookup (is_at (nat_cmp pid)) es) ≡ Some t → own pid (listed (x.1.items ++ held_in es)) ≡ listed t.items
      of_test true u f s =
          let v : x.1 ≡ t = cc in
          let same : pid ≡ x.0 = eqb-true pid x.0 (key_is pid x.0 true u) in
          tables_listed x es pid
          ∙ ap (λ ds. own pid (listed x.1.items) ++ ds) (none_above es o.1 (subst (λ j. AllByRecursion (λ k. nat_cmp j k ≡ Less) (keys_of es)) (sym same) (sorted_head nat_cmp x.0 (keys_of es) sorted)))
          ∙ nil_right (own pid (listed x.1.items)) ∙ ap (λ k. own k (listed x.1.items)) same ∙ o.0 ∙ ap (λ (y : Vec Held Y). listed y.items) v
      of_test false u f s = tables_listed x es pid ∙ ap (λ ds. ds ++ own pid (listed (held_in es))) (own_of_other pid x.0 (listed x.1.items) o.0 (apart_key pid x.0 u)) ∙ f s

  pub own_missing : (es : List (ℕ × Vec Held Y)) → AreOwn es → lookup (is_at (nat_cmp pid)) es ≡ None → own pid (listed (held_in es)) ≡ []
  own_missing [] o e = refl
  own_missing (x ∷ es) o e = of_test (is_at (nat_cmp pid) x.0) refl (own_missing es o.1) e
    where
      of_test : (b : Bool) → is_at (nat_cmp pid) x.0 ≡ b → (lookup (is_at (nat_cmp pid)) es ≡ None → own pid (listed (held_in es)) ≡ []) → cond b (Some x.1) (lookup (is_at (nat_cmp pid)) es) ≡ None → own pid (listed (x.1.items ++ held_in es)) ≡ []
      of_test true u f s = absurd (cc)
      of_test false u f s = tables_listed x es pid ∙ ap (λ ds. ds ++ own pid (listed (held_in es))) (own_of_other pid x.0 (listed x.1.items) o.0 (apart_key pid x.0 u)) ∙ f s

  pub others_set : (es : List (ℕ × Vec Held Y)) (w : Vec Held Y) (q : ℕ) → own pid (listed w.items) ≡ listed w.items → AreOwn es → q ≢ pid → own q (listed (held_in (set_value (is_at (nat_cmp pid)) es w))) ≡ own q (listed (held_in es))
  others_set [] w q e o n = refl
  others_set (x ∷ es) w q e o n = of_test (is_at (nat_cmp pid) x.0) refl (others_set es w q e o.1 n)
    where
      of_test : (b : Bool) → is_at (nat_cmp pid) x.0 ≡ b → own q (listed (held_in (set_value (is_at (nat_cmp pid)) es w))) ≡ own q (listed (held_in es))
          → own q (listed (held_in (cond b ((x.0, w) ∷ es) (x ∷ set_value (is_at (nat_cmp pid)) es w)))) ≡ own q (listed (x.1.items ++ held_in es))
      of_test true u f =
          let same : pid ≡ x.0 = eqb-true pid x.0 (key_is pid x.0 true u) in
          tables_listed (x.0, w) es q ∙ ap (λ ds. ds ++ own q (listed (held_in es))) (own_of_other q pid (listed w.items) e n ∙ sym (own_of_other q x.0 (listed x.1.items) o.0 (λ s. n (s ∙ sym same)))) ∙ sym (tables_listed x es q)
      of_test false u f = tables_listed x (set_value (is_at (nat_cmp pid)) es w) q ∙ ap (λ ds. own q (listed x.1.items) ++ ds) f ∙ sym (tables_listed x es q)

  -- ---- one table changes
  pub changes_set : (es : List (ℕ × Vec Held Y)) (t w : Vec Held Y) → AreOwn es → IsStrictlySortedBy nat_cmp (keys_of es) → IsStrictlySortedBy nat_cmp (keys_of (set_value (is_at (nat_cmp pid)) es w)) → lookup (is_at (nat_cmp pid)) es ≡ Some t
      → own pid (listed w.items) ≡ listed w.items → Changes pid (held_in es) (held_in (set_value (is_at (nat_cmp pid)) es w)) (listed w.items)
  changes_set es t w o sorted sorted' e mine = record {
    its = own_found (set_value (is_at (nat_cmp pid)) es w) w (own_set es w mine o) sorted' (set_found es t w e);
    others = λ q n. others_set es w q mine o n;
  }

  pub counted_set : (es : List (ℕ × Vec Held Y)) (t w : Vec Held Y) (entries entries' : Slab Entry) → lookup (is_at (nat_cmp pid)) es ≡ Some t → ((more : List Held) → IsCounted entries (more ++ t.items) → IsCounted entries' (more ++ w.items))
      → IsCounted entries (held_in es) → IsCounted entries' (held_in (set_value (is_at (nat_cmp pid)) es w))
  counted_set es t w entries entries' e f c =
      let rest = held_in (remove_entry (is_at (nat_cmp pid)) es) in
      let after : SameHeld (held_in (set_value (is_at (nat_cmp pid)) es w)) (rest ++ w.items) = subst (λ zs. SameHeld (held_in (set_value (is_at (nat_cmp pid)) es w)) (held_in zs ++ w.items)) (set_removed es w) (split_at (set_value (is_at (nat_cmp pid)) es w) w (set_found es t w e)) in
      counted_by (rest ++ w.items) (held_in (set_value (is_at (nat_cmp pid)) es w)) entries' (turned (held_in (set_value (is_at (nat_cmp pid)) es w)) (rest ++ w.items) after)
      (f rest (counted_by (held_in es) (rest ++ t.items) entries (split_at es t e) c))

  pub linked_set : (es : List (ℕ × Vec Held Y)) (t w : Vec Held Y) (entries entries' : Slab Entry) (ds ds' : List Description) → lookup (is_at (nat_cmp pid)) es ≡ Some t
      → ((more : List Held) → IsCounted entries (more ++ t.items) → Linked (more ++ t.items) entries ds → Linked (more ++ w.items) entries' ds')
      → IsCounted entries (held_in es) → Linked (held_in es) entries ds → Linked (held_in (set_value (is_at (nat_cmp pid)) es w)) entries' ds'
  linked_set es t w entries entries' ds ds' e f c l =
      let rest = held_in (remove_entry (is_at (nat_cmp pid)) es) in
      let after : SameHeld (held_in (set_value (is_at (nat_cmp pid)) es w)) (rest ++ w.items) = subst (λ zs. SameHeld (held_in (set_value (is_at (nat_cmp pid)) es w)) (held_in zs ++ w.items)) (set_removed es w) (split_at (set_value (is_at (nat_cmp pid)) es w) w (set_found es t w e)) in
      linked_by (rest ++ w.items) (held_in (set_value (is_at (nat_cmp pid)) es w)) entries' ds' (turned (held_in (set_value (is_at (nat_cmp pid)) es w)) (rest ++ w.items) after)
      (f rest (counted_by (held_in es) (rest ++ t.items) entries (split_at es t e) c) (linked_by (held_in es) (rest ++ t.items) entries ds (split_at es t e) l))

  -- ---- all that is said of one table
  pub own_at : (es : List (ℕ × Vec Held Y)) (t : Vec Held Y) → AreOwn es → lookup (is_at (nat_cmp pid)) es ≡ Some t → own pid (listed t.items) ≡ listed t.items
  own_at [] t o e = absurd (cc)
  own_at (x ∷ es) t o e = of_test (is_at (nat_cmp pid) x.0) refl (own_at es t o.1) e
    where
      of_test : (b : Bool) → is_at (nat_cmp pid) x.0 ≡ b → (lookup (is_at (nat_cmp pid)) es ≡ Some t → own pid (listed t.items) ≡ listed t.items) → cond b (Some x.1) (lookup (is_at (nat_cmp pid)) es) ≡ Some t → own pid (listed t.items) ≡ listed t.items
      of_test true u f s =
          let v : x.1 ≡ t = cc in
          let same : x.0 ≡ pid = sym (eqb-true pid x.0 (key_is pid x.0 true u)) in
          subst (λ (y : Vec Held Y). own pid (listed y.items) ≡ listed y.items) v (subst (λ k. own k (listed x.1.items) ≡ listed x.1.items) same o.0)
      of_test false u f s = f s

  pub others_removed : (es : List (ℕ × Vec Held Y)) (q : ℕ) → AreOwn es → q ≢ pid → own q (listed (held_in (remove_entry (is_at (nat_cmp pid)) es))) ≡ own q (listed (held_in es))
  others_removed [] q o n = refl
  others_removed (x ∷ es) q o n = of_test (is_at (nat_cmp pid) x.0) refl (others_removed es q o.1 n)
    where
      of_test : (b : Bool) → is_at (nat_cmp pid) x.0 ≡ b → own q (listed (held_in (remove_entry (is_at (nat_cmp pid)) es))) ≡ own q (listed (held_in es))
          → own q (listed (held_in (cond b es (x ∷ remove_entry (is_at (nat_cmp pid)) es)))) ≡ own q (listed (x.1.items ++ held_in es))
      of_test true u f =
          let same : pid ≡ x.0 = eqb-true pid x.0 (key_is pid x.0 true u) in
          ap (λ ds. ds ++ own q (listed (held_in es))) (sym (own_of_other q x.0 (listed x.1.items) o.0 (λ s. n (s ∙ sym same)))) ∙ sym (tables_listed x es q)
      of_test false u f = tables_listed x (remove_entry (is_at (nat_cmp pid)) es) q ∙ ap (λ ds. own q (listed x.1.items) ++ ds) f ∙ sym (tables_listed x es q)

  pub own_removed : (es : List (ℕ × Vec Held Y)) → AreOwn es → AreOwn (remove_entry (is_at (nat_cmp pid)) es)
  own_removed [] o = tt
  own_removed (x ∷ es) o = of_test (is_at (nat_cmp pid) x.0) (own_removed es o.1)
    where
      of_test : (b : Bool) → AreOwn (remove_entry (is_at (nat_cmp pid)) es) → AreOwn (cond b es (x ∷ remove_entry (is_at (nat_cmp pid)) es))
      of_test true f = o.1
      of_test false f = (o.0, f)

  pub split_tables : (es : List (ℕ × Vec Held Y)) (t : Vec Held Y) → AreOwn es → IsStrictlySortedBy nat_cmp (keys_of es) → lookup (is_at (nat_cmp pid)) es ≡ Some t
      → SameTables (listed (held_in (remove_entry (is_at (nat_cmp pid)) es) ++ t.items)) (listed (held_in es))
  split_tables es t o sorted e q =
      ap (λ ds. own q ds) (listed_append (held_in (remove_entry (is_at (nat_cmp pid)) es)) t.items) ∙ own_append q (listed (held_in (remove_entry (is_at (nat_cmp pid)) es))) (listed t.items) ∙ of_test (q == pid) refl
    where
      of_test : (b : Bool) → (q == pid) ≡ b → own q (listed (held_in (remove_entry (is_at (nat_cmp pid)) es))) ++ own q (listed t.items) ≡ own q (listed (held_in es))
      of_test true u =
          subst (λ k. own k (listed (held_in (remove_entry (is_at (nat_cmp pid)) es))) ++ own k (listed t.items) ≡ own k (listed (held_in es))) (sym (eqb-true q pid u))
          (ap (λ ds. ds ++ own pid (listed t.items)) (none_elsewhere es o sorted) ∙ own_at es t o e ∙ sym (own_found es t o sorted e))
      of_test false u =
          let n : q ≢ pid = apart q pid u in
          ap (λ ds. own q (listed (held_in (remove_entry (is_at (nat_cmp pid)) es))) ++ ds) (own_of_other q pid (listed t.items) (own_at es t o e) n)
          ∙ nil_right (own q (listed (held_in (remove_entry (is_at (nat_cmp pid)) es)))) ∙ others_removed es q o n

  -- the tables before and after one of them was changed
  pub record OneTable (es es' : List (ℕ × Vec Held Y)) (t w : Vec Held Y) : Type 0 where
    pub found : lookup (is_at (nat_cmp pid)) es ≡ Some t
    pub now : es' ≡ set_value (is_at (nat_cmp pid)) es w
    pub sorted : IsStrictlySortedBy nat_cmp (keys_of es)
    pub sorted' : IsStrictlySortedBy nat_cmp (keys_of es')

  module _ (es es' : List (ℕ × Vec Held Y)) (t w : Vec Held Y) (one : OneTable es es' t w) where
    still_own : (f : List Descriptor → List Descriptor) → ((ds : List Descriptor) → own pid (f ds) ≡ f (own pid ds)) → AreOwn es → listed w.items ≡ f (listed t.items) → own pid (listed w.items) ≡ listed w.items
    still_own f mine o e = ap (λ ds. own pid ds) e ∙ mine (listed t.items) ∙ ap (λ ds. f ds) (own_at es t o one.found) ∙ sym e

    pub one_own : (f : List Descriptor → List Descriptor) → ((ds : List Descriptor) → own pid (f ds) ≡ f (own pid ds)) → listed w.items ≡ f (listed t.items) → AreOwn es → AreOwn es'
    one_own f mine e o = subst (λ zs. AreOwn zs) (sym one.now) (own_set es w (still_own f mine o e) o)

    pub one_listed : (f : List Descriptor → List Descriptor) → ((ds : List Descriptor) → own pid (f ds) ≡ f (own pid ds)) → listed w.items ≡ f (listed t.items) → AreOwn es → Changes pid (held_in es) (held_in es') (f (own pid (listed (held_in es))))
    one_listed f mine e o =
        subst (λ zs. Changes pid (held_in es) (held_in zs) (f (own pid (listed (held_in es))))) (sym one.now)
        (subst (λ ds. Changes pid (held_in es) (held_in (set_value (is_at (nat_cmp pid)) es w)) ds) (e ∙ ap (λ ds. f ds) (sym (own_found es t o one.sorted one.found)))
        (changes_set es t w o one.sorted (subst (λ zs. IsStrictlySortedBy nat_cmp (keys_of zs)) one.now one.sorted') one.found (still_own f mine o e)))

    pub one_counted : (entries entries' : Slab Entry) → ((more : List Held) → IsCounted entries (more ++ t.items) → IsCounted entries' (more ++ w.items)) → IsCounted entries (held_in es) → IsCounted entries' (held_in es')
    one_counted entries entries' f c = subst (λ zs. IsCounted entries' (held_in zs)) (sym one.now) (counted_set es t w entries entries' one.found f c)

    pub one_linked : (entries entries' : Slab Entry) (ds ds' : List Description) → ((more : List Held) → IsCounted entries (more ++ t.items) → Linked (more ++ t.items) entries ds → Linked (more ++ w.items) entries' ds')
        → IsCounted entries (held_in es) → Linked (held_in es) entries ds → Linked (held_in es') entries' ds'
    one_linked entries entries' ds ds' f c l = subst (λ zs. Linked (held_in zs) entries' ds') (sym one.now) (linked_set es t w entries entries' ds ds' one.found f c l)

    -- the same, where something is known of the other descriptors
    pub one_counted_rest : (entries entries' : Slab Entry) → (IsCounted entries (held_in (remove_entry (is_at (nat_cmp pid)) es) ++ t.items) → IsCounted entries' (held_in (remove_entry (is_at (nat_cmp pid)) es) ++ w.items)) → IsCounted entries (held_in es) → IsCounted entries' (held_in es')
    one_counted_rest entries entries' f c =
        let rest = held_in (remove_entry (is_at (nat_cmp pid)) es) in
        let after : SameHeld (held_in (set_value (is_at (nat_cmp pid)) es w)) (rest ++ w.items) = subst (λ zs. SameHeld (held_in (set_value (is_at (nat_cmp pid)) es w)) (held_in zs ++ w.items)) (set_removed es w) (split_at (set_value (is_at (nat_cmp pid)) es w) w (set_found es t w one.found)) in
        subst (λ zs. IsCounted entries' (held_in zs)) (sym one.now)
        (counted_by (rest ++ w.items) (held_in (set_value (is_at (nat_cmp pid)) es w)) entries' (turned (held_in (set_value (is_at (nat_cmp pid)) es w)) (rest ++ w.items) after) (f (counted_by (held_in es) (rest ++ t.items) entries (split_at es t one.found) c)))

    pub one_linked_rest : (entries entries' : Slab Entry) (ds ds' : List Description)
        → (IsCounted entries (held_in (remove_entry (is_at (nat_cmp pid)) es) ++ t.items) → Linked (held_in (remove_entry (is_at (nat_cmp pid)) es) ++ t.items) entries ds → Linked (held_in (remove_entry (is_at (nat_cmp pid)) es) ++ w.items) entries' ds')
        → IsCounted entries (held_in es) → Linked (held_in es) entries ds → Linked (held_in es') entries' ds'
    one_linked_rest entries entries' ds ds' f c l =
        let rest = held_in (remove_entry (is_at (nat_cmp pid)) es) in
        let after : SameHeld (held_in (set_value (is_at (nat_cmp pid)) es w)) (rest ++ w.items) = subst (λ zs. SameHeld (held_in (set_value (is_at (nat_cmp pid)) es w)) (held_in zs ++ w.items)) (set_removed es w) (split_at (set_value (is_at (nat_cmp pid)) es w) w (set_found es t w one.found)) in
        subst (λ zs. Linked (held_in zs) entries' ds') (sym one.now)
        (linked_by (rest ++ w.items) (held_in (set_value (is_at (nat_cmp pid)) es w)) entries' ds' (turned (held_in (set_value (is_at (nat_cmp pid)) es w)) (rest ++ w.items) after)
        (f (counted_by (held_in es) (rest ++ t.items) entries (split_at es t one.found) c) (linked_by (held_in es) (rest ++ t.items) entries ds (split_at es t one.found) l)))

    pub one_linked_only : (entries : Slab Entry) (ds : List Description) → ((more : List Held) → Linked (more ++ t.items) entries ds → Linked (more ++ w.items) entries ds) → Linked (held_in es) entries ds → Linked (held_in es') entries ds
    one_linked_only entries ds f l =
        let rest = held_in (remove_entry (is_at (nat_cmp pid)) es) in
        let after : SameHeld (held_in (set_value (is_at (nat_cmp pid)) es w)) (rest ++ w.items) = subst (λ zs. SameHeld (held_in (set_value (is_at (nat_cmp pid)) es w)) (held_in zs ++ w.items)) (set_removed es w) (split_at (set_value (is_at (nat_cmp pid)) es w) w (set_found es t w one.found)) in
        subst (λ zs. Linked (held_in zs) entries ds) (sym one.now)
        (linked_by (rest ++ w.items) (held_in (set_value (is_at (nat_cmp pid)) es w)) entries ds (turned (held_in (set_value (is_at (nat_cmp pid)) es w)) (rest ++ w.items) after)
        (f rest (linked_by (held_in es) (rest ++ t.items) entries ds (split_at es t one.found) l)))

    -- what is asked of all other descriptors beside the table
    pub rest_none : AreOwn es → NoneOf pid (held_in (remove_entry (is_at (nat_cmp pid)) es))
    rest_none o = none_of pid (held_in (remove_entry (is_at (nat_cmp pid)) es)) (none_elsewhere es o one.sorted)

    pub rest_counted : (entries : Slab Entry) → IsCounted entries (held_in es) → IsCounted entries (held_in (remove_entry (is_at (nat_cmp pid)) es) ++ t.items)
    rest_counted entries c = counted_by (held_in es) (held_in (remove_entry (is_at (nat_cmp pid)) es) ++ t.items) entries (split_at es t one.found) c

    pub rest_linked : (entries : Slab Entry) (ds : List Description) → Linked (held_in es) entries ds → Linked (held_in (remove_entry (is_at (nat_cmp pid)) es) ++ t.items) entries ds
    rest_linked entries ds l = linked_by (held_in es) (held_in (remove_entry (is_at (nat_cmp pid)) es) ++ t.items) entries ds (split_at es t one.found) l

    pub one_pipes : (closing : Closing) (entries : Slab Entry) (pipes pipes' : List (ℕ × PipeState)) (ds ds' : List Description) (ps : Pipes)
        → ((more : List Held) → NoneOf pid more → IsCounted entries (more ++ t.items) → Linked (more ++ t.items) entries ds → PipesAgree pipes' (pipes_left pid closing (listed (more ++ t.items)) ds' ps))
        → AreOwn es → IsCounted entries (held_in es) → Linked (held_in es) entries ds → PipesAgree pipes' (pipes_left pid closing (listed (held_in es)) ds' ps)
    one_pipes closing entries pipes pipes' ds ds' ps f o c l p =
        f (held_in (remove_entry (is_at (nat_cmp pid)) es)) (rest_none o) (rest_counted entries c) (rest_linked entries ds l) p
        ∙ pipes_same pid closing (listed (held_in (remove_entry (is_at (nat_cmp pid)) es) ++ t.items)) (listed (held_in es)) ds' ps ps p (split_tables es t o one.sorted one.found) refl

    pub one_ends : (from to k : ℕ) (entries : Slab Entry) (pipes' : List (ℕ × PipeState)) (ds ds' : List Description) (ps : Pipes)
        → ((more : List Held) → NoneOf pid more → IsCounted entries (more ++ t.items) → Linked (more ++ t.items) entries ds → PipesAgree pipes' (ends_pipes pid from to k (listed (more ++ t.items)) ds' ps))
        → AreOwn es → IsCounted entries (held_in es) → Linked (held_in es) entries ds → PipesAgree pipes' (ends_pipes pid from to k (listed (held_in es)) ds' ps)
    one_ends from to k entries pipes' ds ds' ps f o c l p =
        let rest = held_in (remove_entry (is_at (nat_cmp pid)) es) in
        let same = split_tables es t o one.sorted one.found in
        f rest (rest_none o) (rest_counted entries c) (rest_linked entries ds l) p
        ∙ pipes_same pid (Named (Number to)) (with_given pid from k (listed (rest ++ t.items))) (with_given pid from k (listed (held_in es))) ds' _ _ p (with_same pid from k (listed (rest ++ t.items)) (listed (held_in es)) same)
        (pipes_same pid (Named (Number from)) (listed (rest ++ t.items)) (listed (held_in es)) ds' ps ps p same refl)

-- ---- a process without descriptors
pub none_changes : (pid : ℕ) (hs : List Held) (table : List Descriptor) → table ≡ [] → own pid (listed hs) ≡ [] → Changes pid hs hs table
none_changes pid hs table e n = record { its = n ∙ sym e; others = λ q m. refl }

pub none_goes : (pid : ℕ) (closing : Closing) (hs : List Held) (pipes : List (ℕ × PipeState)) (es : List Description) (ps : Pipes) → own pid (listed hs) ≡ [] → PipesAgree pipes ps → PipesAgree pipes (pipes_left pid closing (listed hs) es ps)
none_goes pid closing hs pipes es ps n agree p =
    agree p
    ∙ sym (ap (λ b. cond (b && not (is_held pid closing (listed hs) es p)) None (pipe_made ps p)) (any_listed (closed_end pid closing es p) hs ∙ none_closed pid closing es p hs (none_of pid hs n)))
    ∙ sym (made_left pid closing (listed hs) (listed hs) es ps p)

-- a descriptor of the tables that isn't closed is left
left_in : (pid : ℕ) (closing : Closing) (hs : List Held) (h : Held) → Among h hs → counts.stays pid closing h ≡ true → Among h (counts.held_left pid closing hs)
left_in pid closing [] h a s = a
left_in pid closing (g ∷ hs) h a s = of_test (counts.stays pid closing g) refl (left_in pid closing hs h) a
  where
    of_test : (b : Bool) → counts.stays pid closing g ≡ b → (Among h hs → counts.stays pid closing h ≡ true → Among h (counts.held_left pid closing hs)) → Among h (g ∷ hs) → Among h (cond b (g ∷ counts.held_left pid closing hs) (counts.held_left pid closing hs))
    of_test true t f (inl e) = inl e
    of_test true t f (inr b) = inr (f b s)
    of_test false t f (inl e) = let u : true ≡ false = sym s ∙ ap (λ x. counts.stays pid closing x) (sym e) ∙ t in absurd (cc)
    of_test false t f (inr b) = f b s

pub among_left : (pid : ℕ) (closing : Closing) (all rest hs : List Held) (h : Held) → SameHeld all (rest ++ hs) → Among h all → counts.stays pid closing h ≡ true → Among h (rest ++ counts.held_left pid closing hs)
among_left pid closing all rest hs h same a s = of_side (among_append rest hs h (same.front h a))
  where
    of_side : Among h rest ⊎ Among h hs → Among h (rest ++ counts.held_left pid closing hs)
    of_side (inl b) = in_front rest (counts.held_left pid closing hs) h b
    of_side (inr b) = in_rest rest (counts.held_left pid closing hs) h (left_in pid closing hs h b s)

-- ---- what is found in a list
none_found : (pid : ℕ) (name : DescriptorRef) (hs : List Held) → own pid (listed hs) ≡ [] → counts.find hs pid name ≡ None
none_found pid name [] e = refl
none_found pid name (h ∷ hs) e = of_test (h.descriptor.pid == pid) refl (none_found pid name hs) e
  where
    of_test : (b : Bool) → (h.descriptor.pid == pid) ≡ b → (own pid (listed hs) ≡ [] → counts.find hs pid name ≡ None) → cond b (h.descriptor ∷ own pid (listed hs)) (own pid (listed hs)) ≡ [] → counts.find (h ∷ hs) pid name ≡ None
    of_test true t f s = absurd (cc)
    of_test false t f s = ap (λ b. option_map (λ (g : Held). g) (cond (b && is_called name h.descriptor) (Some h) (find (counts.is_of_name pid name) hs))) t ∙ f s

found_append : (pid : ℕ) (name : DescriptorRef) (xs ys : List Held) → counts.find ys pid name ≡ None → counts.find (xs ++ ys) pid name ≡ counts.find xs pid name
found_append pid name [] ys e = e
found_append pid name (x ∷ xs) ys e = of_test (counts.is_of_name pid name x) (found_append pid name xs ys e)
  where
    of_test : (b : Bool) → counts.find (xs ++ ys) pid name ≡ counts.find xs pid name → option_map (λ (g : Held). g) (cond b (Some x) (find (counts.is_of_name pid name) (xs ++ ys))) ≡ option_map (λ (g : Held). g) (cond b (Some x) (find (counts.is_of_name pid name) xs))
    of_test true f = refl
    of_test false f = f

found_behind : (pid : ℕ) (name : DescriptorRef) (xs ys : List Held) → counts.find xs pid name ≡ None → counts.find (xs ++ ys) pid name ≡ counts.find ys pid name
found_behind pid name [] ys e = refl
found_behind pid name (x ∷ xs) ys e = of_test (counts.is_of_name pid name x) (found_behind pid name xs ys) e
  where
    of_test : (b : Bool) → (counts.find xs pid name ≡ None → counts.find (xs ++ ys) pid name ≡ counts.find ys pid name) → option_map (λ (g : Held). g) (cond b (Some x) (find (counts.is_of_name pid name) xs)) ≡ None
        → option_map (λ (g : Held). g) (cond b (Some x) (find (counts.is_of_name pid name) (xs ++ ys))) ≡ counts.find ys pid name
    of_test true f s = absurd (cc)
    of_test false f s = f s

-- ---- a table with the same descriptors
module _ {Y : Type 0} (pid : ℕ) where
  pub same_held : (es : List (ℕ × Vec Held Y)) (t w : Vec Held Y) → lookup (is_at (nat_cmp pid)) es ≡ Some t → w.items ≡ t.items → held_in (set_value (is_at (nat_cmp pid)) es w) ≡ held_in es
  same_held [] t w e s = refl
  same_held (x ∷ es) t w e s = of_test (is_at (nat_cmp pid) x.0) (same_held es t w) e
    where
      of_test : (b : Bool) → (lookup (is_at (nat_cmp pid)) es ≡ Some t → w.items ≡ t.items → held_in (set_value (is_at (nat_cmp pid)) es w) ≡ held_in es) → cond b (Some x.1) (lookup (is_at (nat_cmp pid)) es) ≡ Some t
          → held_in (cond b ((x.0, w) ∷ es) (x ∷ set_value (is_at (nat_cmp pid)) es w)) ≡ x.1.items ++ held_in es
      of_test true f u = let v : x.1 ≡ t = cc in ap (λ hs. hs ++ held_in es) (s ∙ ap (λ (y : Vec Held Y). y.items) (sym v))
      of_test false f u = ap (λ hs. x.1.items ++ hs) (f u s)

  pub empty_held : (es : List (ℕ × Vec Held Y)) (w : Vec Held Y) → w.items ≡ [] → lookup (is_at (nat_cmp pid)) es ≡ None → held_in (insert_entry nat_cmp es pid w) ≡ held_in es
  empty_held [] w s e = ap (λ hs. hs ++ []) s
  empty_held (x ∷ es) w s e = of_order (nat_cmp pid x.0) refl e (empty_held es w s)
    where
      of_order : (o : Ordering) → nat_cmp pid x.0 ≡ o → cond (is_eq o) (Some x.1) (lookup (is_at (nat_cmp pid)) es) ≡ None → (lookup (is_at (nat_cmp pid)) es ≡ None → held_in (insert_entry nat_cmp es pid w) ≡ held_in es)
          → held_in (match_ordering o ((pid, w) ∷ x ∷ es) ((x.0, w) ∷ es) (x ∷ insert_entry nat_cmp es pid w)) ≡ x.1.items ++ held_in es
      of_order Less t u f = ap (λ hs. hs ++ (x.1.items ++ held_in es)) s
      of_order Equal t u f = absurd (cc)
      of_order Greater t u f = ap (λ hs. x.1.items ++ hs) (f u)

  pub empty_own : (es : List (ℕ × Vec Held Y)) (w : Vec Held Y) → w.items ≡ [] → lookup (is_at (nat_cmp pid)) es ≡ None → AreOwn es → AreOwn (insert_entry nat_cmp es pid w)
  empty_own [] w s e o = (ap (λ hs. own pid (listed hs)) s ∙ sym (ap (λ hs. listed hs) s), tt)
  empty_own (x ∷ es) w s e o = of_order (nat_cmp pid x.0) refl e (empty_own es w s)
    where
      of_order : (r : Ordering) → nat_cmp pid x.0 ≡ r → cond (is_eq r) (Some x.1) (lookup (is_at (nat_cmp pid)) es) ≡ None → (lookup (is_at (nat_cmp pid)) es ≡ None → AreOwn es → AreOwn (insert_entry nat_cmp es pid w))
          → AreOwn (match_ordering r ((pid, w) ∷ x ∷ es) ((x.0, w) ∷ es) (x ∷ insert_entry nat_cmp es pid w))
      of_order Less t u f = (ap (λ hs. own pid (listed hs)) s ∙ sym (ap (λ hs. listed hs) s), o)
      of_order Equal t u f = absurd (cc)
      of_order Greater t u f = (o.0, f u o.1)

  -- ---- what is found
  pub find_table : (name : DescriptorRef) (es : List (ℕ × Vec Held Y)) (t : Vec Held Y) → AreOwn es → IsStrictlySortedBy nat_cmp (keys_of es) → lookup (is_at (nat_cmp pid)) es ≡ Some t → counts.find t.items pid name ≡ counts.find (held_in es) pid name
  find_table name [] t o sorted e = absurd (cc)
  find_table name (x ∷ es) t o sorted e = of_test (is_at (nat_cmp pid) x.0) refl (find_table name es t o.1 (sorted_tail nat_cmp x.0 (keys_of es) sorted)) e
    where
      of_test : (b : Bool) → is_at (nat_cmp pid) x.0 ≡ b → (lookup (is_at (nat_cmp pid)) es ≡ Some t → counts.find t.items pid name ≡ counts.find (held_in es) pid name) → cond b (Some x.1) (lookup (is_at (nat_cmp pid)) es) ≡ Some t
          → counts.find t.items pid name ≡ counts.find (x.1.items ++ held_in es) pid name
      of_test true u f s =
          let v : t ≡ x.1 = cc in
          let above = none_above pid es o.1 (subst (λ j. AllByRecursion (λ k. nat_cmp j k ≡ Less) (keys_of es)) (sym (eqb-true pid x.0 (key_is pid x.0 true u))) (sorted_head nat_cmp x.0 (keys_of es) sorted)) in
          ap (λ (y : Vec Held Y). counts.find y.items pid name) v ∙ sym (found_append pid name x.1.items (held_in es) (none_found pid name (held_in es) above))
      of_test false u f s = f s ∙ sym (found_behind pid name x.1.items (held_in es) (none_found pid name x.1.items (own_of_other pid x.0 (listed x.1.items) o.0 (apart_key pid x.0 u))))

  pub find_nothing : (name : DescriptorRef) (es : List (ℕ × Vec Held Y)) → AreOwn es → lookup (is_at (nat_cmp pid)) es ≡ None → None ≡ counts.find (held_in es) pid name
  find_nothing name es o e = sym (none_found pid name (held_in es) (own_missing pid es o e))

-- ---- all descriptors of a process go
all_go : (pid : ℕ) (ds : List Descriptor) → descriptors_left pid All (own pid ds) ≡ []
all_go pid [] = refl
all_go pid (d ∷ ds) = of_test (d.pid == pid) refl (all_go pid ds)
  where
    of_test : (b : Bool) → (d.pid == pid) ≡ b → descriptors_left pid All (own pid ds) ≡ [] → descriptors_left pid All (cond b (d ∷ own pid ds) (own pid ds)) ≡ []
    of_test true t e = ap (λ x. cond (not x) (d ∷ descriptors_left pid All (own pid ds)) (descriptors_left pid All (own pid ds))) t ∙ e
    of_test false t e = e

nothing_listed : (hs : List Held) → listed hs ≡ [] → hs ≡ []
nothing_listed [] e = refl
nothing_listed (h ∷ hs) e = absurd (cc)

nil_held : (hs : List Held) → hs ++ [] ≡ hs
nil_held [] = refl
nil_held (h ∷ hs) = ap (λ xs. h ∷ xs) (nil_held hs)

module _ {Y : Type 0} (pid : ℕ) (es : List (ℕ × Vec Held Y)) (t : Vec Held Y) (left : List Held) (o : AreOwn es) (found : lookup (is_at (nat_cmp pid)) es ≡ Some t) (is : listed left ≡ descriptors_left pid All (listed t.items)) where
  nothing_left : held_in (remove_entry (is_at (nat_cmp pid)) es) ++ left ≡ held_in (remove_entry (is_at (nat_cmp pid)) es)
  nothing_left =
      ap (λ hs. held_in (remove_entry (is_at (nat_cmp pid)) es) ++ hs) (nothing_listed left (is ∙ ap (λ ds. descriptors_left pid All ds) (sym (own_at pid es t o found)) ∙ all_go pid (listed t.items)))
      ∙ nil_held (held_in (remove_entry (is_at (nat_cmp pid)) es))

  pub ended_counted : (entries entries' : Slab Entry) → ((more : List Held) → IsCounted entries (more ++ t.items) → IsCounted entries' (more ++ left)) → IsCounted entries (held_in es) → IsCounted entries' (held_in (remove_entry (is_at (nat_cmp pid)) es))
  ended_counted entries entries' f c =
      let rest = held_in (remove_entry (is_at (nat_cmp pid)) es) in subst (λ hs. IsCounted entries' hs) nothing_left (f rest (counted_by (held_in es) (rest ++ t.items) entries (split_at pid es t found) c))

  pub ended_linked : (entries entries' : Slab Entry) (ds : List Description) → ((more : List Held) → IsCounted entries (more ++ t.items) → Linked (more ++ t.items) entries ds → Linked (more ++ left) entries' ds)
      → IsCounted entries (held_in es) → Linked (held_in es) entries ds → Linked (held_in (remove_entry (is_at (nat_cmp pid)) es)) entries' ds
  ended_linked entries entries' ds f c l =
      let rest = held_in (remove_entry (is_at (nat_cmp pid)) es) in
      subst (λ hs. Linked hs entries' ds) nothing_left (f rest (counted_by (held_in es) (rest ++ t.items) entries (split_at pid es t found) c) (linked_by (held_in es) (rest ++ t.items) entries ds (split_at pid es t found) l))

  pub ended_changes : IsStrictlySortedBy nat_cmp (keys_of es) → Changes pid (held_in es) (held_in (remove_entry (is_at (nat_cmp pid)) es)) (descriptors_left pid All (own pid (listed (held_in es))))
  ended_changes sorted = record { its = none_elsewhere pid es o sorted ∙ sym (all_go pid (listed (held_in es))); others = λ q n. others_removed pid es q o n }

  pub ended_pipes : IsStrictlySortedBy nat_cmp (keys_of es) → (entries : Slab Entry) (pipes' : List (ℕ × PipeState)) (ds : List Description) (ps : Pipes)
      → ((more : List Held) → NoneOf pid more → IsCounted entries (more ++ t.items) → Linked (more ++ t.items) entries ds → PipesAgree pipes' (pipes_left pid All (listed (more ++ t.items)) ds ps))
      → IsCounted entries (held_in es) → Linked (held_in es) entries ds → PipesAgree pipes' (pipes_left pid All (listed (held_in es)) ds ps)
  ended_pipes sorted entries pipes' ds ps f c l p =
      let rest = held_in (remove_entry (is_at (nat_cmp pid)) es) in
      f rest (none_of pid rest (none_elsewhere pid es o sorted)) (counted_by (held_in es) (rest ++ t.items) entries (split_at pid es t found) c) (linked_by (held_in es) (rest ++ t.items) entries ds (split_at pid es t found) l) p
      ∙ pipes_same pid All (listed (rest ++ t.items)) (listed (held_in es)) ds ps ps p (split_tables pid es t o sorted found) refl

-- ---- more descriptors in a table
before : (xs ys zs : List Held) → SameHeld xs ys → SameHeld (xs ++ zs) (ys ++ zs)
before xs ys zs s = record {
  counts = λ k. named_append k xs zs ∙ ap (λ n. n + named k zs) (s.counts k) ∙ sym (named_append k ys zs);
  front = λ h a. of_side xs ys s.front h (among_append xs zs h a);
  back = λ h a. of_side ys xs s.back h (among_append ys zs h a);
}
  where
    of_side : (hs is : List Held) → Within hs is → (h : Held) → Among h hs ⊎ Among h zs → Among h (is ++ zs)
    of_side hs is f h (inl a) = in_front is zs h (f h a)
    of_side hs is f h (inr a) = in_rest is zs h a

joined : (xs ys zs : List Held) → SameHeld xs ys → SameHeld ys zs → SameHeld xs zs
joined xs ys zs s r = record { counts = λ k. s.counts k ∙ r.counts k; front = λ h a. r.front h (s.front h a); back = λ h a. s.back h (r.back h a) }

module _ {Y : Type 0} (pid : ℕ) (es es' : List (ℕ × Vec Held Y)) (t w : Vec Held Y) (one : OneTable pid es es' t w) (more : List Held) (e : w.items ≡ t.items ++ more) where
  pub longer_same : SameHeld (held_in es ++ more) (held_in es')
  longer_same =
      let rest = held_in (remove_entry (is_at (nat_cmp pid)) es) in
      let after : SameHeld (held_in (set_value (is_at (nat_cmp pid)) es w)) (rest ++ w.items) = subst (λ zs. SameHeld (held_in (set_value (is_at (nat_cmp pid)) es w)) (held_in zs ++ w.items)) (set_removed pid es w) (split_at pid (set_value (is_at (nat_cmp pid)) es w) w (set_found pid es t w one.found)) in
      let front : SameHeld (held_in es ++ more) (rest ++ w.items) = subst (λ zs. SameHeld (held_in es ++ more) zs) (append_assoc rest t.items more ∙ ap (λ zs. rest ++ zs) (sym e)) (before (held_in es) (rest ++ t.items) more (split_at pid es t one.found)) in
      subst (λ zs. SameHeld (held_in es ++ more) (held_in zs)) (sym one.now) (joined (held_in es ++ more) (rest ++ w.items) (held_in (set_value (is_at (nat_cmp pid)) es w)) front (turned (held_in (set_value (is_at (nat_cmp pid)) es w)) (rest ++ w.items) after))

  pub longer_listed : listed w.items ≡ listed t.items ++ listed more
  longer_listed = ap (λ hs. listed hs) e ∙ listed_append t.items more

pub own_longer : (pid : ℕ) (more : List Descriptor) → own pid more ≡ more → (ds : List Descriptor) → own pid (ds ++ more) ≡ own pid ds ++ more
own_longer pid more e ds = own_append pid ds more ∙ ap (λ xs. own pid ds ++ xs) e

pub within_all : {Y : Type 0} (pid : ℕ) (es : List (ℕ × Vec Held Y)) (t : Vec Held Y) → lookup (is_at (nat_cmp pid)) es ≡ Some t → Within t.items (held_in es)
within_all pid es t e h a = (split_at pid es t e).back h (in_rest (held_in (remove_entry (is_at (nat_cmp pid)) es)) t.items h a)

-- ---- results
pub on_ok_if : {A E : Type 0} (r : Result A E) (P : Type 0) → (is_ok r ≡ true → P) → OnOk r P
on_ok_if (Ok a) P f = f refl
on_ok_if (Err e) P f = tt

pub on_err_if : {A E : Type 0} (r : Result A E) (P : Type 0) → (is_ok r ≡ false → P) → OnErr r P
on_err_if (Ok a) P f = tt
on_err_if (Err e) P f = f refl

pub either_way : {A E : Type 0} (r : Result A E) (X Z P : Type 0) → OnOk r X → OnErr r Z → (X → P) → (Z → P) → P
either_way (Ok a) X Z P x z f g = f x
either_way (Err e) X Z P x z f g = g z

pub nothing_there : {X : Type 0} (o : Option X) → false ≡ is_some o → o ≡ None
nothing_there None e = refl
nothing_there (Some x) e = absurd (cc)

pub on_err_weaker : {A E : Type 0} (r : Result A E) {P Q : Type 0} → (P → Q) → OnErr r P → OnErr r Q
on_err_weaker (Ok a) f p = tt
on_err_weaker (Err e) f p = f p

-- ---- a fork
pub copied_listed : (all : List Held) (pid child : ℕ) (copied : List Held) → CopiesOf all pid child copied → (listed copied ≡ fork_copies.copies (own pid (listed all)) pid child) × (own child (listed copied) ≡ listed copied)
copied_listed all pid child copied c =
    let e : listed copied ≡ fork_copies.copies (own pid (listed all)) pid child = ap (λ hs. listed hs) c.1 ∙ copies_listed c.0 pid child ∙ ap (λ ds. fork_copies.copies ds pid child) c.2 in
    (e, ap (λ ds. own child ds) e ∙ copies_of_child pid child (own pid (listed all)) ∙ sym e)

pub forked_changes : (child : ℕ) (old mid new : List Held) (more copies : List Descriptor) → mid ≡ old → more ≡ copies → Changes child mid new (own child (listed mid) ++ more) → Changes child old new (own child (listed old) ++ copies)
forked_changes child old mid new more copies e f c = subst (λ ds. Changes child old new (own child (listed old) ++ ds)) f (subst (λ hs. Changes child hs new (own child (listed hs) ++ more)) e c)
