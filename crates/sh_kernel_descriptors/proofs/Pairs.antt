-- The two ends of a pipe, which have each other's keys.
use Rattle.std.proofs.Common.{◌≡◌, ◌≢◌, ◌⊎◌, ℕ, zero, suc, ◌+◌, ◌<◌, List, [], ◌∷◌, Bool, true, false, ◌||◌, ◌==◌, cond, Option, Some, None, nat_le, refl, sym, ap, ◌∙◌, inl, inr, arith, subst, ◌-◌}
use Rattle.std.proofs.lemmas.Bool.{eqb-true}
use Rattle.std.specs.List.{list_any}
use Rattle.std.specs.Option.{option_and_then, option_map, option_map_or}
use Rattle.slab.specs.Slab.{Slab, Updates, get}
use Rattle.sh_kernel_descriptors.specs.Closings.{pipe_of}
use Rattle.sh_kernel_descriptors.specs.Counts as counts
use Rattle.sh_kernel_descriptors.specs.Counts.{closes, joined, lowered, moved, raised, released, shared}
use Rattle.sh_kernel_descriptors.specs.Descriptors as names
use Rattle.sh_kernel_descriptors.specs.Gone.{Added}
use Rattle.sh_kernel_descriptors.specs.declared.descriptor.Closing.TheVariants.{Named}
use Rattle.sh_kernel_descriptors.specs.declared.descriptor.DescriptorRef.TheVariants.{Number}
use Rattle.sh_kernel_descriptors.proofs.Leaving.{Thins, released_thins}
use Rattle.sh_kernel_descriptors.specs.Kept.{Among, IsCounted, IsPaired, Linked, count_of, description_at, end_at, listed, named, other_at, target_at}
use Rattle.sh_kernel_descriptors.specs.declared.descriptor.Closing.{Closing}
use Rattle.sh_kernel_descriptors.specs.declared.description.Description.{Description}
use Rattle.sh_kernel_descriptors.specs.declared.description.Target.{Target}
use Rattle.sh_kernel_descriptors.specs.declared.description.Target.TheVariants.{File, Terminal, Null, ReadEnd, WriteEnd}
use Rattle.sh_kernel_descriptors.specs.declared.kept.Entry.{Entry}
use Rattle.sh_kernel_descriptors.specs.declared.kept.Held.{Held}
use Rattle.sh_kernel_descriptors.proofs.Ends.{readers, writers}
use Rattle.sh_kernel_descriptors.proofs.Places.{apart}

-- ---- ends that stay
abbrev pub End : Type 0
End = Target × Option ℕ

abbrev pub end_in : Option Entry → Option End
end_in o = option_map (λ e. (e.description.target, e.other)) o

-- what is there is no end of a pipe, or it is as it was
abbrev pub Tame : Option End → Option End → Type 0
Tame x y = ((t : Target) (o : Option ℕ) → y ≡ Some (t, o) → pipe_of t ≡ None) ⊎ (y ≡ x)

back : (x y : Option End) (t : Target) (o : Option ℕ) (p : ℕ) → Tame x y → y ≡ Some (t, o) → pipe_of t ≡ Some p → x ≡ Some (t, o)
back x y t o p (inl n) e q = let f : None ≡ Some p = sym (n t o e) ∙ q in absurd (cc)
back x y t o p (inr s) e q = sym s ∙ e

still_paired : (made : ℕ) (entries entries' : Slab Entry) → ((k : ℕ) → Tame (end_at entries k) (end_at entries' k)) → IsPaired made entries → IsPaired made entries'
still_paired made entries entries' same pair = record {
  keys = λ p k j o o' r w. pair.keys p k j o o' (back (end_at entries k) (end_at entries' k) (ReadEnd p) o p (same k) r refl) (back (end_at entries j) (end_at entries' j) (WriteEnd p) o' p (same j) w refl);
  reads = λ p k j o o' r w. pair.reads p k j o o' (back (end_at entries k) (end_at entries' k) (ReadEnd p) o p (same k) r refl) (back (end_at entries j) (end_at entries' j) (ReadEnd p) o' p (same j) w refl);
  writes = λ p k j o o' r w. pair.writes p k j o o' (back (end_at entries k) (end_at entries' k) (WriteEnd p) o p (same k) r refl) (back (end_at entries j) (end_at entries' j) (WriteEnd p) o' p (same j) w refl);
  numbers = λ p k t o e q. pair.numbers p k t o (back (end_at entries k) (end_at entries' k) t o p (same k) e q) q;
}

gone : (x y : Option End) → y ≡ None → Tame x y
gone x y e = inl (λ t o f. let g : None ≡ Some (t, o) = sym e ∙ f in absurd (cc))

and_then : (x y z : Option End) → Tame x y → Tame y z → Tame x z
and_then x y z a (inl n) = inl n
and_then x y z (inl n) (inr s) = inl (λ t o f. n t o (sym s ∙ f))
and_then x y z (inr r) (inr s) = inr (s ∙ r)

-- ---- closing
lowers : (o : Option Entry) → Tame (end_in o) (end_in (lowered o))
lowers None = inr refl
lowers (Some e) = of_test (nat_le e.count 1)
  where
    of_test : (b : Bool) → Tame (end_in (Some e)) (end_in (cond b None (Some (record e { count = e.count - 1 }))))
    of_test true = gone (end_in (Some e)) None refl
    of_test false = inr refl

releases : (pid : ℕ) (closing : Closing) (k : ℕ) (hs : List Held) (o : Option Entry) → Tame (end_in o) (end_in (released pid closing k hs o))
releases pid closing k [] o = inr refl
releases pid closing k (h ∷ hs) o = of_test (closes pid closing k h) (releases pid closing k hs)
  where
    of_test : (b : Bool) → ((a : Option Entry) → Tame (end_in a) (end_in (released pid closing k hs a))) → Tame (end_in o) (end_in (released pid closing k hs (cond b (lowered o) o)))
    of_test true f = and_then (end_in o) (end_in (lowered o)) (end_in (released pid closing k hs (lowered o))) (lowers o) (f (lowered o))
    of_test false f = f o

pub paired_left : (pid : ℕ) (closing : Closing) (hs : List Held) (entries entries' : Slab Entry) → ((k : ℕ) → get entries' k ≡ released pid closing k hs (get entries k)) → (made : ℕ) → IsPaired made entries → IsPaired made entries'
paired_left pid closing hs entries entries' r made pair =
    still_paired made entries entries' (λ k. subst (λ o. Tame (end_at entries k) (end_in o)) (sym (r k)) (releases pid closing k hs (get entries k))) pair

-- ---- one entry changes, but not its end
at_key : (entries entries' : Slab Entry) (key : ℕ) (change : Option Entry → Option Entry) → ((o : Option Entry) → end_in (change o) ≡ end_in o) → get entries' key ≡ change (get entries key) → ((k : ℕ) → k ≢ key → get entries' k ≡ get entries k)
    → (made : ℕ) → IsPaired made entries → IsPaired made entries'
at_key entries entries' key change same at others made pair = still_paired made entries entries' (λ k. of_test k (key == k) refl) pair
  where
    of_test : (k : ℕ) (b : Bool) → (key == k) ≡ b → Tame (end_at entries k) (end_at entries' k)
    of_test k true e = inr (subst (λ j. end_at entries' j ≡ end_at entries j) (eqb-true key k e) (ap (λ o. end_in o) at ∙ same (get entries key)))
    of_test k false e = inr (ap (λ o. end_in o) (others k (λ t. apart key k e (sym t))))

raises : (o : Option Entry) → end_in (raised o) ≡ end_in o
raises None = refl
raises (Some e) = refl

moves : (offset : ℕ) (o : Option Entry) → end_in (moved offset o) ≡ end_in o
moves offset None = refl
moves offset (Some e) = refl

pub paired_shared : (entries entries' : Slab Entry) (key : ℕ) → get entries' key ≡ raised (get entries key) → ((k : ℕ) → k ≢ key → get entries' k ≡ get entries k) → (made : ℕ) → IsPaired made entries → IsPaired made entries'
paired_shared entries entries' key at others = at_key entries entries' key (λ o. raised o) raises at others

pub paired_moved : (entries entries' : Slab Entry) (key offset : ℕ) → get entries' key ≡ moved offset (get entries key) → ((k : ℕ) → k ≢ key → get entries' k ≡ get entries k) → (made : ℕ) → IsPaired made entries → IsPaired made entries'
paired_moved entries entries' key offset at others = at_key entries entries' key (λ o. moved offset o) (moves offset) at others

-- ---- a fork
shares : (k : ℕ) (cs : List Held) (o : Option Entry) → end_in (shared k cs o) ≡ end_in o
shares k [] o = refl
shares k (x ∷ cs) o = of_test (x.key == k) (shares k cs)
  where
    of_test : (b : Bool) → ((p : Option Entry) → end_in (shared k cs p) ≡ end_in p) → end_in (shared k cs (cond b (raised o) o)) ≡ end_in o
    of_test true f = f (raised o) ∙ raises o
    of_test false f = f o

pub paired_copied : (cs : List Held) (entries entries' : Slab Entry) → ((k : ℕ) → get entries' k ≡ shared k cs (get entries k)) → (made : ℕ) → IsPaired made entries → IsPaired made entries'
paired_copied cs entries entries' r made pair =
    still_paired made entries entries' (λ k. inr (ap (λ o. end_in o) (r k) ∙ shares k cs (get entries k))) pair

-- ---- what is new
target_of : (x y : End) → Some x ≡ Some y → x.0 ≡ y.0
target_of x y e = ap (λ (o : Option End). option_map_or (λ (z : End). z.0) o x.0) e

other_of : (x y : End) → Some x ≡ Some y → x.1 ≡ y.1
other_of x y e = ap (λ (o : Option End). option_map_or (λ (z : End). z.1) o x.1) e

number_of : (s t : Target) (p q : ℕ) → s ≡ t → pipe_of s ≡ Some p → pipe_of t ≡ Some q → p ≡ q
number_of s t p q e f g = let r : Some p ≡ Some q = sym f ∙ ap (λ x. pipe_of x) e ∙ g in cc

clash : (p q : ℕ) → ReadEnd p ≡ WriteEnd q → ⊥
clash p q e = absurd (cc)

pub paired_new : (entries entries' : Slab Entry) (key : ℕ) (e : Entry) → Updates entries entries' key (Some e) → (made : ℕ) → pipe_of e.description.target ≡ None → IsPaired made entries → IsPaired made entries'
paired_new entries entries' key e u made none pair = still_paired made entries entries' (λ k. of_test k (key == k) refl) pair
  where
    of_test : (k : ℕ) (b : Bool) → (key == k) ≡ b → Tame (end_at entries k) (end_at entries' k)
    of_test k true t =
        inl (λ x o f.
        let s : get entries' k ≡ Some e = subst (λ j. get entries' j ≡ Some e) (eqb-true key k t) u.changed in
        let g : Some (e.description.target, e.other) ≡ Some (x, o) = sym (ap (λ y. end_in y) s) ∙ f in
        ap (λ y. pipe_of y) (sym (target_of (e.description.target, e.other) (x, o) g)) ∙ none)
    of_test k false t = inr (ap (λ o. end_in o) (u.others k (λ s. apart key k t (sym s))))

paired_ends : (p first second : ℕ) (entries entries' : Slab Entry)
    → ((k : ℕ) → ((k ≡ second) × (end_at entries' k ≡ Some (WriteEnd p, Some first))) ⊎ (((k ≡ first) × (end_at entries' k ≡ Some (ReadEnd p, Some second))) ⊎ Tame (end_at entries k) (end_at entries' k)))
    → IsPaired p entries → IsPaired (p + 1) entries'
paired_ends p first second entries entries' place pair = record {
  keys = λ q k j o o' r w. of_keys q k j o o' r w (place k) (place j);
  reads = λ q k j o o' r w. of_reads q k j o o' r w (place k) (place j);
  writes = λ q k j o o' r w. of_writes q k j o o' r w (place k) (place j);
  numbers = λ q k t o e f. of_number q k t o e f (place k);
}
  where
    Place : ℕ → Type 0
    Place k = ((k ≡ second) × (end_at entries' k ≡ Some (WriteEnd p, Some first))) ⊎ (((k ≡ first) × (end_at entries' k ≡ Some (ReadEnd p, Some second))) ⊎ Tame (end_at entries k) (end_at entries' k))

    older : (q k : ℕ) (t : Target) (o : Option ℕ) → Tame (end_at entries k) (end_at entries' k) → end_at entries' k ≡ Some (t, o) → pipe_of t ≡ Some q → q < p
    older q k t o s e f = pair.numbers q k t o (back (end_at entries k) (end_at entries' k) t o q s e f) f

    of_keys : (q k j : ℕ) (o o' : Option ℕ) → end_at entries' k ≡ Some (ReadEnd q, o) → end_at entries' j ≡ Some (WriteEnd q, o') → Place k → Place j → (o ≡ Some j) × (o' ≡ Some k)
    of_keys q k j o o' r w (inl a) b = absurd (clash q p (sym (target_of (WriteEnd p, Some first) (ReadEnd q, o) (sym a.1 ∙ r))))
    of_keys q k j o o' r w (inr (inl a)) (inl b) = (
      sym (other_of (ReadEnd p, Some second) (ReadEnd q, o) (sym a.1 ∙ r)) ∙ ap (λ i. Some i) (sym b.0),
      sym (other_of (WriteEnd p, Some first) (WriteEnd q, o') (sym b.1 ∙ w)) ∙ ap (λ i. Some i) (sym a.0),
    )
    of_keys q k j o o' r w (inr (inl a)) (inr (inl b)) = absurd (clash p q (target_of (ReadEnd p, Some second) (WriteEnd q, o') (sym b.1 ∙ w)))
    of_keys q k j o o' r w (inr (inl a)) (inr (inr s)) =
        let e = number_of (ReadEnd p) (ReadEnd q) p q (target_of (ReadEnd p, Some second) (ReadEnd q, o) (sym a.1 ∙ r)) refl refl in
        absurd (omega (arith, e, older q j (WriteEnd q) o' s w refl))
    of_keys q k j o o' r w (inr (inr s)) (inl b) =
        let e = number_of (WriteEnd p) (WriteEnd q) p q (target_of (WriteEnd p, Some first) (WriteEnd q, o') (sym b.1 ∙ w)) refl refl in
        absurd (omega (arith, e, older q k (ReadEnd q) o s r refl))
    of_keys q k j o o' r w (inr (inr s)) (inr (inl b)) = absurd (clash p q (target_of (ReadEnd p, Some second) (WriteEnd q, o') (sym b.1 ∙ w)))
    of_keys q k j o o' r w (inr (inr s)) (inr (inr t)) =
        pair.keys q k j o o' (back (end_at entries k) (end_at entries' k) (ReadEnd q) o q s r refl) (back (end_at entries j) (end_at entries' j) (WriteEnd q) o' q t w refl)

    of_reads : (q k j : ℕ) (o o' : Option ℕ) → end_at entries' k ≡ Some (ReadEnd q, o) → end_at entries' j ≡ Some (ReadEnd q, o') → Place k → Place j → k ≡ j
    of_reads q k j o o' r w (inl a) b = absurd (clash q p (sym (target_of (WriteEnd p, Some first) (ReadEnd q, o) (sym a.1 ∙ r))))
    of_reads q k j o o' r w (inr (inl a)) (inl b) = absurd (clash q p (sym (target_of (WriteEnd p, Some first) (ReadEnd q, o') (sym b.1 ∙ w))))
    of_reads q k j o o' r w (inr (inl a)) (inr (inl b)) = a.0 ∙ sym b.0
    of_reads q k j o o' r w (inr (inl a)) (inr (inr s)) =
        let e = number_of (ReadEnd p) (ReadEnd q) p q (target_of (ReadEnd p, Some second) (ReadEnd q, o) (sym a.1 ∙ r)) refl refl in
        absurd (omega (arith, e, older q j (ReadEnd q) o' s w refl))
    of_reads q k j o o' r w (inr (inr s)) (inl b) = absurd (clash q p (sym (target_of (WriteEnd p, Some first) (ReadEnd q, o') (sym b.1 ∙ w))))
    of_reads q k j o o' r w (inr (inr s)) (inr (inl b)) =
        let e = number_of (ReadEnd p) (ReadEnd q) p q (target_of (ReadEnd p, Some second) (ReadEnd q, o') (sym b.1 ∙ w)) refl refl in
        absurd (omega (arith, e, older q k (ReadEnd q) o s r refl))
    of_reads q k j o o' r w (inr (inr s)) (inr (inr t)) =
        pair.reads q k j o o' (back (end_at entries k) (end_at entries' k) (ReadEnd q) o q s r refl) (back (end_at entries j) (end_at entries' j) (ReadEnd q) o' q t w refl)

    of_writes : (q k j : ℕ) (o o' : Option ℕ) → end_at entries' k ≡ Some (WriteEnd q, o) → end_at entries' j ≡ Some (WriteEnd q, o') → Place k → Place j → k ≡ j
    of_writes q k j o o' r w (inl a) (inl b) = a.0 ∙ sym b.0
    of_writes q k j o o' r w (inl a) (inr (inl b)) = absurd (clash p q (target_of (ReadEnd p, Some second) (WriteEnd q, o') (sym b.1 ∙ w)))
    of_writes q k j o o' r w (inl a) (inr (inr s)) =
        let e = number_of (WriteEnd p) (WriteEnd q) p q (target_of (WriteEnd p, Some first) (WriteEnd q, o) (sym a.1 ∙ r)) refl refl in
        absurd (omega (arith, e, older q j (WriteEnd q) o' s w refl))
    of_writes q k j o o' r w (inr (inl a)) b = absurd (clash p q (target_of (ReadEnd p, Some second) (WriteEnd q, o) (sym a.1 ∙ r)))
    of_writes q k j o o' r w (inr (inr s)) (inl b) =
        let e = number_of (WriteEnd p) (WriteEnd q) p q (target_of (WriteEnd p, Some first) (WriteEnd q, o') (sym b.1 ∙ w)) refl refl in
        absurd (omega (arith, e, older q k (WriteEnd q) o s r refl))
    of_writes q k j o o' r w (inr (inr s)) (inr (inl b)) = absurd (clash p q (target_of (ReadEnd p, Some second) (WriteEnd q, o') (sym b.1 ∙ w)))
    of_writes q k j o o' r w (inr (inr s)) (inr (inr t)) =
        pair.writes q k j o o' (back (end_at entries k) (end_at entries' k) (WriteEnd q) o q s r refl) (back (end_at entries j) (end_at entries' j) (WriteEnd q) o' q t w refl)

    of_number : (q k : ℕ) (t : Target) (o : Option ℕ) → end_at entries' k ≡ Some (t, o) → pipe_of t ≡ Some q → Place k → q < p + 1
    of_number q k t o e f (inl a) =
        let same = number_of (WriteEnd p) t p q (target_of (WriteEnd p, Some first) (t, o) (sym a.1 ∙ e)) refl f in omega (arith, same)
    of_number q k t o e f (inr (inl a)) =
        let same = number_of (ReadEnd p) t p q (target_of (ReadEnd p, Some second) (t, o) (sym a.1 ∙ e)) refl f in omega (arith, same)
    of_number q k t o e f (inr (inr s)) = omega (arith, older q k t o s e f)

-- an end to read from a new pipe
pub paired_first : (p key : ℕ) (entries entries' : Slab Entry) (e : Entry) → e.description.target ≡ ReadEnd p → Updates entries entries' key (Some e) → IsPaired p entries → IsPaired (p + 1) entries'
paired_first p key entries entries' e is u pair = record {
  keys = λ q k j o o' r w. of_keys q k j o o' r w (place k) (place j);
  reads = λ q k j o o' r w. of_reads q k j o o' r w (place k) (place j);
  writes = λ q k j o o' r w. of_writes q k j o o' r w (place k) (place j);
  numbers = λ q k t o x f. of_number q k t o x f (place k);
}
  where
    Place : ℕ → Type 0
    Place k = ((k ≡ key) × (end_at entries' k ≡ Some (ReadEnd p, e.other))) ⊎ (end_at entries' k ≡ end_at entries k)

    place : (k : ℕ) → Place k
    place k = of_test (key == k) refl
      where
        of_test : (b : Bool) → (key == k) ≡ b → Place k
        of_test true t =
            let s : key ≡ k = eqb-true key k t in
            inl (sym s, ap (λ j. end_at entries' j) (sym s) ∙ ap (λ o. end_in o) u.changed ∙ ap (λ x. Some (x, e.other)) is)
        of_test false t = inr (ap (λ o. end_in o) (u.others k (λ s. apart key k t (sym s))))

    older : (q k : ℕ) (t : Target) (o : Option ℕ) → end_at entries' k ≡ end_at entries k → end_at entries' k ≡ Some (t, o) → pipe_of t ≡ Some q → q < p
    older q k t o s x f = pair.numbers q k t o (sym s ∙ x) f

    of_keys : (q k j : ℕ) (o o' : Option ℕ) → end_at entries' k ≡ Some (ReadEnd q, o) → end_at entries' j ≡ Some (WriteEnd q, o') → Place k → Place j → (o ≡ Some j) × (o' ≡ Some k)
    of_keys q k j o o' r w (inl a) (inl b) = absurd (clash p q (target_of (ReadEnd p, e.other) (WriteEnd q, o') (sym b.1 ∙ w)))
    of_keys q k j o o' r w (inl a) (inr s) =
        let x = number_of (ReadEnd p) (ReadEnd q) p q (target_of (ReadEnd p, e.other) (ReadEnd q, o) (sym a.1 ∙ r)) refl refl in
        absurd (omega (arith, x, older q j (WriteEnd q) o' s w refl))
    of_keys q k j o o' r w (inr s) (inl b) = absurd (clash p q (target_of (ReadEnd p, e.other) (WriteEnd q, o') (sym b.1 ∙ w)))
    of_keys q k j o o' r w (inr s) (inr t) = pair.keys q k j o o' (sym s ∙ r) (sym t ∙ w)

    of_reads : (q k j : ℕ) (o o' : Option ℕ) → end_at entries' k ≡ Some (ReadEnd q, o) → end_at entries' j ≡ Some (ReadEnd q, o') → Place k → Place j → k ≡ j
    of_reads q k j o o' r w (inl a) (inl b) = a.0 ∙ sym b.0
    of_reads q k j o o' r w (inl a) (inr s) =
        let x = number_of (ReadEnd p) (ReadEnd q) p q (target_of (ReadEnd p, e.other) (ReadEnd q, o) (sym a.1 ∙ r)) refl refl in
        absurd (omega (arith, x, older q j (ReadEnd q) o' s w refl))
    of_reads q k j o o' r w (inr s) (inl b) =
        let x = number_of (ReadEnd p) (ReadEnd q) p q (target_of (ReadEnd p, e.other) (ReadEnd q, o') (sym b.1 ∙ w)) refl refl in
        absurd (omega (arith, x, older q k (ReadEnd q) o s r refl))
    of_reads q k j o o' r w (inr s) (inr t) = pair.reads q k j o o' (sym s ∙ r) (sym t ∙ w)

    of_writes : (q k j : ℕ) (o o' : Option ℕ) → end_at entries' k ≡ Some (WriteEnd q, o) → end_at entries' j ≡ Some (WriteEnd q, o') → Place k → Place j → k ≡ j
    of_writes q k j o o' r w (inl a) b = absurd (clash p q (target_of (ReadEnd p, e.other) (WriteEnd q, o) (sym a.1 ∙ r)))
    of_writes q k j o o' r w (inr s) (inl b) = absurd (clash p q (target_of (ReadEnd p, e.other) (WriteEnd q, o') (sym b.1 ∙ w)))
    of_writes q k j o o' r w (inr s) (inr t) = pair.writes q k j o o' (sym s ∙ r) (sym t ∙ w)

    of_number : (q k : ℕ) (t : Target) (o : Option ℕ) → end_at entries' k ≡ Some (t, o) → pipe_of t ≡ Some q → Place k → q < p + 1
    of_number q k t o x f (inl a) =
        let same = number_of (ReadEnd p) t p q (target_of (ReadEnd p, e.other) (t, o) (sym a.1 ∙ x)) refl f in omega (arith, same)
    of_number q k t o x f (inr s) = omega (arith, older q k t o s x f)

-- two new ends, between which descriptors were closed; then the first is told the key of the second
pub paired_two : (p first second pid from to : ℕ) (d d' : Description) (hs hs' : List Held) (s0 s2 s4 s5 : Slab Entry) → d.target ≡ ReadEnd p → d'.target ≡ WriteEnd p
    → Added pid from hs s0 s2 first (record { description = d; count = 1; other = None }) → Added pid to hs' s2 s4 second (record { description = d'; count = 1; other = Some first })
    → get s5 first ≡ joined second (get s4 first) → ((k : ℕ) → k ≢ first → get s5 k ≡ get s4 k) → IsPaired p s0 → IsPaired (p + 1) s5
paired_two p first second pid from to d d' hs hs' s0 s2 s4 s5 reads writes one two at others pair = paired_ends p first second s0 s5 place pair
  where
    Place : ℕ → Type 0
    Place k = ((k ≡ second) × (end_at s5 k ≡ Some (WriteEnd p, Some first))) ⊎ (((k ≡ first) × (end_at s5 k ≡ Some (ReadEnd p, Some second))) ⊎ Tame (end_at s0 k) (end_at s5 k))

    written : end_at s4 second ≡ Some (WriteEnd p, Some first)
    written = ap (λ o. end_in o) two.updates.changed ∙ ap (λ t. Some (t, Some first)) writes

    at_second : (b : Bool) → (second == first) ≡ b → end_at s5 second ≡ Some (WriteEnd p, Some first)
    at_second true t =
        let s : second ≡ first = eqb-true second first t in
        ap (λ k. end_at s5 k) s ∙ ap (λ o. end_in o) (at ∙ ap (λ k. joined second (get s4 k)) (sym s) ∙ ap (λ o. joined second o) two.updates.changed) ∙ ap (λ x. Some (x, Some second)) writes ∙ ap (λ k. Some (WriteEnd p, Some k)) s
    at_second false t = ap (λ o. end_in o) (others second (apart second first t)) ∙ written

    -- what the first number referred to may have been closed again
    told : (o : Option Entry) → (o ≡ None) ⊎ (option_map (λ e. e.description) o ≡ Some d) → (end_in (joined second o) ≡ None) ⊎ (end_in (joined second o) ≡ Some (ReadEnd p, Some second))
    told None s = inl refl
    told (Some e) (inl s) = absurd (cc)
    told (Some e) (inr s) = inr (let t : e.description ≡ d = cc in ap (λ x. Some (x.target, Some second)) t ∙ ap (λ x. Some (x, Some second)) reads)

    at_first : (second == first) ≡ false → Place first
    at_first t = of_told (told (get s4 first) left)
      where
        same : get s4 first ≡ get two.between first
        same = two.updates.others first (λ s. apart second first t (sym s))

        thinned : Thins (get s2 first) (get two.between first)
        thinned = subst (λ o. Thins (get s2 first) o) (sym (two.gone first)) (released_thins pid (Named (Number to)) first hs' (get s2 first))

        of_thins : Thins (get s2 first) (get two.between first) → (get s4 first ≡ None) ⊎ (option_map (λ (e : Entry). e.description) (get s4 first) ≡ Some d)
        of_thins (inl n) = inl (same ∙ n)
        of_thins (inr s) = inr (ap (λ o. option_map (λ (e : Entry). e.description) o) same ∙ s ∙ ap (λ o. option_map (λ (e : Entry). e.description) o) one.updates.changed)

        left : (get s4 first ≡ None) ⊎ (option_map (λ (e : Entry). e.description) (get s4 first) ≡ Some d)
        left = of_thins thinned

        of_told : (end_in (joined second (get s4 first)) ≡ None) ⊎ (end_in (joined second (get s4 first)) ≡ Some (ReadEnd p, Some second)) → Place first
        of_told (inl n) = inr (inr (gone (end_at s0 first) (end_at s5 first) (ap (λ o. end_in o) at ∙ n)))
        of_told (inr s) = inr (inl (refl, ap (λ o. end_in o) at ∙ s))

    elsewhere : (k : ℕ) → k ≢ first → k ≢ second → Tame (end_at s0 k) (end_at s5 k)
    elsewhere k m n =
        subst (λ y. Tame (end_at s0 k) y) (sym (ap (λ o. end_in o) (others k m ∙ two.updates.others k n)))
        (and_then (end_at s0 k) (end_at s2 k) (end_at two.between k)
        (subst (λ y. Tame (end_at s0 k) y) (sym (ap (λ o. end_in o) (one.updates.others k m)))
        (subst (λ o. Tame (end_at s0 k) (end_in o)) (sym (one.gone k)) (releases pid (Named (Number from)) k hs (get s0 k))))
        (subst (λ o. Tame (end_at s2 k) (end_in o)) (sym (two.gone k)) (releases pid (Named (Number to)) k hs' (get s2 k))))

    place : (k : ℕ) → Place k
    place k = of_tests (k == second) (k == first) (second == first) refl refl refl
      where
        of_tests : (a b c : Bool) → (k == second) ≡ a → (k == first) ≡ b → (second == first) ≡ c → Place k
        of_tests true b c e f g = inl (eqb-true k second e, ap (λ j. end_at s5 j) (eqb-true k second e) ∙ at_second (second == first) refl)
        of_tests false true true e f g = absurd (apart k second e (eqb-true k first f ∙ sym (eqb-true second first g)))
        of_tests false true false e f g = subst (λ j. Place j) (sym (eqb-true k first f)) (at_first g)
        of_tests false false c e f g = inr (inr (elsewhere k (apart k first f) (apart k second e)))

-- the first is told, so nothing else changes
joins : (key : ℕ) (o : Option Entry) → option_map (λ e. e.description) (joined key o) ≡ option_map (λ e. e.description) o
joins key None = refl
joins key (Some e) = refl

joins_counts : (key : ℕ) (o : Option Entry) → option_map (λ e. e.count) (joined key o) ≡ option_map (λ e. e.count) o
joins_counts key None = refl
joins_counts key (Some e) = refl

pub alike_joined : (entries entries' : Slab Entry) (key other : ℕ) → get entries' key ≡ joined other (get entries key) → ((k : ℕ) → k ≢ key → get entries' k ≡ get entries k) → (k : ℕ) → description_at entries' k ≡ description_at entries k
alike_joined entries entries' key other at others k = of_test (key == k) refl
  where
    of_test : (b : Bool) → (key == k) ≡ b → description_at entries' k ≡ description_at entries k
    of_test true e = subst (λ j. description_at entries' j ≡ description_at entries j) (eqb-true key k e) (ap (λ o. option_map (λ x. x.description) o) at ∙ joins other (get entries key))
    of_test false e = ap (λ o. option_map (λ x. x.description) o) (others k (λ t. apart key k e (sym t)))

pub counted_joined : (hs : List Held) (entries entries' : Slab Entry) (key other : ℕ) → get entries' key ≡ joined other (get entries key) → ((k : ℕ) → k ≢ key → get entries' k ≡ get entries k) → IsCounted entries hs → IsCounted entries' hs
counted_joined hs entries entries' key other at others c k = of_test (key == k) refl
  where
    of_test : (b : Bool) → (key == k) ≡ b → option_map (λ x. x.count) (get entries' k) ≡ count_of (named k hs)
    of_test true e = subst (λ j. option_map (λ x. x.count) (get entries' j) ≡ count_of (named j hs)) (eqb-true key k e) (ap (λ o. option_map (λ x. x.count) o) at ∙ joins_counts other (get entries key) ∙ c key)
    of_test false e = ap (λ o. option_map (λ x. x.count) o) (others k (λ t. apart key k e (sym t))) ∙ c k

-- ---- whether the other end is open
pub named_among : (key : ℕ) (hs : List Held) (n : ℕ) → named key hs ≡ suc n → (h : Held) × Among h hs × (h.key ≡ key)
named_among key [] n e = absurd (cc)
named_among key (h ∷ hs) n e = of_test (h.key == key) refl (named_among key hs) e
  where
    of_test : (b : Bool) → (h.key == key) ≡ b → ((m : ℕ) → named key hs ≡ suc m → (g : Held) × Among g hs × (g.key ≡ key)) → cond b (suc (named key hs)) (named key hs) ≡ suc n → (g : Held) × Among g (h ∷ hs) × (g.key ≡ key)
    of_test true t f s = (h, inl refl, eqb-true h.key key t)
    of_test false t f s = let r = f n s in (r.0, inr r.1, r.2)

-- an entry that is counted is named by some descriptor
is_there : (key : ℕ) (hs : List Held) (entries : Slab Entry) (x : Entry) → IsCounted entries hs → get entries key ≡ Some x → (h : Held) × Among h hs × (h.key ≡ key)
is_there key hs entries x c e = of_count (named key hs) refl
  where
    of_count : (n : ℕ) → named key hs ≡ n → (h : Held) × Among h hs × (h.key ≡ key)
    of_count zero t = let f : Some x.count ≡ None = sym (ap (λ o. option_map (λ y. y.count) o) e) ∙ c key ∙ ap (λ n. count_of n) t in absurd (cc)
    of_count (suc n) t = named_among key hs n t

pub any_true : (f : Held → Bool) (hs : List Held) (h : Held) → Among h hs → f h ≡ true → list_any f hs ≡ true
any_true f [] h a t = absurd a
any_true f (g ∷ hs) h (inl e) t = ap (λ b. b || list_any f hs) (ap (λ x. f x) e ∙ t)
any_true f (g ∷ hs) h (inr a) t = ap (λ b. f g || b) (any_true f hs h a t) ∙ or_true (f g)
  where
    or_true : (b : Bool) → (b || true) ≡ true
    or_true true = refl
    or_true false = refl

any_false : (f : Held → Bool) (hs : List Held) → ((h : Held) → Among h hs → f h ≡ false) → list_any f hs ≡ false
any_false f [] n = refl
any_false f (g ∷ hs) n = ap (λ b. b || list_any f hs) (n g (inl refl)) ∙ any_false f hs (λ h a. n h (inr a))

read_target : (p : ℕ) (t : Target) → names.reads_from p t ≡ true → t ≡ ReadEnd p
read_target p (File n) e = absurd (cc)
read_target p Terminal e = absurd (cc)
read_target p Null e = absurd (cc)
read_target p (ReadEnd q) e = ap (λ k. ReadEnd k) (eqb-true q p e)
read_target p (WriteEnd q) e = absurd (cc)

write_target : (p : ℕ) (t : Target) → names.writes_to p t ≡ true → t ≡ WriteEnd p
write_target p (File n) e = absurd (cc)
write_target p Terminal e = absurd (cc)
write_target p Null e = absurd (cc)
write_target p (ReadEnd q) e = absurd (cc)
write_target p (WriteEnd q) e = ap (λ k. WriteEnd k) (eqb-true q p e)

end_is : (o : Option Entry) (t : Target) → option_map (λ d. d.target) (option_map (λ e. e.description) o) ≡ Some t → end_in o ≡ Some (t, option_and_then (λ e. e.other) o)
end_is None t e = absurd (cc)
end_is (Some x) t e = ap (λ (y : Option Target). option_map (λ z. (z, x.other)) y) e

pub read_there : (pipe : ℕ) (o : Option Entry) → option_map_or (λ t. names.reads_from pipe t) (option_map (λ d. d.target) (option_map (λ e. e.description) o)) false ≡ true → end_in o ≡ Some (ReadEnd pipe, option_and_then (λ e. e.other) o)
read_there pipe None e = absurd (cc)
read_there pipe (Some x) e = ap (λ t. Some (t, x.other)) (read_target pipe x.description.target e)

pub written_there : (pipe : ℕ) (o : Option Entry) → option_map_or (λ t. names.writes_to pipe t) (option_map (λ d. d.target) (option_map (λ e. e.description) o)) false ≡ true → end_in o ≡ Some (WriteEnd pipe, option_and_then (λ e. e.other) o)
written_there pipe None e = absurd (cc)
written_there pipe (Some x) e = ap (λ t. Some (t, x.other)) (write_target pipe x.description.target e)

module _ (made : ℕ) (hs : List Held) (entries : Slab Entry) (es : List Description) (pipe key : ℕ) (pair : IsPaired made entries) (counted : IsCounted entries hs) (linked : Linked hs entries es) where
  -- an entry of which this holds is named
  seen : (test : Target → Bool) (k : ℕ) (o : Option Entry) → get entries k ≡ o → option_map_or (λ (t : Target). test t) (option_map (λ (d : Description). d.target) (option_map (λ (e : Entry). e.description) o)) false ≡ true → (h : Held) × Among h hs × (h.key ≡ k)
  seen test k None e t = absurd (cc)
  seen test k (Some x) e t = is_there k hs entries x counted e

  pub reads : target_at entries key ≡ Some (WriteEnd pipe) → counts.is_read_end pipe (counts.other_target entries key) ≡ names.has_reader (listed hs) es pipe
  reads at = of_test (counts.is_read_end pipe (counts.other_target entries key)) refl ∙ readers hs entries es pipe linked
    where
      some : (o : Option ℕ) → counts.is_read_end pipe (option_and_then (λ k. target_at entries k) o) ≡ true → list_any (counts.is_reader entries pipe) hs ≡ true
      some None t = absurd (cc)
      some (Some k) t =
          let n = seen (λ x. names.reads_from pipe x) k (get entries k) refl t in
          any_true (counts.is_reader entries pipe) hs n.0 n.1 (ap (λ j. counts.is_read_end pipe (target_at entries j)) n.2 ∙ t)

      none : (h : Held) (b : Bool) → counts.is_reader entries pipe h ≡ b → counts.is_read_end pipe (counts.other_target entries key) ≡ false → counts.is_reader entries pipe h ≡ false
      none h false e t = e
      none h true e t =
          let both = pair.keys pipe h.key key (other_at entries h.key) (other_at entries key) (read_there pipe (get entries h.key) e) (end_is (get entries key) (WriteEnd pipe) at) in
          let f : true ≡ false = sym e ∙ sym (ap (λ o. counts.is_read_end pipe (option_and_then (λ k. target_at entries k) o)) both.1) ∙ t in absurd (cc)

      of_test : (b : Bool) → counts.is_read_end pipe (counts.other_target entries key) ≡ b → counts.is_read_end pipe (counts.other_target entries key) ≡ list_any (counts.is_reader entries pipe) hs
      of_test true t = t ∙ sym (some (other_at entries key) t)
      of_test false t = t ∙ sym (any_false (counts.is_reader entries pipe) hs (λ h a. none h (counts.is_reader entries pipe h) refl t))

  pub writes : target_at entries key ≡ Some (ReadEnd pipe) → counts.is_write_end pipe (counts.other_target entries key) ≡ names.has_writer (listed hs) es pipe
  writes at = of_test (counts.is_write_end pipe (counts.other_target entries key)) refl ∙ writers hs entries es pipe linked
    where
      some : (o : Option ℕ) → counts.is_write_end pipe (option_and_then (λ k. target_at entries k) o) ≡ true → list_any (counts.is_writer entries pipe) hs ≡ true
      some None t = absurd (cc)
      some (Some k) t =
          let n = seen (λ x. names.writes_to pipe x) k (get entries k) refl t in
          any_true (counts.is_writer entries pipe) hs n.0 n.1 (ap (λ j. counts.is_write_end pipe (target_at entries j)) n.2 ∙ t)

      none : (h : Held) (b : Bool) → counts.is_writer entries pipe h ≡ b → counts.is_write_end pipe (counts.other_target entries key) ≡ false → counts.is_writer entries pipe h ≡ false
      none h false e t = e
      none h true e t =
          let both = pair.keys pipe key h.key (other_at entries key) (other_at entries h.key) (end_is (get entries key) (ReadEnd pipe) at) (written_there pipe (get entries h.key) e) in
          let f : true ≡ false = sym e ∙ sym (ap (λ o. counts.is_write_end pipe (option_and_then (λ k. target_at entries k) o)) both.0) ∙ t in absurd (cc)

      of_test : (b : Bool) → counts.is_write_end pipe (counts.other_target entries key) ≡ b → counts.is_write_end pipe (counts.other_target entries key) ≡ list_any (counts.is_writer entries pipe) hs
      of_test true t = t ∙ sym (some (other_at entries key) t)
      of_test false t = t ∙ sym (any_false (counts.is_writer entries pipe) hs (λ h a. none h (counts.is_writer entries pipe h) refl t))

-- ---- where nothing is kept
pub none_paired : (entries : Slab Entry) → ((k : ℕ) → get entries k ≡ None) → IsPaired 0 entries
none_paired entries free = record {
  reads = λ p k j o o' r w. let f : None ≡ Some (ReadEnd p, o) = sym (ap (λ x. end_in x) (free k)) ∙ r in absurd (cc);
  writes = λ p k j o o' r w. let f : None ≡ Some (WriteEnd p, o) = sym (ap (λ x. end_in x) (free k)) ∙ r in absurd (cc);
  keys = λ p k j o o' r w. let f : None ≡ Some (ReadEnd p, o) = sym (ap (λ x. end_in x) (free k)) ∙ r in absurd (cc);
  numbers = λ p k t o e q. let f : None ≡ Some (t, o) = sym (ap (λ x. end_in x) (free k)) ∙ e in absurd (cc);
}
