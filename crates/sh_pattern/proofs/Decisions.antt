-- The functions decide the relations.
use Rattle.std.proofs.Common.{◌≡◌, ◌⊎◌, inl, inr, ⊎_elim, ℕ, zero, suc, ◌<◌, ◌≤◌, List, [], ◌∷◌, Bool, true, false, ◌&&◌, ◌||◌, drop, Option, Some, None, refl, sym, ap, ◌∙◌, subst, arith}
use Rattle.std.specs.Prelude.{◌↔◌, if◌then◌else◌}
use Rattle.std.proofs.Math.Nat.{le-suc_iff}
use Rattle.std.proofs.lemmas.Bool.{cases_lt}
use Rattle.sh_pattern.specs.declared.pattern_byte.PatternByte.{PatternByte}
use Rattle.sh_pattern.specs.declared.element.Kind.{Kind}
use Rattle.sh_pattern.specs.declared.element.Kind.TheVariants.{Star, Any, Byte, Bracket}
use Rattle.sh_pattern.specs.Deciding.{are_matched, begins, first, greatest, is_empty, is_match, least, longest, or_number, shortest, some_end}
use Rattle.sh_pattern.specs.Match.{AreMatched, Begins, Element, First, IsLongest, IsShortest, Matches, elements, one_of}

either : (b : Bool) → (b ≡ true) ⊎ (b ≡ false)
either true = inl refl
either false = inr refl

or_left : (a b : Bool) → a ≡ true → (a || b) ≡ true
or_left a b h = ap (λ x. x || b) h

or_right : (a b : Bool) → b ≡ true → (a || b) ≡ true
or_right true b h = refl
or_right false b h = h

or_parts : (a b : Bool) → (a || b) ≡ true → (a ≡ true) ⊎ (b ≡ true)
or_parts true b h = inl refl
or_parts false b h = inr h

and_parts : (a b : Bool) → (a && b) ≡ true → (a ≡ true) × (b ≡ true)
and_parts true b h = (refl, h)
and_parts false b h = absurd (cc)

and_both : (a b : Bool) → a ≡ true → b ≡ true → (a && b) ≡ true
and_both a b h k = ap (λ x. x && b) h ∙ k

-- the test decides the fact, for each text
abbrev Decides : (List ℕ → Bool) → (List ℕ → Type 0) → Type 0
Decides test Fact = (t : List ℕ) → (test t ≡ true → Fact t) × (Fact t → test t ≡ true)

end_found : (test : List ℕ → Bool) (Fact : List ℕ → Type 0) → Decides test Fact → (t : List ℕ) → some_end test t ≡ true → (k : ℕ) × Fact (drop k t)
end_found test Fact d [] h = (0, (d []).0 h)
end_found test Fact d (b ∷ t) h =
    ⊎_elim
    (λ (e : test (b ∷ t) ≡ true). (0, (d (b ∷ t)).0 e))
    (λ (e : some_end test t ≡ true). let r = end_found test Fact d t e in (suc r.0, r.1))
    (or_parts (test (b ∷ t)) (some_end test t) h)

end_finds : (test : List ℕ → Bool) (Fact : List ℕ → Type 0) → Decides test Fact → (t : List ℕ) (k : ℕ) → Fact (drop k t) → some_end test t ≡ true
end_finds test Fact d [] zero h = (d []).1 h
end_finds test Fact d [] (suc k) h = (d []).1 h
end_finds test Fact d (b ∷ t) zero h = or_left (test (b ∷ t)) (some_end test t) ((d (b ∷ t)).1 h)
end_finds test Fact d (b ∷ t) (suc k) h = or_right (test (b ∷ t)) (some_end test t) (end_finds test Fact d t k h)

begins_both : (takes : ℕ → Bool) (test : List ℕ → Bool) (Fact : List ℕ → Type 0) → Decides test Fact → Decides (begins takes test) (Begins takes Fact)
begins_both takes test Fact d [] = (λ h. absurd (cc), λ h. absurd h)
begins_both takes test Fact d (b ∷ t) = (
  λ h. let p = and_parts (takes b) (test t) h in (p.0, (d t).0 p.1),
  λ h. and_both (takes b) (test t) h.0 ((d t).1 h.1),
)

first_both : (k : Kind) (inside : List PatternByte) (test : List ℕ → Bool) (Fact : List ℕ → Type 0) → Decides test Fact → Decides (first k inside test) (First k inside Fact)
first_both Star inside test Fact d t = (λ h. end_found test Fact d t h, λ h. end_finds test Fact d t h.0 h.1)
first_both Any inside test Fact d t = begins_both (one_of Any inside) test Fact d t
first_both (Byte c) inside test Fact d t = begins_both (one_of (Byte c) inside) test Fact d t
first_both Bracket inside test Fact d t = begins_both (one_of Bracket inside) test Fact d t

empty_both : Decides is_empty (λ t. t ≡ [])
empty_both [] = (λ h. refl, λ h. refl)
empty_both (b ∷ t) = (λ h. absurd (cc), λ h. absurd (cc))

matched_both : (p : List Element) → Decides (are_matched p) (AreMatched p)
matched_both [] = empty_both
matched_both (e ∷ p) = first_both e.kind e.inside (are_matched p) (AreMatched p) (matched_both p)

pub match_both : (p : List PatternByte) → Decides (is_match p) (Matches p)
unfolding is_match
match_both p = matched_both (elements 0 p)

-- ---- the least and the greatest number
abbrev Tests : (ℕ → Bool) → (ℕ → Type 0) → Type 0
Tests test Fact = (n : ℕ) → (test n ≡ true → Fact n) × (Fact n → test n ≡ true)

abbrev None_to : (ℕ → Type 0) → ℕ → Type 0
None_to Fact most = (n : ℕ) → n ≤ most → Fact n → ⊥

record IsLeast (Fact : ℕ → Type 0) (most n : ℕ) : Type 0 where
  within : n ≤ most
  passes : Fact n
  first : (m : ℕ) → m < n → Fact m → ⊥

record IsGreatest (Fact : ℕ → Type 0) (most n : ℕ) : Type 0 where
  within : n ≤ most
  passes : Fact n
  last : (m : ℕ) → n < m → m ≤ most → Fact m → ⊥

abbrev LeastIs : (ℕ → Type 0) → ℕ → Option ℕ → Type 0
LeastIs Fact most None = None_to Fact most
LeastIs Fact most (Some n) = IsLeast Fact most n

abbrev GreatestIs : (ℕ → Type 0) → ℕ → Option ℕ → Type 0
GreatestIs Fact most None = None_to Fact most
GreatestIs Fact most (Some n) = IsGreatest Fact most n

more : (n m : ℕ) → n ≤ suc m → (n ≤ m) ⊎ (n ≡ suc m)
more n m h = le-suc_iff.0 h

-- ---- from 0 up to the last
least_zero : (test : ℕ → Bool) (Fact : ℕ → Type 0) → Tests test Fact → (b : Bool) → test 0 ≡ b → LeastIs Fact 0 (if b then Some 0 else None)
least_zero test Fact d true e = record { within = omega arith; passes = (d 0).0 e; first = λ m h f. absurd (omega (arith, h)) }
least_zero test Fact d false e = λ n h f. let z : n ≡ 0 = omega (arith, h) in let t : test 0 ≡ true = (d 0).1 (subst Fact z f) in absurd (cc)

least_next : (test : ℕ → Bool) (Fact : ℕ → Type 0) → Tests test Fact → (most : ℕ) (o : Option ℕ) → LeastIs Fact most o → (b : Bool) → test (suc most) ≡ b → LeastIs Fact (suc most) (or_number o b (suc most))
least_next test Fact d most (Some n) l b e = record { within = (let w = l.within in omega (arith, w)); passes = l.passes; first = l.first }
least_next test Fact d most None l true e = record { within = omega arith; passes = (d (suc most)).0 e; first = λ m h f. l m (omega (arith, h)) f }
least_next test Fact d most None l false e = λ n h f.
    ⊎_elim
    (λ (k : n ≤ most). l n k f)
    (λ (z : n ≡ suc most). let t : test (suc most) ≡ true = (d (suc most)).1 (subst Fact z f) in absurd (cc))
    (more n most h)

least_is : (test : ℕ → Bool) (Fact : ℕ → Type 0) → Tests test Fact → (most : ℕ) → LeastIs Fact most (least test most)
least_is test Fact d zero = least_zero test Fact d (test 0) refl
least_is test Fact d (suc n) = least_next test Fact d n (least test n) (least_is test Fact d n) (test (suc n)) refl

-- ---- from the last down to 0
greatest_zero : (test : ℕ → Bool) (Fact : ℕ → Type 0) → Tests test Fact → (b : Bool) → test 0 ≡ b → GreatestIs Fact 0 (if b then Some 0 else None)
greatest_zero test Fact d true e = record { within = omega arith; passes = (d 0).0 e; last = λ m h k f. absurd (omega (arith, h, k)) }
greatest_zero test Fact d false e = λ n h f. let z : n ≡ 0 = omega (arith, h) in let t : test 0 ≡ true = (d 0).1 (subst Fact z f) in absurd (cc)

greatest_below : (Fact : ℕ → Type 0) (most : ℕ) (o : Option ℕ) → (Fact (suc most) → ⊥) → GreatestIs Fact most o → GreatestIs Fact (suc most) o
greatest_below Fact most None deny g = λ n h f. ⊎_elim (λ (k : n ≤ most). g n k f) (λ (z : n ≡ suc most). deny (subst Fact z f)) (more n most h)
greatest_below Fact most (Some n) deny g = record {
  within = (let w = g.within in omega (arith, w));
  passes = g.passes;
  last = λ m h k f. ⊎_elim (λ (l : m ≤ most). g.last m h l f) (λ (z : m ≡ suc most). deny (subst Fact z f)) (more m most k);
}

greatest_next : (test : ℕ → Bool) (Fact : ℕ → Type 0) → Tests test Fact → (most : ℕ) (o : Option ℕ) → GreatestIs Fact most o → (b : Bool) → test (suc most) ≡ b → GreatestIs Fact (suc most) (if b then Some (suc most) else o)
greatest_next test Fact d most o g true e = record { within = omega arith; passes = (d (suc most)).0 e; last = λ m h k f. absurd (omega (arith, h, k)) }
greatest_next test Fact d most o g false e = greatest_below Fact most o (λ f. let t : test (suc most) ≡ true = (d (suc most)).1 f in absurd (cc)) g

greatest_is : (test : ℕ → Bool) (Fact : ℕ → Type 0) → Tests test Fact → (most : ℕ) → GreatestIs Fact most (greatest test most)
greatest_is test Fact d zero = greatest_zero test Fact d (test 0) refl
greatest_is test Fact d (suc n) = greatest_next test Fact d n (greatest test n) (greatest_is test Fact d n) (test (suc n)) refl

-- ---- there is one
least_once : (Fact : ℕ → Type 0) (most : ℕ) (o p : Option ℕ) → LeastIs Fact most o → LeastIs Fact most p → o ≡ p
least_once Fact most None None h k = refl
least_once Fact most None (Some m) h k = absurd (h m k.within k.passes)
least_once Fact most (Some n) None h k = absurd (k n h.within h.passes)
least_once Fact most (Some n) (Some m) h k =
    ⊎_elim
    (λ (l : n < m). absurd (k.first n l h.passes))
    (λ (l : m ≤ n). ⊎_elim (λ (z : m < n). absurd (h.first m z k.passes)) (λ (z : n ≡ m). ap Some z) (below m n l))
    (cases_lt n m)
  where
    below : (a b : ℕ) → a ≤ b → (a < b) ⊎ (b ≡ a)
    below a b l = elim (cases_lt a b) [ inl z ↦ inl z | inr g ↦ inr (omega (arith, l, g)) ]

greatest_once : (Fact : ℕ → Type 0) (most : ℕ) (o p : Option ℕ) → GreatestIs Fact most o → GreatestIs Fact most p → o ≡ p
greatest_once Fact most None None h k = refl
greatest_once Fact most None (Some m) h k = absurd (h m k.within k.passes)
greatest_once Fact most (Some n) None h k = absurd (k n h.within h.passes)
greatest_once Fact most (Some n) (Some m) h k =
    ⊎_elim
    (λ (l : n < m). absurd (h.last m l k.within k.passes))
    (λ (l : m ≤ n). ⊎_elim (λ (z : m < n). absurd (k.last n z h.within h.passes)) (λ (z : n ≡ m). ap Some z) (below m n l))
    (cases_lt n m)
  where
    below : (a b : ℕ) → a ≤ b → (a < b) ⊎ (b ≡ a)
    below a b l = elim (cases_lt a b) [ inl z ↦ inl z | inr g ↦ inr (omega (arith, l, g)) ]

-- ---- parts of a text
tests : (p : List PatternByte) (part : ℕ → List ℕ) → Tests (λ n. is_match p (part n)) (λ n. Matches p (part n))
tests p part n = match_both p (part n)

shortest_to : (p : List PatternByte) (part : ℕ → List ℕ) (most : ℕ) (o : Option ℕ) → IsShortest p part most o → LeastIs (λ n. Matches p (part n)) most o
shortest_to p part most None h = h
shortest_to p part most (Some n) h = record { within = h.0; passes = h.1; first = h.2 }

shortest_of : (p : List PatternByte) (part : ℕ → List ℕ) (most : ℕ) (o : Option ℕ) → LeastIs (λ n. Matches p (part n)) most o → IsShortest p part most o
shortest_of p part most None h = h
shortest_of p part most (Some n) h = (h.within, h.passes, h.first)

longest_to : (p : List PatternByte) (part : ℕ → List ℕ) (most : ℕ) (o : Option ℕ) → IsLongest p part most o → GreatestIs (λ n. Matches p (part n)) most o
longest_to p part most None h = h
longest_to p part most (Some n) h = record { within = h.0; passes = h.1; last = h.2 }

longest_of : (p : List PatternByte) (part : ℕ → List ℕ) (most : ℕ) (o : Option ℕ) → GreatestIs (λ n. Matches p (part n)) most o → IsLongest p part most o
longest_of p part most None h = h
longest_of p part most (Some n) h = (h.within, h.passes, h.last)

pub shortest_both : (p : List PatternByte) (part : ℕ → List ℕ) (most : ℕ) (o : Option ℕ) → IsShortest p part most o ↔ (o ≡ shortest p part most)
unfolding shortest
shortest_both p part most o =
    let Fact : ℕ → Type 0 = λ n. Matches p (part n) in
    let l : LeastIs Fact most (least (λ n. is_match p (part n)) most) = least_is (λ n. is_match p (part n)) Fact (tests p part) most in (
      λ h. least_once Fact most o (least (λ n. is_match p (part n)) most) (shortest_to p part most o h) l,
      λ e. subst (λ x. IsShortest p part most x) (sym e) (shortest_of p part most (least (λ n. is_match p (part n)) most) l),
    )

pub longest_both : (p : List PatternByte) (part : ℕ → List ℕ) (most : ℕ) (o : Option ℕ) → IsLongest p part most o ↔ (o ≡ longest p part most)
unfolding longest
longest_both p part most o =
    let Fact : ℕ → Type 0 = λ n. Matches p (part n) in
    let g : GreatestIs Fact most (greatest (λ n. is_match p (part n)) most) = greatest_is (λ n. is_match p (part n)) Fact (tests p part) most in (
      λ h. greatest_once Fact most o (greatest (λ n. is_match p (part n)) most) (longest_to p part most o h) g,
      λ e. subst (λ x. IsLongest p part most x) (sym e) (longest_of p part most (greatest (λ n. is_match p (part n)) most) g),
    )
