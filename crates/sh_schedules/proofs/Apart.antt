-- No schedule is in the list of all schedules twice.
use Rattle.std.proofs.Common.{◌≡◌, ℕ, zero, suc, ◌-◌, ◌<◌, inl, inr, Bool, true, false, nat_eq, Option, Some, None, List, [], ◌∷◌, ◌++◌, length, refl, sym, ◌∙◌, subst, arith, if◌then◌else◌}
use Rattle.std.proofs.lemmas.Bool.{eqb-false}
use Rattle.sh_exec.specs.declared.event.Event.{Event}
use Rattle.sh_exec.specs.declared.event.Event.TheVariants.{Run}
use Rattle.sh_schedules_outcomes.specs.Schedules.{Machine, cost, last_place}
use Rattle.sh_schedules_outcomes.specs.Choices.{AreApart, In, begun, begun_by, choices, choices_by, of_choices, others_below, places_below, schedules}
use Rattle.sh_schedules_outcomes.proofs.Orders.{begins, begun_with, below_only, in_either, others_only}

apart_append : {X : Type 0} (xs ys : List X) → AreApart xs → AreApart ys → ((x : X) → In xs x → In ys x → ⊥) → AreApart (xs ++ ys)
apart_append [] ys a b differ = b
apart_append (x ∷ xs) ys a b differ = (
  (λ h. elim (in_either xs ys x h) [ inl left ↦ a.0 left | inr right ↦ differ x (inl refl) right ]),
  apart_append xs ys a.1 b (λ y left right. differ y (inr left) right),
)

-- ---- choices
last_apart : (xs : List ℕ) (n : ℕ) → AreApart xs → ((p : ℕ) → In xs p → p < n) → AreApart (xs ++ n ∷ [])
last_apart xs n a below =
    apart_append xs (n ∷ []) a ((λ none. none), tt)
    (λ p left right. elim right [ inl e ↦ (let less = below p left in absurd (omega arith)) | inr none ↦ none ])

below_apart : (n : ℕ) → AreApart (places_below n)
below_apart zero = tt
below_apart (suc n) = last_apart (places_below n) n (below_apart n) (below_only n)

others_by_apart : (here n : ℕ) (b : Bool) → AreApart (others_below here n) → AreApart (if b then others_below here n else others_below here n ++ n ∷ [])
others_by_apart here n true a = a
others_by_apart here n false a = last_apart (others_below here n) n a (others_only here n)

others_apart : (here n : ℕ) → AreApart (others_below here n)
others_apart here zero = tt
others_apart here (suc n) = others_by_apart here n (nat_eq n here) (others_apart here n)

lack_by : (here n : ℕ) (b : Bool) → nat_eq n here ≡ b → (In (others_below here n) here → ⊥) → In (if b then others_below here n else others_below here n ++ n ∷ []) here → ⊥
lack_by here n true e rest h = rest h
lack_by here n false e rest h =
    elim (in_either (others_below here n) (n ∷ []) here h) [
      | inl left ↦ rest left
      | inr right ↦ elim right [ inl same ↦ eqb-false n here e same | inr none ↦ none ]
    ]

-- the place that is left out is none of the others
others_lack : (here n : ℕ) → In (others_below here n) here → ⊥
others_lack here zero h = h
others_lack here (suc n) h = lack_by here n (nat_eq n here) refl (others_lack here n) h

here_apart : (here count : ℕ) (b : Bool) → AreApart (here ∷ (if b then [] else others_below here count))
here_apart here count true = ((λ none. none), tt)
here_apart here count false = (others_lack here count, others_apart here count)

choices_apart : (here : Option ℕ) (count left : ℕ) → AreApart (choices_by here count left)
choices_apart None count left = below_apart count
choices_apart (Some here) count left = here_apart here count (nat_eq left 0)

-- ---- schedules
in_rest : (p : ℕ) (all : List (List Event)) (es : List Event) → In (begun p all) (Run p ∷ es) → In all es
in_rest p [] es h = h
in_rest p (x ∷ xs) es (inl e) = inl cc
in_rest p (x ∷ xs) es (inr h) = inr (in_rest p xs es h)

begun_apart : (p : ℕ) (all : List (List Event)) → AreApart all → AreApart (begun p all)
begun_apart p [] a = tt
begun_apart p (x ∷ xs) a = ((λ h. a.0 (in_rest p xs x h)), begun_apart p xs a.1)

same_first : (p q : ℕ) (r t es : List Event) → Run p ∷ r ≡ es → Run q ∷ t ≡ es → q ≡ p
same_first p q r t es a b = let e : Run p ∷ r ≡ Run q ∷ t = a ∙ sym b in cc

begun_by_apart : (f : ℕ → List (List Event)) (places : List ℕ) → ((p : ℕ) → AreApart (f p)) → AreApart places → AreApart (begun_by f places)
begun_by_apart f [] each a = tt
begun_by_apart f (p ∷ ps) each a =
    apart_append (begun p (f p)) (begun_by f ps) (begun_apart p (f p) (each p)) (begun_by_apart f ps each a.1)
    (λ es left right.
    let one = begun_with f p (f p) es left in
    let other = begins f ps es right in
    a.0 (subst (In ps) (same_first p other.place one.0 other.rest es one.1 other.is) other.has))

of_apart : (f : ℕ → List (List Event)) (places : List ℕ) → ((p : ℕ) → AreApart (f p)) → AreApart places → AreApart (of_choices f places)
of_apart f [] each a = ((λ none. none), tt)
of_apart f (p ∷ ps) each a = begun_by_apart f (p ∷ ps) each a

-- no schedule is there twice
pub once : {A : Type 0} (w : Machine A) (k n : ℕ) (s : A) → AreApart (schedules w k n s)
unfolding schedules
once w k zero s = ((λ none. none), tt)
once w k (suc n) s =
    of_apart (λ place. schedules w (k - cost w s (Run place)) n (w.step s (Run place))) (choices w k s) (λ place. once w (k - cost w s (Run place)) n (w.step s (Run place)))
    (choices_apart (last_place w s) (length (w.runnable s)) k)
