-- The order by which of schedules with one outcome the first is kept.
use Rattle.std.proofs.Common.{◌≡◌, ℕ, ◌<◌, ◌⊎◌, inl, inr, List, [], ◌∷◌, map, Bool, true, false, if◌then◌else◌, nat_lt, refl, sym, ap, ◌∙◌, subst, arith}
use Rattle.std.proofs.lemmas.Bool.{le-ltb, ltb-false, ltb-true, lt-ltb}
use Rattle.std.proofs.lemmas.Bool.Decides.{eqb_tells}
use Rattle.std.specs.Cmp.{IsStrictWeakOrder}
use Rattle.sh_world.specs.Event.{Event}
use Rattle.sh_schedules_outcomes.specs.Preference.{comes_before, first_by, place_in, precedes}
use Rattle.sh_schedules_outcomes.specs.Found.{is_before}

pub not_true : (b : Bool) → (b ≡ true → ⊥) → b ≡ false
not_true true not = absurd (not refl)
not_true false not = refl

-- ---- numbers
first_same : (n : ℕ) (b : Bool) → first_by n n b ≡ b
first_same n b = elim (eqb_tells n n) [
  | inl e ↦ ap (λ (t : Bool). if t then b else nat_lt n n) e.0
  | inr e ↦ absurd (e.1 refl)
]

first_true : (n m : ℕ) (b : Bool) → first_by n m b ≡ true → (n < m) ⊎ ((n ≡ m) × (b ≡ true))
first_true n m b h = elim (eqb_tells n m) [
  | inl e ↦ inr (e.1, sym (ap (λ (t : Bool). if t then b else nat_lt n m) e.0) ∙ h)
  | inr e ↦ inl (ltb-true n m (sym (ap (λ (t : Bool). if t then b else nat_lt n m) e.0) ∙ h))
]

first_false : (n m : ℕ) (b : Bool) → first_by n m b ≡ false → (m < n) ⊎ ((n ≡ m) × (b ≡ false))
first_false n m b h = elim (eqb_tells n m) [
  | inl e ↦ inr (e.1, sym (ap (λ (t : Bool). if t then b else nat_lt n m) e.0) ∙ h)
  | inr e ↦ inl (let below = ltb-false n m (sym (ap (λ (t : Bool). if t then b else nat_lt n m) e.0) ∙ h) in let differs = e.1 in omega arith)
]

true_below : (n m : ℕ) (b : Bool) → n < m → first_by n m b ≡ true
true_below n m b below = elim (eqb_tells n m) [
  | inl e ↦ (let same = e.1 in absurd (omega arith))
  | inr e ↦ ap (λ (t : Bool). if t then b else nat_lt n m) e.0 ∙ lt-ltb n m below
]

true_same : (n m : ℕ) (b : Bool) → n ≡ m → b ≡ true → first_by n m b ≡ true
true_same n m b same is = subst (λ (k : ℕ). first_by n k b ≡ true) same (first_same n b ∙ is)

false_below : (n m : ℕ) (b : Bool) → m < n → first_by n m b ≡ false
false_below n m b above = elim (eqb_tells n m) [
  | inl e ↦ (let same = e.1 in absurd (omega arith))
  | inr e ↦ ap (λ (t : Bool). if t then b else nat_lt n m) e.0 ∙ le-ltb n m (omega arith)
]

false_same : (n m : ℕ) (b : Bool) → n ≡ m → b ≡ false → first_by n m b ≡ false
false_same n m b same is = subst (λ (k : ℕ). first_by n k b ≡ false) same (first_same n b ∙ is)

neither_first : (n m k : ℕ) (a b c : Bool) → first_by n m a ≡ false → first_by m k b ≡ false → (a ≡ false → b ≡ false → c ≡ false) → first_by n k c ≡ false
neither_first n m k a b c one two behind = elim (first_false n m a one) [
  | inl above ↦ elim (first_false m k b two) [
    | inl further ↦ false_below n k c (omega arith)
    | inr same ↦ (let e = same.0 in false_below n k c (omega arith))
  ]
  | inr is ↦ elim (first_false m k b two) [
    | inl further ↦ (let e = is.0 in false_below n k c (omega arith))
    | inr same ↦ false_same n k c (is.0 ∙ same.0) (behind is.1 same.1)
  ]
]

first_then : (n m k : ℕ) (a b c : Bool) → first_by n m a ≡ true → first_by m k b ≡ true → (a ≡ true → b ≡ true → c ≡ true) → first_by n k c ≡ true
first_then n m k a b c one two behind = elim (first_true n m a one) [
  | inl below ↦ elim (first_true m k b two) [
    | inl further ↦ true_below n k c (omega arith)
    | inr same ↦ (let e = same.0 in true_below n k c (omega arith))
  ]
  | inr is ↦ elim (first_true m k b two) [
    | inl further ↦ (let e = is.0 in true_below n k c (omega arith))
    | inr same ↦ true_same n k c (is.0 ∙ same.0) (behind is.1 same.1)
  ]
]

-- ---- events
not_before_itself : (es : List Event) → precedes es es ≡ false
not_before_itself [] = refl
not_before_itself (e ∷ es) = first_same (place_in e) (precedes es es) ∙ not_before_itself es

before_then : (es fs gs : List Event) → precedes es fs ≡ true → precedes fs gs ≡ true → precedes es gs ≡ true
before_then es fs [] one two = cc
before_then es [] (g ∷ gs) one two = cc
before_then [] (f ∷ fs) (g ∷ gs) one two = refl
before_then (e ∷ es) (f ∷ fs) (g ∷ gs) one two =
    first_then (place_in e) (place_in f) (place_in g) (precedes es fs) (precedes fs gs) (precedes es gs) one two (λ a b. before_then es fs gs a b)

neither_before : (es fs gs : List Event) → precedes es fs ≡ false → precedes fs gs ≡ false → precedes es gs ≡ false
neither_before es fs [] one two = refl
neither_before es [] (g ∷ gs) one two = cc
neither_before [] (f ∷ fs) (g ∷ gs) one two = cc
neither_before (e ∷ es) (f ∷ fs) (g ∷ gs) one two =
    neither_first (place_in e) (place_in f) (place_in g) (precedes es fs) (precedes fs gs) (precedes es gs) one two (λ a b. neither_before es fs gs a b)

-- of two of which neither comes before the other the places are the same
pub same_places : (es fs : List Event) → precedes es fs ≡ false → precedes fs es ≡ false → map place_in es ≡ map place_in fs
same_places [] [] one two = refl
same_places [] (f ∷ fs) one two = cc
same_places (e ∷ es) [] one two = cc
same_places (e ∷ es) (f ∷ fs) one two = elim (first_false (place_in e) (place_in f) (precedes es fs) one) [
  | inl below ↦ elim (first_false (place_in f) (place_in e) (precedes fs es) two) [
    | inl above ↦ absurd (omega arith)
    | inr same ↦ (let is = same.0 in absurd (omega arith))
  ]
  | inr here ↦ elim (first_false (place_in f) (place_in e) (precedes fs es) two) [
    | inl above ↦ (let is = here.0 in absurd (omega arith))
    | inr there ↦ ap (λ (p : ℕ). p ∷ map place_in es) here.0 ∙ ap (λ (ps : List ℕ). place_in f ∷ ps) (same_places es fs here.1 there.1)
  ]
]

-- ---- schedules
pub none_before_itself : (c : ℕ) (es : List Event) → comes_before c es c es ≡ false
none_before_itself c es = first_same c (precedes es es) ∙ not_before_itself es

-- what doesn't come before one doesn't come before what is before that
pub nor_before : (b c d : ℕ) (es fs gs : List Event) → comes_before b es d gs ≡ false → comes_before c fs d gs ≡ true → comes_before b es c fs ≡ false
nor_before b c d es fs gs not first =
    not_true (comes_before b es c fs)
    (λ is. let yes = first_then b c d (precedes es fs) (precedes fs gs) (precedes es gs) is first (λ one two. before_then es fs gs one two) in absurd (cc))

-- nor before what that doesn't come before
pub nor_behind : (b c d : ℕ) (es fs gs : List Event) → comes_before b es c fs ≡ false → comes_before c fs d gs ≡ false → comes_before b es d gs ≡ false
nor_behind b c d es fs gs one two = neither_first b c d (precedes es fs) (precedes fs gs) (precedes es gs) one two (λ x y. neither_before es fs gs x y)

-- of two of which neither comes before the other the numbers of preemptions are the same, and the places
pub same_costs : (c d : ℕ) (es fs : List Event) → comes_before c es d fs ≡ false → comes_before d fs c es ≡ false → (c ≡ d) × (map place_in es ≡ map place_in fs)
same_costs c d es fs one two = elim (first_false c d (precedes es fs) one) [
  | inl below ↦ elim (first_false d c (precedes fs es) two) [
    | inl above ↦ absurd (omega arith)
    | inr same ↦ (let is = same.0 in absurd (omega arith))
  ]
  | inr here ↦ elim (first_false d c (precedes fs es) two) [
    | inl above ↦ (let is = here.0 in absurd (omega arith))
    | inr there ↦ (here.0, same_places es fs here.1 there.1)
  ]
]

pub one_way : (b c : ℕ) (es fs : List Event) → comes_before b es c fs ≡ true → comes_before c fs b es ≡ false
one_way b c es fs first =
    not_true (comes_before c fs b es)
    (λ is.
    let none = none_before_itself b es in
    let yes = first_then b c b (precedes es fs) (precedes fs es) (precedes es es) first is (λ one two. before_then es fs es one two) in
    absurd (cc))

pub in_order : IsStrictWeakOrder is_before
in_order = record {
  one_way = λ f g first. one_way f.preemptions g.preemptions f.events g.events first;
  chain = λ f g h one two. nor_behind f.preemptions g.preemptions h.preemptions f.events g.events h.events one two;
}
