-- Whole explorations whose outcomes are put in order are the same list.
use Rattle.std.proofs.Common.{◌≡◌, ℕ, zero, suc, ◌+◌, ◌<◌, ◌&&◌, not, inl, inr, true, false, Bool, List, [], ◌∷◌, length, map, get_or, refl, sym, ap, ◌∙◌, subst, arith}
use Rattle.std.proofs.lemmas.List.Sorted.{All-permutation, IsPermutation-sym}
use Rattle.std.proofs.lemmas.Map.Keys.{IsDistinct-IsPermutation}
use Rattle.std.specs.List.{All, AllByRecursion, IsDistinct}
use Rattle.std.specs.List.Sorted.{IsPermutation, IsSortedBy, ties}
use Rattle.sh_exec.specs.declared.event.Event.{Event}
use Rattle.sh_exec.specs.declared.event.Event.TheVariants.{Run}
use Rattle.sh_schedules_outcomes.specs.Schedules.{Machine, end_of}
use Rattle.sh_schedules_outcomes.specs.Choices.{In, schedules}
use Rattle.sh_schedules_outcomes.specs.Found.{AreDistinct, AreFound, IsFound, Shows, is_before}
use Rattle.sh_schedules.specs.Trying.{IsExploration}
use Rattle.sh_schedules_outcomes.specs.declared.found.Found.{Found}
use Rattle.sh_schedules_outcomes.specs.declared.outcome.Outcome.{Outcome}
use Rattle.sh_schedules_outcomes.proofs.Preferring.{none_before_itself, nor_behind, not_true, one_way, same_costs}
use Rattle.sh_schedules.proofs.Agreeing.{all_found, by_places, same_found, same_outcomes}

-- ---- what a list has
in_at : {X : Type 0} (xs : List X) (k : ℕ) (d : X) → k < length xs → In xs (get_or xs k d)
in_at [] k d short = absurd (omega arith)
in_at (x ∷ xs) zero d short = inl refl
in_at (x ∷ xs) (suc k) d short = inr (in_at xs k d (omega arith))

of_all : {X : Type 0} (P : X → Type 0) (xs : List X) (x : X) → All P xs → In xs x → P x
of_all P [] x all there = absurd there
of_all P (y ∷ ys) x all (inl e) = subst P e (all 0 x (omega arith))
of_all P (y ∷ ys) x all (inr there) = of_all P ys x (λ k d short. all (suc k) d (omega arith)) there

members : {X : Type 0} (xs ys : List X) (x : X) → IsPermutation xs ys → In ys x → In xs x
members xs ys x moved there = of_all (In xs) ys x (All-permutation (In xs) xs ys moved (λ k d short. in_at xs k d short)) there

-- ---- outcomes of which each comes before those behind it
abbrev AreBehind : Found → List Found → Type 0
AreBehind f [] = Unit {0}
AreBehind f (g ∷ gs) = (is_before f g ≡ true) × AreBehind f gs

abbrev Rise : List Found → Type 0
Rise [] = Unit {0}
Rise (f ∷ fs) = AreBehind f fs × Rise fs

abbrev NoneIsBefore : Found → List Found → Type 0
NoneIsBefore f [] = Unit {0}
NoneIsBefore f (g ∷ gs) = (is_before g f ≡ false) × NoneIsBefore f gs

nor_further : (f g : Found) (gs : List Found) → is_before g f ≡ false → NoneIsBefore g gs → NoneIsBefore f gs
nor_further f g [] first h = tt
nor_further f g (x ∷ xs) first h =
    (nor_behind x.preemptions g.preemptions f.preemptions x.events g.events f.events h.0 first, nor_further f g xs first h.1)

rest_sorted : (f : Found) (fs : List Found) → IsSortedBy is_before (f ∷ fs) → IsSortedBy is_before fs
rest_sorted f fs sorted = λ k d low short.
    let e : suc k + 1 ≡ suc (k + 1) = omega arith in
    subst (λ (i : ℕ). is_before (get_or (f ∷ fs) i d) (get_or fs k d) ≡ false) e (sorted (suc k) d (omega arith) (omega arith))

none_before : (f : Found) (fs : List Found) → IsSortedBy is_before (f ∷ fs) → NoneIsBefore f fs
none_before f [] sorted = tt
none_before f (g ∷ gs) sorted =
    let first = sorted 0 f (omega arith) (omega arith) in
    (first, nor_further f g gs first (none_before g gs (rest_sorted f (g ∷ gs) sorted)))

before_of : (a b : Bool) → (not a && not b) ≡ false → b ≡ false → a ≡ true
before_of true b tied later = refl
before_of false true tied later = cc
before_of false false tied later = cc

behind_of : (f : Found) (fs : List Found) → AllByRecursion (λ g. ties is_before f g ≡ false) fs → NoneIsBefore f fs → AreBehind f fs
behind_of f [] apart none = tt
behind_of f (g ∷ gs) apart none = (before_of (is_before f g) (is_before g f) apart.0 none.0, behind_of f gs apart.1 none.1)

rise_of : (fs : List Found) → IsDistinct (ties is_before) fs → IsSortedBy is_before fs → Rise fs
unfolding IsDistinct
rise_of [] apart sorted = tt
rise_of (f ∷ fs) apart sorted = (behind_of f fs apart.0 (none_before f fs sorted), rise_of fs apart.1 (rest_sorted f fs sorted))

-- ---- two such lists with the same outcomes
is_behind : (f g : Found) (fs : List Found) → AreBehind f fs → In fs g → is_before f g ≡ true
is_behind f g [] behind there = absurd there
is_behind f g (x ∷ xs) behind (inl e) = subst (λ (y : Found). is_before f y ≡ true) e behind.0
is_behind f g (x ∷ xs) behind (inr there) = is_behind f g xs behind.1 there

not_itself : (f : Found) → is_before f f ≡ true → ⊥
not_itself f is = let no = none_before_itself f.preemptions f.events in absurd (cc)

not_both : (f g : Found) → is_before f g ≡ true → is_before g f ≡ true → ⊥
not_both f g one two = let no = one_way f.preemptions g.preemptions f.events g.events one in absurd (cc)

same_first : (f g : Found) (fs gs : List Found) → AreBehind f fs → AreBehind g gs → In (g ∷ gs) f → In (f ∷ fs) g → f ≡ g
same_first f g fs gs one two (inl e) back = sym e
same_first f g fs gs one two (inr there) (inl e) = e
same_first f g fs gs one two (inr there) (inr back) = absurd (not_both g f (is_behind g f gs two there) (is_behind f g fs one back))

others_in : (f : Found) (fs gs : List Found) → AreBehind f fs → ((x : Found) → In (f ∷ fs) x → In (f ∷ gs) x) → (x : Found) → In fs x → In gs x
others_in f fs gs behind each x there =
    elim (each x (inr there)) [
      | inl e ↦ absurd (not_itself f (subst (λ (y : Found). is_before f y ≡ true) (sym e) (is_behind f x fs behind there)))
      | inr further ↦ further
    ]

rising_same : (fs gs : List Found) → Rise fs → Rise gs → ((x : Found) → In fs x → In gs x) → ((x : Found) → In gs x → In fs x) → fs ≡ gs
rising_same [] [] one two to from = refl
rising_same [] (g ∷ gs) one two to from = absurd (from g (inl refl))
rising_same (f ∷ fs) [] one two to from = absurd (to f (inl refl))
rising_same (f ∷ fs) (g ∷ gs) one two to from =
    let e = same_first f g fs gs one.0 two.0 (to f (inl refl)) (from g (inl refl)) in
    let there : (x : Found) → In (f ∷ fs) x → In (f ∷ gs) x = subst (λ (y : Found). (x : Found) → In (f ∷ fs) x → In (y ∷ gs) x) (sym e) to in
    let back : (x : Found) → In (f ∷ gs) x → In (f ∷ fs) x = subst (λ (y : Found). (x : Found) → In (y ∷ gs) x → In (f ∷ fs) x) (sym e) from in
    let behind : AreBehind f gs = subst (λ (y : Found). AreBehind y gs) (sym e) two.0 in
    ap (λ (y : Found). y ∷ fs) e
    ∙ ap (λ (ys : List Found). g ∷ ys) (rising_same fs gs one.1 two.1 (others_in f fs gs one.0 there) (others_in f gs fs behind back))

-- ---- explorations
tied : (a b : Bool) → (not a && not b) ≡ true → (a ≡ false) × (b ≡ false)
tied true b is = cc
tied false true is = cc
tied false false is = (refl, refl)

tied_either : (a b : Bool) → (not a && not b) ≡ (not b && not a)
tied_either true true = refl
tied_either true false = refl
tied_either false true = refl
tied_either false false = refl

-- one schedule comes to one outcome
one_outcome : {A : Type 0} (w : Machine A) (outcome : A → Outcome) (k n : ℕ) (s : A) (done : List (List Event)) (f g : Found) → IsFound w outcome k n s done f →
    IsFound w outcome k n s done g → ties is_before f g ≡ true → g.outcome ≡ f.outcome
one_outcome w outcome k n s done f g one two is =
    let neither = tied (is_before f g) (is_before g f) is in
    let both = same_costs f.preemptions g.preemptions f.events g.events neither.0 neither.1 in
    let same = sym (by_places w s f.events one.schedule.any.turns) ∙ ap (λ (ps : List ℕ). map Run ps) both.1 ∙ by_places w s g.events two.schedule.any.turns in
    two.outcome_is ∙ sym (ap (λ (es : List Event). outcome (end_of w s es)) same) ∙ sym one.outcome_is

apart_from : {A : Type 0} (w : Machine A) (outcome : A → Outcome) (k n : ℕ) (s : A) (done : List (List Event)) (f : Found) (gs : List Found) → IsFound w outcome k n s done f →
    AreFound w outcome k n s done gs → (Shows gs f.outcome → ⊥) → AllByRecursion (λ g. ties is_before f g ≡ false) gs
apart_from w outcome k n s done f [] is each absent = tt
apart_from w outcome k n s done f (g ∷ gs) is each absent = (
  not_true (ties is_before f g) (λ same. absent (inl (one_outcome w outcome k n s done f g is each.0 same))),
  apart_from w outcome k n s done f gs is each.1 (λ there. absent (inr there)),
)

all_apart : {A : Type 0} (w : Machine A) (outcome : A → Outcome) (k n : ℕ) (s : A) (done : List (List Event)) (found : List Found) →
    AreFound w outcome k n s done found → AreDistinct found → IsDistinct (ties is_before) found
unfolding IsDistinct
all_apart w outcome k n s done [] each distinct = tt
all_apart w outcome k n s done (f ∷ fs) each distinct =
    (apart_from w outcome k n s done f fs each.0 each.1 distinct.0, all_apart w outcome k n s done fs each.1 distinct.1)

-- the one that shows this outcome
shown_by : (found : List Found) (seen : Outcome) → Shows found seen → (f : Found) × In found f × (f.outcome ≡ seen)
shown_by [] seen there = absurd there
shown_by (f ∷ fs) seen (inl e) = (f, inl refl, e)
shown_by (f ∷ fs) seen (inr there) = let rest = shown_by fs seen there in (rest.0, inr rest.1, rest.2)

shows_it : (found : List Found) (f : Found) → In found f → Shows found f.outcome
shows_it [] f there = absurd there
shows_it (x ∷ xs) f (inl e) = inl (ap (λ (y : Found). y.outcome) e)
shows_it (x ∷ xs) f (inr there) = inr (shows_it xs f there)

in_other : {A : Type 0} (w : Machine A) (outcome : A → Outcome) (k n : ℕ) (s : A) (found new : List Found) (tried more : ℕ) → IsExploration w outcome k n s found tried true →
    IsExploration w outcome k n s new more true → (f : Found) → In found f → In new f
in_other w outcome k n s found new tried more one two f there =
    let other = shown_by new f.outcome (same_outcomes w outcome k n s found new tried more f.outcome one two (shows_it found f there)) in
    subst (In new) (sym (same_found w outcome k n s found new tried more f other.0 one two there other.1 (sym other.2))) other.1

pub one_order : {A : Type 0} (w : Machine A) (outcome : A → Outcome) (k n : ℕ) (s : A) (found new ones others : List Found) (tried more : ℕ) →
    IsExploration w outcome k n s found tried true → IsExploration w outcome k n s new more true → IsPermutation found ones → IsPermutation new others →
    IsSortedBy is_before ones → IsSortedBy is_before others → ones ≡ others
one_order w outcome k n s found new ones others tried more one two moved shifted sorted ordered =
    let flips : (f g : Found) → ties is_before f g ≡ ties is_before g f = λ f g. tied_either (is_before f g) (is_before g f) in
    let first = IsDistinct-IsPermutation (ties is_before) flips found ones moved (all_apart w outcome k n s (schedules w k n s) found (all_found w outcome k n s found tried one) one.distinct) in
    let second = IsDistinct-IsPermutation (ties is_before) flips new others shifted (all_apart w outcome k n s (schedules w k n s) new (all_found w outcome k n s new more two) two.distinct) in
    rising_same ones others (rise_of ones first sorted) (rise_of others second ordered)
    (λ f there. members others new f (IsPermutation-sym new others shifted) (in_other w outcome k n s found new tried more one two f (members found ones f moved there)))
    (λ f there. members ones found f (IsPermutation-sym found ones moved) (in_other w outcome k n s new found more tried two one f (members new others f shifted there)))
