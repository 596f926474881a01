-- The list of all schedules has each schedule, and nothing else.
use Rattle.std.proofs.Common.{◌≡◌, ℕ, zero, suc, ◌-◌, ◌<◌, ◌≤◌, ◌⊎◌, inl, inr, Bool, true, false, nat_eq, Option, Some, None, List, [], ◌∷◌, ◌++◌, length, refl, sym, ap, ◌∙◌, subst, arith, if◌then◌else◌}
use Rattle.std.proofs.lemmas.Bool.{eqb-true, eqb-false, ltb-true}
use Rattle.sh_world.specs.Event.{Event}
use Rattle.sh_world.specs.Event.TheVariants.{Run, Next, Key}
use Rattle.sh_schedules_outcomes.specs.Schedules.{IsSchedule, Machine, cost, cost_by, last_place, place_of}
use Rattle.sh_schedules_outcomes.specs.Choices.{In, begun, begun_by, choices, choices_by, of_choices, others_below, places_below, schedules}

pub in_left : {X : Type 0} (xs ys : List X) (x : X) → In xs x → In (xs ++ ys) x
in_left [] ys x h = absurd h
in_left (y ∷ xs) ys x (inl e) = inl e
in_left (y ∷ xs) ys x (inr h) = inr (in_left xs ys x h)

pub in_right : {X : Type 0} (xs ys : List X) (x : X) → In ys x → In (xs ++ ys) x
in_right [] ys x h = h
in_right (y ∷ xs) ys x h = inr (in_right xs ys x h)

pub in_either : {X : Type 0} (xs ys : List X) (x : X) → In (xs ++ ys) x → In xs x ⊎ In ys x
in_either [] ys x h = inr h
in_either (y ∷ xs) ys x (inl e) = inl (inl e)
in_either (y ∷ xs) ys x (inr h) = elim (in_either xs ys x h) [ inl a ↦ inl (inr a) | inr b ↦ inr b ]

-- ---- places
below_has_by : (n p : ℕ) (b : Bool) → nat_eq n p ≡ b → (p < n → In (places_below n) p) → p < suc n → In (places_below n ++ n ∷ []) p
below_has_by n p true e rest h = in_right (places_below n) (n ∷ []) p (inl (eqb-true n p e))
below_has_by n p false e rest h =
    let other = eqb-false n p e in
    let less : p < n = omega arith in
    in_left (places_below n) (n ∷ []) p (rest less)

below_has : (n p : ℕ) → p < n → In (places_below n) p
below_has zero p h = absurd (omega arith)
below_has (suc n) p h = below_has_by n p (nat_eq n p) refl (below_has n p) h

pub below_only : (n p : ℕ) → In (places_below n) p → p < n
below_only zero p h = absurd h
below_only (suc n) p h =
    elim (in_either (places_below n) (n ∷ []) p h) [
      | inl a ↦ (let less = below_only n p a in omega arith)
      | inr b ↦ elim b [ inl e ↦ omega arith | inr none ↦ absurd none ]
    ]

-- the others with one more, unless it is the one that is left out
abbrev more_by : ℕ → ℕ → Bool → List ℕ
more_by here n b = if b then others_below here n else others_below here n ++ n ∷ []

more_keeps : (here n p : ℕ) (b : Bool) → In (others_below here n) p → In (more_by here n b) p
more_keeps here n p true h = h
more_keeps here n p false h = in_left (others_below here n) (n ∷ []) p h

others_by : (here n p : ℕ) (b : Bool) → nat_eq n p ≡ b → nat_eq p here ≡ false → (p < n → In (others_below here n) p) → p < suc n → In (more_by here n (nat_eq n here)) p
others_by here n p true e other rest h =
    let same = eqb-true n p e in
    let last : nat_eq n here ≡ false = ap (λ (q : ℕ). nat_eq q here) same ∙ other in
    subst (λ (b : Bool). In (more_by here n b) p) (sym last) (in_right (others_below here n) (n ∷ []) p (inl same))
others_by here n p false e other rest h =
    let differ = eqb-false n p e in
    let less : p < n = omega arith in
    more_keeps here n p (nat_eq n here) (rest less)

others_have : (here n p : ℕ) → nat_eq p here ≡ false → p < n → In (others_below here n) p
others_have here zero p other h = absurd (omega arith)
others_have here (suc n) p other h = others_by here n p (nat_eq n p) refl other (others_have here n p other) h

more_only : (here n p : ℕ) (b : Bool) → (In (others_below here n) p → p < n) → In (more_by here n b) p → p < suc n
more_only here n p true rest h = let less = rest h in omega arith
more_only here n p false rest h =
    elim (in_either (others_below here n) (n ∷ []) p h) [
      | inl a ↦ (let less = rest a in omega arith)
      | inr b ↦ elim b [ inl e ↦ omega arith | inr none ↦ absurd none ]
    ]

pub others_only : (here n p : ℕ) → In (others_below here n) p → p < n
others_only here zero p h = absurd h
others_only here (suc n) p h = more_only here n p (nat_eq n here) (others_only here n p) h

-- ---- choices
-- the place of the last process, if there is one, is one of so many
abbrev IsPlace : Option ℕ → ℕ → Type 0
IsPlace None count = Unit {0}
IsPlace (Some here) count = here < count

place_by : (b : Bool) (i n : ℕ) → (b ≡ true → i < n) → IsPlace (if b then Some i else None) n
place_by true i n h = h refl
place_by false i n h = tt

place_is_one : (last : Option ℕ) (pids : List ℕ) → IsPlace (place_of last pids) (length pids)
place_is_one None pids = tt
place_is_one (Some pid) pids = place_by _ _ (length pids) (λ h. ltb-true _ _ h)

cost_self : (here : ℕ) (b : Bool) → nat_eq here here ≡ b → ◌≡◌ {A = ℕ} (if b then 0 else 1) 0
cost_self here true e = refl
cost_self here false e = absurd (eqb-false here here e refl)

cost_here : (here p : ℕ) → here ≡ p → cost_by (Some here) p ≡ 0
cost_here here p e = subst (λ (q : ℕ). cost_by (Some here) q ≡ 0) e (cost_self here (nat_eq here here) refl)

cost_most : (b : Bool) → (if b then 0 else 1) ≤ 1
cost_most true = omega arith
cost_most false = omega arith

left_by : (here count left p : ℕ) (b : Bool) → nat_eq left 0 ≡ b → In (if b then [] else others_below here count) p → (p < count) × (cost_by (Some here) p ≤ left)
left_by here count left p true e h = absurd h
left_by here count left p false e h =
    let some = eqb-false left 0 e in
    let most = cost_most (nat_eq p here) in
    (others_only here count p h, omega arith)

choice_fits : (here : Option ℕ) (count left p : ℕ) → IsPlace here count → In (choices_by here count left) p → (p < count) × (cost_by here p ≤ left)
choice_fits None count left p within h = (below_only count p h, omega arith)
choice_fits (Some here) count left p within (inl e) = (subst (λ (q : ℕ). q < count) e within, (let free = cost_here here p e in omega arith))
choice_fits (Some here) count left p within (inr h) = left_by here count left p (nat_eq left 0) refl h

has_by : (here count left p : ℕ) (b c : Bool) → nat_eq p here ≡ b → nat_eq left 0 ≡ c → p < count → (if b then 0 else 1) ≤ left → In (here ∷ (if c then [] else others_below here count)) p
has_by here count left p true c e f h fits = inl (sym (eqb-true p here e))
has_by here count left p false true e f h fits = let none = eqb-true left 0 f in absurd (omega arith)
has_by here count left p false false e f h fits = inr (others_have here count p e h)

fit_is_choice : (here : Option ℕ) (count left p : ℕ) → p < count → cost_by here p ≤ left → In (choices_by here count left) p
fit_is_choice None count left p h fits = below_has count p h
fit_is_choice (Some here) count left p h fits = has_by here count left p (nat_eq p here) (nat_eq left 0) refl refl h fits

none_by : (here : Option ℕ) (count left : ℕ) → choices_by here count left ≡ [] → count ≡ 0
none_by here zero left e = refl
none_by None (suc n) left e = absurd (subst (λ (ps : List ℕ). In ps n) e (in_right (places_below n) (n ∷ []) n (inl refl)))
none_by (Some here) (suc n) left e = cc

pub empty : {X : Type 0} (xs : List X) → length xs ≡ 0 → xs ≡ []
empty [] h = refl
empty (x ∷ xs) h = absurd (omega arith)

-- where there is no choice, no process can take a turn
pub none_can : {A : Type 0} (w : Machine A) (k : ℕ) (s : A) → choices w k s ≡ [] → w.runnable s ≡ []
none_can w k s e = empty (w.runnable s) (none_by (last_place w s) (length (w.runnable s)) k e)

nowhere : (last : Option ℕ) (k : ℕ) → choices_by (place_of last []) 0 k ≡ []
nowhere None k = refl
nowhere (Some pid) k = refl

pub no_choice : {A : Type 0} (w : Machine A) (k : ℕ) (s : A) → w.runnable s ≡ [] → choices w k s ≡ []
no_choice w k s e = ap (λ (pids : List ℕ). choices_by (place_of (w.last s) pids) (length pids) k) e ∙ nowhere (w.last s) k

free_by : (here : Option ℕ) (count left p : ℕ) (ps : List ℕ) → choices_by here count left ≡ p ∷ ps → cost_by here p ≡ 0
free_by None count left p ps e = refl
free_by (Some here) count left p ps e = cost_here here p cc

-- the first choice is no preemption
pub first_free : {A : Type 0} (w : Machine A) (k : ℕ) (s : A) (p : ℕ) (ps : List ℕ) → choices w k s ≡ p ∷ ps → cost w s (Run p) ≡ 0
first_free w k s p ps e = free_by (last_place w s) (length (w.runnable s)) k p ps e

-- ---- schedules
-- a schedule that begins at one of these places, with what follows it
pub record Begins (f : ℕ → List (List Event)) (places : List ℕ) (es : List Event) : Type 0 where
  pub place : ℕ
  pub rest : List Event
  pub has : In places place
  pub is : Run place ∷ rest ≡ es
  pub among : In (f place) rest

pub begun_with : (f : ℕ → List (List Event)) (p : ℕ) (all : List (List Event)) (es : List Event) → In (begun p all) es → (rest : List Event) × (Run p ∷ rest ≡ es) × In all rest
begun_with f p [] es h = absurd h
begun_with f p (x ∷ xs) es (inl e) = (x, e, inl refl)
begun_with f p (x ∷ xs) es (inr h) = let r = begun_with f p xs es h in (r.0, r.1, inr r.2)

pub begins : (f : ℕ → List (List Event)) (places : List ℕ) (es : List Event) → In (begun_by f places) es → Begins f places es
begins f [] es h = absurd h
begins f (p ∷ ps) es h =
    elim (in_either (begun p (f p)) (begun_by f ps) es h) [
      | inl a ↦ (let r = begun_with f p (f p) es a in record { place = p; rest = r.0; has = inl refl; is = r.1; among = r.2 })
      | inr b ↦ (let r = begins f ps es b in record { place = r.place; rest = r.rest; has = inr r.has; is = r.is; among = r.among })
    ]

one_more : {A : Type 0} (w : Machine A) (k n : ℕ) (s : A) (p : ℕ) (es : List Event) → p < length (w.runnable s) → cost w s (Run p) ≤ k →
    IsSchedule w (k - cost w s (Run p)) n (w.step s (Run p)) es → IsSchedule w k (suc n) s (Run p ∷ es)
one_more w k n s p es can fits rest =
    let few = rest.preempted in
    let short = rest.any.within in
    record {
      any = record {
        turns = (can, rest.any.turns);
        within = omega arith;
        ends = elim rest.any.ends [ inl none ↦ inl none | inr full ↦ inr (ap suc full) ];
      };
      preempted = omega arith;
    }

sound_by : {A : Type 0} (w : Machine A) (k n : ℕ) (s : A) (es : List Event) (f : ℕ → List (List Event)) (places : List ℕ) → choices w k s ≡ places →
    ((p : ℕ) (rest : List Event) → In (f p) rest → IsSchedule w (k - cost w s (Run p)) n (w.step s (Run p)) rest) →
    In (of_choices f places) es → IsSchedule w k (suc n) s es
sound_by w k n s es f [] is follow (inl e) =
    subst (IsSchedule w k (suc n) s) e (record { any = record { turns = tt; within = omega arith; ends = inl (none_can w k s is) }; preempted = omega arith })
sound_by w k n s es f [] is follow (inr h) = absurd h
sound_by w k n s es f (p ∷ ps) is follow h =
    let b = begins f (p ∷ ps) es h in
    let fits = choice_fits (last_place w s) (length (w.runnable s)) k b.place (place_is_one (w.last s) (w.runnable s)) (subst (λ (qs : List ℕ). In qs b.place) (sym is) b.has) in
    subst (IsSchedule w k (suc n) s) b.is (one_more w k n s b.place b.rest fits.0 fits.1 (follow b.place b.rest b.among))

-- what is in the list is a schedule
pub sound : {A : Type 0} (w : Machine A) (k n : ℕ) (s : A) (es : List Event) → In (schedules w k n s) es → IsSchedule w k n s es
unfolding schedules
sound w k zero s es (inl e) = subst (IsSchedule w k zero s) e (record { any = record { turns = tt; within = omega arith; ends = inr refl }; preempted = omega arith })
sound w k zero s es (inr h) = absurd h
sound w k (suc n) s es h =
    sound_by w k n s es (λ p. schedules w (k - cost w s (Run p)) n (w.step s (Run p))) (choices w k s) refl
    (λ p rest r. sound w (k - cost w s (Run p)) n (w.step s (Run p)) rest r) h

in_begun : (p : ℕ) (all : List (List Event)) (es : List Event) → In all es → In (begun p all) (Run p ∷ es)
in_begun p [] es h = absurd h
in_begun p (x ∷ xs) es (inl e) = inl (ap (λ (r : List Event). Run p ∷ r) e)
in_begun p (x ∷ xs) es (inr h) = inr (in_begun p xs es h)

in_begun_by : (f : ℕ → List (List Event)) (places : List ℕ) (p : ℕ) (es : List Event) → In places p → In (f p) es → In (begun_by f places) (Run p ∷ es)
in_begun_by f [] p es h r = absurd h
in_begun_by f (q ∷ qs) p es (inl e) r =
    in_left (begun q (f q)) (begun_by f qs) (Run p ∷ es) (subst (λ (o : ℕ). In (begun o (f o)) (Run p ∷ es)) (sym e) (in_begun p (f p) es r))
in_begun_by f (q ∷ qs) p es (inr h) r = in_right (begun q (f q)) (begun_by f qs) (Run p ∷ es) (in_begun_by f qs p es h r)

in_choices : (f : ℕ → List (List Event)) (places : List ℕ) (p : ℕ) (es : List Event) → In places p → In (f p) es → In (of_choices f places) (Run p ∷ es)
in_choices f [] p es h r = absurd h
in_choices f (q ∷ qs) p es h r = in_begun_by f (q ∷ qs) p es h r

rest_of : {A : Type 0} (w : Machine A) (k n : ℕ) (s : A) (p : ℕ) (es : List Event) → IsSchedule w k (suc n) s (Run p ∷ es) → IsSchedule w (k - cost w s (Run p)) n (w.step s (Run p)) es
rest_of w k n s p es h =
    let few = h.preempted in
    let short = h.any.within in
    record {
      any = record {
        turns = h.any.turns.1;
        within = omega arith;
        ends = elim h.any.ends [ inl none ↦ inl none | inr full ↦ inr (omega arith) ];
      };
      preempted = omega arith;
    }

ended_in : {A : Type 0} (w : Machine A) (k n : ℕ) (s : A) (f : ℕ → List (List Event)) → (w.runnable s ≡ []) ⊎ (0 ≡ suc n) → In (of_choices f (choices w k s)) []
ended_in w k n s f (inl none) = subst (λ (all : List (List Event)). In all []) (sym (ap (of_choices f) (no_choice w k s none))) (inl refl)
ended_in w k n s f (inr full) = absurd (omega arith)

-- each schedule is in the list
pub complete : {A : Type 0} (w : Machine A) (k n : ℕ) (s : A) (es : List Event) → IsSchedule w k n s es → In (schedules w k n s) es
unfolding schedules
complete w k zero s [] h = inl refl
complete w k zero s (e ∷ es) h = let short = h.any.within in absurd (omega arith)
complete w k (suc n) s [] h = ended_in w k n s (λ p. schedules w (k - cost w s (Run p)) n (w.step s (Run p))) h.any.ends
complete w k (suc n) s (Run p ∷ es) h =
    let few = h.preempted in
    let fits : cost w s (Run p) ≤ k = omega arith in
    in_choices (λ p. schedules w (k - cost w s (Run p)) n (w.step s (Run p))) (choices w k s) p es
    (fit_is_choice (last_place w s) (length (w.runnable s)) k p h.any.turns.0 fits)
    (complete w (k - cost w s (Run p)) n (w.step s (Run p)) es (rest_of w k n s p es h))
complete w k (suc n) s (Next ∷ es) h = absurd h.any.turns.0
complete w k (suc n) s (Key byte ∷ es) h = absurd h.any.turns.0
