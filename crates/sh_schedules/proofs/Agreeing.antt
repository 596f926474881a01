-- Two whole explorations find the same.
use Rattle.std.proofs.Common.{◌≡◌, ℕ, inl, inr, true, false, map, List, [], ◌∷◌, refl, sym, ap, ◌∙◌, subst, arith}
use Rattle.std.proofs.lemmas.List.{take_all}
use Rattle.sh_exec.specs.declared.event.Event.{Event}
use Rattle.sh_exec.specs.declared.event.Event.TheVariants.{Run, Next, Key}
use Rattle.sh_schedules_outcomes.specs.Schedules.{AreTurns, Machine, end_of, preemptions}
use Rattle.sh_schedules_outcomes.specs.Choices.{In, schedules}
use Rattle.sh_schedules_outcomes.specs.Found.{AreFound, HaveNoneBefore, IsFound, IsNumber, Shows}
use Rattle.sh_schedules_outcomes.specs.Preference.{comes_before, place_in}
use Rattle.sh_schedules.specs.Trying.{IsExploration}
use Rattle.sh_schedules_outcomes.specs.declared.found.Found.{Found}
use Rattle.sh_schedules_outcomes.specs.declared.outcome.Outcome.{Outcome}
use Rattle.sh_schedules_outcomes.proofs.Orders.{complete}
use Rattle.sh_schedules_outcomes.proofs.Preferring.{same_costs}
use Rattle.sh_schedules.proofs.Keeping.{same_parts}

one_number : {A : Type 0} (w : Machine A) (outcome : A → Outcome) (s : A) (seen : Outcome) (all : List (List Event)) (a b : ℕ) →
    IsNumber w outcome s seen all a → IsNumber w outcome s seen all b → a ≡ b
one_number w outcome s seen [] a b h g = h ∙ sym g
one_number w outcome s seen (es ∷ rest) a b (inl h) (inl g) = one_number w outcome s seen rest a b h.1 g.1
one_number w outcome s seen (es ∷ rest) a b (inl h) (inr g) = absurd (h.0 g.2)
one_number w outcome s seen (es ∷ rest) a b (inr h) (inl g) = absurd (g.0 h.2)
one_number w outcome s seen (es ∷ rest) a b (inr h) (inr g) =
    let same = one_number w outcome s seen rest h.0 g.0 h.3 g.3 in
    let first = h.1 in
    let second = g.1 in
    omega arith

none_at : {A : Type 0} (w : Machine A) (outcome : A → Outcome) (s : A) (seen : Outcome) (c : ℕ) (events : List Event) (all : List (List Event)) (es : List Event) →
    HaveNoneBefore w outcome s seen c events all → In all es → outcome (end_of w s es) ≡ seen → comes_before (preemptions w s es) es c events ≡ false
none_at w outcome s seen c events [] es h there is = absurd there
none_at w outcome s seen c events (x ∷ rest) es h (inl e) is =
    subst (λ (xs : List Event). comes_before (preemptions w s xs) xs c events ≡ false) e (h.0 (ap (λ (xs : List Event). outcome (end_of w s xs)) e ∙ is))
none_at w outcome s seen c events (x ∷ rest) es h (inr there) is = none_at w outcome s seen c events rest es h.1 there is

is_found : {A : Type 0} (w : Machine A) (outcome : A → Outcome) (k n : ℕ) (s : A) (done : List (List Event)) (found : List Found) (f : Found) →
    AreFound w outcome k n s done found → In found f → IsFound w outcome k n s done f
is_found w outcome k n s done [] f each there = absurd there
is_found w outcome k n s done (x ∷ xs) f each (inl e) = subst (IsFound w outcome k n s done) e each.0
is_found w outcome k n s done (x ∷ xs) f each (inr there) = is_found w outcome k n s done xs f each.1 there

pub all_found : {A : Type 0} (w : Machine A) (outcome : A → Outcome) (k n : ℕ) (s : A) (found : List Found) (tried : ℕ) →
    IsExploration w outcome k n s found tried true → AreFound w outcome k n s (schedules w k n s) found
all_found w outcome k n s found tried h =
    let number = h.number refl in
    subst (λ (done : List (List Event)). AreFound w outcome k n s done found) (take_all tried (schedules w k n s) (omega arith)) h.each

shows_each : {A : Type 0} (w : Machine A) (outcome : A → Outcome) (k n : ℕ) (s : A) (done : List (List Event)) (found new : List Found) (seen : Outcome) →
    AreFound w outcome k n s done found → ((f : Found) → IsFound w outcome k n s done f → Shows new f.outcome) → Shows found seen → Shows new seen
shows_each w outcome k n s done [] new seen each shows there = absurd there
shows_each w outcome k n s done (f ∷ fs) new seen each shows (inl e) = subst (λ (o : Outcome). Shows new o) e (shows f each.0)
shows_each w outcome k n s done (f ∷ fs) new seen each shows (inr there) = shows_each w outcome k n s done fs new seen each.1 shows there

pub same_outcomes : {A : Type 0} (w : Machine A) (outcome : A → Outcome) (k n : ℕ) (s : A) (found new : List Found) (tried more : ℕ) (seen : Outcome) →
    IsExploration w outcome k n s found tried true → IsExploration w outcome k n s new more true → Shows found seen → Shows new seen
same_outcomes w outcome k n s found new tried more seen one two there =
    shows_each w outcome k n s (schedules w k n s) found new seen (all_found w outcome k n s found tried one)
    (λ f is. subst (λ (o : Outcome). Shows new o) (sym is.outcome_is) (two.complete refl f.events is.schedule)) there

not_before : {A : Type 0} (w : Machine A) (outcome : A → Outcome) (k n : ℕ) (s : A) (f g : Found) → IsFound w outcome k n s (schedules w k n s) f →
    IsFound w outcome k n s (schedules w k n s) g → f.outcome ≡ g.outcome → comes_before g.preemptions g.events f.preemptions f.events ≡ false
not_before w outcome k n s f g one two same =
    subst (λ (c : ℕ). comes_before c g.events f.preemptions f.events ≡ false) (sym two.preempts)
    (none_at w outcome s f.outcome f.preemptions f.events (schedules w k n s) g.events one.first (complete w k n s g.events two.schedule) (sym two.outcome_is ∙ sym same))

-- a schedule is told by its places
pub by_places : {A : Type 0} (w : Machine A) (s : A) (es : List Event) → AreTurns w s es → map Run (map place_in es) ≡ es
by_places w s [] turns = refl
by_places w s (Run place ∷ es) turns = ap (λ (xs : List Event). Run place ∷ xs) (by_places w (w.step s (Run place)) es turns.1)
by_places w s (Next ∷ es) turns = absurd turns.0
by_places w s (Key byte ∷ es) turns = absurd turns.0

pub same_found : {A : Type 0} (w : Machine A) (outcome : A → Outcome) (k n : ℕ) (s : A) (found new : List Found) (tried more : ℕ) (f g : Found) →
    IsExploration w outcome k n s found tried true → IsExploration w outcome k n s new more true → In found f → In new g → f.outcome ≡ g.outcome → f ≡ g
same_found w outcome k n s found new tried more f g first second here there same =
    let one = is_found w outcome k n s (schedules w k n s) found f (all_found w outcome k n s found tried first) here in
    let two = is_found w outcome k n s (schedules w k n s) new g (all_found w outcome k n s new more second) there in
    let both =
    same_costs f.preemptions g.preemptions f.events g.events (not_before w outcome k n s g f two one (sym same)) (not_before w outcome k n s f g one two same) in
    same_parts f.outcome g.outcome f.schedules g.schedules f.preemptions g.preemptions f.events g.events same
    (one_number w outcome s g.outcome (schedules w k n s) f.schedules g.schedules
    (subst (λ (o : Outcome). IsNumber w outcome s o (schedules w k n s) f.schedules) same one.number) two.number)
    both.0
    (sym (by_places w s f.events one.schedule.any.turns) ∙ ap (map Run) both.1 ∙ by_places w s g.events two.schedule.any.turns)
