-- What is known of the outcomes that were found, as a schedule is counted.
use Rattle.std.proofs.Common.{◌≡◌, ◌≢◌, ℕ, false, zero, suc, ◌+◌, ◌<◌, ◌≤◌, ◌^◌, ◌⊎◌, inl, inr, List, [], ◌∷◌, ◌++◌, length, refl, sym, ap, ◌∙◌, subst, arith, get_or, set, length-append}
use Rattle.sh_world.specs.Event.{Event}
use Rattle.sh_schedules_outcomes.specs.Schedules.{IsSchedule, Machine, end_of, preemptions}
use Rattle.sh_schedules_outcomes.specs.Choices.{In}
use Rattle.sh_schedules_outcomes.specs.Found.{AreDistinct, AreFound, AreShown, HaveNoneBefore, IsAgain, IsFound, IsNumber, IsPlace, IsPreferred, IsSum, IsTally, Joined, Noted, Shows, counted}
use Rattle.sh_schedules_outcomes.specs.Preference.{comes_before}
use Rattle.sh_schedules_outcomes.specs.declared.found.Found.{Found}
use Rattle.sh_schedules_outcomes.specs.declared.outcome.Outcome.{Outcome}
use Rattle.sh_schedules_outcomes.proofs.Preferring.{nor_before, none_before_itself}

-- ---- how a schedule is counted
pub noted_at : (found : List Found) (outcome : Outcome) (es : List Event) (c i : ℕ) (d g : Found) → IsPlace found outcome i → i < length found →
    IsAgain (get_or found i d) es c g → Noted found outcome es c (set found i g)
noted_at [] outcome es c i d g place within again = absurd (omega arith)
noted_at (f ∷ fs) outcome es c zero d g place within again = inl (place, again, refl)
noted_at (f ∷ fs) outcome es c (suc i) d g place within again = inr (place.0, refl, noted_at fs outcome es c i d g place.1 (omega arith) again)

pub noted_new : (found : List Found) (outcome : Outcome) (es : List Event) (c i : ℕ) → IsPlace found outcome i → length found ≤ i →
    Noted found outcome es c (found ++ record { outcome = outcome; schedules = 1; preemptions = c; events = es } ∷ [])
noted_new [] outcome es c i place beyond = refl
noted_new (f ∷ fs) outcome es c zero place beyond = absurd (omega arith)
noted_new (f ∷ fs) outcome es c (suc i) place beyond = inr (place.0, refl, noted_new fs outcome es c i place.1 (omega arith))

-- ---- how one that was found elsewhere is added
pub joined_at : (found : List Found) (one : Found) (i : ℕ) (d g : Found) → IsPlace found one.outcome i → i < length found → IsSum (get_or found i d) one g → Joined found one (set found i g)
joined_at [] one i d g place within sum = absurd (omega arith)
joined_at (f ∷ fs) one zero d g place within sum = inl (place, sum, refl)
joined_at (f ∷ fs) one (suc i) d g place within sum = inr (place.0, refl, joined_at fs one i d g place.1 (omega arith) sum)

pub joined_new : (found : List Found) (one : Found) (i : ℕ) → IsPlace found one.outcome i → length found ≤ i → Joined found one (found ++ one ∷ [])
joined_new [] one i place beyond = refl
joined_new (f ∷ fs) one zero place beyond = absurd (omega arith)
joined_new (f ∷ fs) one (suc i) place beyond = inr (place.0, refl, joined_new fs one i place.1 (omega arith))

-- ---- what is known after a schedule was counted
counts_more : (found new : List Found) (outcome : Outcome) (es : List Event) (c : ℕ) → Noted found outcome es c new → counted found + 1 < 2 ^ 64 → counted new ≡ counted found + 1
counts_more [] new outcome es c h few = ap counted h
counts_more (f ∷ fs) [] outcome es c h few = absurd h
counts_more (f ∷ fs) (g ∷ gs) outcome es c (inl h) few =
    let rest = ap counted h.2 in
    omega arith
counts_more (f ∷ fs) (g ∷ gs) outcome es c (inr h) few =
    let same = ap (λ (x : Found). x.schedules) h.1 in
    let rest = counts_more fs gs outcome es c h.2 (omega arith) in
    omega arith

shows_it : (found new : List Found) (outcome : Outcome) (es : List Event) (c : ℕ) → Noted found outcome es c new → Shows new outcome
shows_it [] new outcome es c h = subst (λ (fs : List Found). Shows fs outcome) (sym h) (inl refl)
shows_it (f ∷ fs) [] outcome es c h = absurd h
shows_it (f ∷ fs) (g ∷ gs) outcome es c (inl h) = inl (h.1.outcome_is ∙ h.0)
shows_it (f ∷ fs) (g ∷ gs) outcome es c (inr h) = inr (shows_it fs gs outcome es c h.2)

still_shows : (found new : List Found) (outcome seen : Outcome) (es : List Event) (c : ℕ) → Noted found outcome es c new → Shows found seen → Shows new seen
still_shows [] new outcome seen es c h old = absurd old
still_shows (f ∷ fs) [] outcome seen es c h old = absurd h
still_shows (f ∷ fs) (g ∷ gs) outcome seen es c (inl h) (inl e) = inl (h.1.outcome_is ∙ e)
still_shows (f ∷ fs) (g ∷ gs) outcome seen es c (inl h) (inr old) = inr (subst (λ (xs : List Found). Shows xs seen) (sym h.2) old)
still_shows (f ∷ fs) (g ∷ gs) outcome seen es c (inr h) (inl e) = inl (ap (λ (x : Found). x.outcome) h.1 ∙ e)
still_shows (f ∷ fs) (g ∷ gs) outcome seen es c (inr h) (inr old) = inr (still_shows fs gs outcome seen es c h.2 old)

shows_no_other : (found new : List Found) (outcome seen : Outcome) (es : List Event) (c : ℕ) → Noted found outcome es c new → Shows new seen → (outcome ≡ seen) ⊎ Shows found seen
shows_no_other [] new outcome seen es c h now =
    elim (subst (λ (fs : List Found). Shows fs seen) h now) [ inl e ↦ inl e | inr none ↦ absurd none ]
shows_no_other (f ∷ fs) [] outcome seen es c h now = absurd h
shows_no_other (f ∷ fs) (g ∷ gs) outcome seen es c (inl h) (inl e) = inr (inl (sym h.1.outcome_is ∙ e))
shows_no_other (f ∷ fs) (g ∷ gs) outcome seen es c (inl h) (inr now) = inr (inr (subst (λ (xs : List Found). Shows xs seen) h.2 now))
shows_no_other (f ∷ fs) (g ∷ gs) outcome seen es c (inr h) (inl e) = inr (inl (sym (ap (λ (x : Found). x.outcome) h.1) ∙ e))
shows_no_other (f ∷ fs) (g ∷ gs) outcome seen es c (inr h) (inr now) =
    elim (shows_no_other fs gs outcome seen es c h.2 now) [ inl e ↦ inl e | inr old ↦ inr (inr old) ]

stay_distinct : (found new : List Found) (outcome : Outcome) (es : List Event) (c : ℕ) → Noted found outcome es c new → AreDistinct found → AreDistinct new
stay_distinct [] new outcome es c h d = subst AreDistinct (sym h) ((λ none. none), tt)
stay_distinct (f ∷ fs) [] outcome es c h d = absurd h
stay_distinct (f ∷ fs) (g ∷ gs) outcome es c (inl h) d =
    ((λ now. d.0 (subst (λ (xs : List Found). Shows xs f.outcome) h.2 (subst (λ (o : Outcome). Shows gs o) h.1.outcome_is now))), subst AreDistinct (sym h.2) d.1)
stay_distinct (f ∷ fs) (g ∷ gs) outcome es c (inr h) d = (
  (λ now. elim (shows_no_other fs gs outcome f.outcome es c h.2 (subst (λ (x : Found). Shows gs x.outcome) h.1 now)) [ inl e ↦ h.0 (sym e) | inr old ↦ d.0 old ]),
  stay_distinct fs gs outcome es c h.2 d.1,
)

-- ---- numbers and the first ones, as one more schedule comes
number_one : {A : Type 0} (w : Machine A) (outcome : A → Outcome) (s : A) (seen : Outcome) (es : List Event) (done : List (List Event)) (n : ℕ) →
    IsNumber w outcome s seen done n → outcome (end_of w s es) ≡ seen → IsNumber w outcome s seen (done ++ es ∷ []) (suc n)
number_one w outcome s seen es [] n h same = inr (n, refl, same, h)
number_one w outcome s seen es (d ∷ ds) n (inl h) same = inl (h.0, number_one w outcome s seen es ds n h.1 same)
number_one w outcome s seen es (d ∷ ds) n (inr h) same = inr (suc h.0, ap suc h.1, h.2, number_one w outcome s seen es ds h.0 h.3 same)

number_other : {A : Type 0} (w : Machine A) (outcome : A → Outcome) (s : A) (seen : Outcome) (es : List Event) (done : List (List Event)) (n : ℕ) →
    IsNumber w outcome s seen done n → outcome (end_of w s es) ≢ seen → IsNumber w outcome s seen (done ++ es ∷ []) n
number_other w outcome s seen es [] n h differs = inl (differs, h)
number_other w outcome s seen es (d ∷ ds) n (inl h) differs = inl (h.0, number_other w outcome s seen es ds n h.1 differs)
number_other w outcome s seen es (d ∷ ds) n (inr h) differs = inr (h.0, h.1, h.2, number_other w outcome s seen es ds h.0 h.3 differs)

-- the same, said of the same outcome, preemptions and events
pub none_as : {A : Type 0} (w : Machine A) (outcome : A → Outcome) (s : A) (o p : Outcome) (c d : ℕ) (es fs : List Event) (done : List (List Event)) → p ≡ o → d ≡ c → fs ≡ es →
    HaveNoneBefore w outcome s o c es done → HaveNoneBefore w outcome s p d fs done
none_as w outcome s o p c d es fs done seen cost events h =
    subst (λ (x : Outcome). HaveNoneBefore w outcome s x d fs done) (sym seen)
    (subst (λ (n : ℕ). HaveNoneBefore w outcome s o n fs done) (sym cost)
    (subst (λ (xs : List Event). HaveNoneBefore w outcome s o c xs done) (sym events) h))

-- what comes before these comes before others
pub none_nearer : {A : Type 0} (w : Machine A) (outcome : A → Outcome) (s : A) (seen : Outcome) (c d : ℕ) (es fs : List Event) (done : List (List Event)) →
    ((b : ℕ) (xs : List Event) → comes_before b xs c es ≡ false → comes_before b xs d fs ≡ false) → HaveNoneBefore w outcome s seen c es done → HaveNoneBefore w outcome s seen d fs done
none_nearer w outcome s seen c d es fs [] nearer h = tt
none_nearer w outcome s seen c d es fs (x ∷ xs) nearer h = ((λ same. nearer (preemptions w s x) x (h.0 same)), none_nearer w outcome s seen c d es fs xs nearer h.1)

none_more : {A : Type 0} (w : Machine A) (outcome : A → Outcome) (s : A) (seen : Outcome) (c : ℕ) (events es : List Event) (done : List (List Event)) →
    HaveNoneBefore w outcome s seen c events done → (outcome (end_of w s es) ≡ seen → comes_before (preemptions w s es) es c events ≡ false) →
    HaveNoneBefore w outcome s seen c events (done ++ es ∷ [])
none_more w outcome s seen c events es [] h last = (last, tt)
none_more w outcome s seen c events es (d ∷ ds) h last = (h.0, none_more w outcome s seen c events es ds h.1 last)

-- no schedule that was tried came to an outcome that is not there
pub no_number : {A : Type 0} (w : Machine A) (outcome : A → Outcome) (s : A) (seen : Outcome) (found : List Found) (done : List (List Event)) →
    AreShown w outcome s found done → (Shows found seen → ⊥) → IsNumber w outcome s seen done 0
no_number w outcome s seen found [] shown absent = refl
no_number w outcome s seen found (d ∷ ds) shown absent =
    inl ((λ same. absent (subst (λ (o : Outcome). Shows found o) same shown.0)), no_number w outcome s seen found ds shown.1 absent)

pub none_come : {A : Type 0} (w : Machine A) (outcome : A → Outcome) (s : A) (seen : Outcome) (c : ℕ) (events : List Event) (found : List Found) (done : List (List Event)) →
    AreShown w outcome s found done → (Shows found seen → ⊥) → HaveNoneBefore w outcome s seen c events done
none_come w outcome s seen c events found [] shown absent = tt
none_come w outcome s seen c events found (d ∷ ds) shown absent =
    ((λ same. absurd (absent (subst (λ (o : Outcome). Shows found o) same shown.0))), none_come w outcome s seen c events found ds shown.1 absent)

-- one that is found again
number_again : {A : Type 0} (w : Machine A) (outcome : A → Outcome) (s : A) (f g : Found) (es : List Event) (done : List (List Event)) → g.outcome ≡ f.outcome → g.schedules ≡ f.schedules + 1 →
    IsNumber w outcome s f.outcome done f.schedules → outcome (end_of w s es) ≡ f.outcome → IsNumber w outcome s g.outcome (done ++ es ∷ []) g.schedules
number_again w outcome s f g es done seen more h same =
    let e : suc f.schedules ≡ g.schedules = omega arith in
    subst (λ (m : ℕ). IsNumber w outcome s g.outcome (done ++ es ∷ []) m) e
    (subst (λ (o : Outcome). IsNumber w outcome s o (done ++ es ∷ []) (suc f.schedules)) (sym seen) (number_one w outcome s f.outcome es done f.schedules h same))

first_again : {A : Type 0} (w : Machine A) (outcome : A → Outcome) (s : A) (f g : Found) (es : List Event) (done : List (List Event)) → g.outcome ≡ f.outcome →
    IsPreferred (preemptions w s es) es f g → HaveNoneBefore w outcome s f.outcome f.preemptions f.events done →
    HaveNoneBefore w outcome s g.outcome g.preemptions g.events (done ++ es ∷ [])
first_again w outcome s f g es done seen (inl new) h =
    let c = preemptions w s es in
    none_as w outcome s f.outcome g.outcome c g.preemptions es g.events (done ++ es ∷ []) seen new.2 new.1
    (none_more w outcome s f.outcome c es es done
    (none_nearer w outcome s f.outcome f.preemptions c f.events es done (λ b xs not. nor_before b c f.preemptions xs es f.events not new.0) h)
    (λ same. none_before_itself c es))
first_again w outcome s f g es done seen (inr old) h =
    none_as w outcome s f.outcome g.outcome f.preemptions g.preemptions f.events g.events (done ++ es ∷ []) seen old.2 old.1
    (none_more w outcome s f.outcome f.preemptions f.events es done h (λ same. old.0))

found_again : {A : Type 0} (w : Machine A) (outcome : A → Outcome) (k n : ℕ) (s : A) (f g : Found) (es : List Event) (done : List (List Event)) → IsFound w outcome k n s done f →
    IsSchedule w k n s es → f.outcome ≡ outcome (end_of w s es) → IsAgain f es (preemptions w s es) g → f.schedules + 1 < 2 ^ 64 → IsFound w outcome k n s (done ++ es ∷ []) g
found_again w outcome k n s f g es done old is same again few =
    let number = number_again w outcome s f g es done again.outcome_is (omega arith) old.number (sym same) in
    let first = first_again w outcome s f g es done again.outcome_is again.kept old.first in
    elim again.kept [
      | inl new ↦ record {
        schedule = subst (IsSchedule w k n s) (sym new.1) is;
        outcome_is = again.outcome_is ∙ same ∙ ap (λ (xs : List Event). outcome (end_of w s xs)) (sym new.1);
        preempts = new.2 ∙ ap (preemptions w s) (sym new.1);
        number = number;
        first = first;
      }
      | inr kept ↦ record {
        schedule = subst (IsSchedule w k n s) (sym kept.1) old.schedule;
        outcome_is = again.outcome_is ∙ old.outcome_is ∙ ap (λ (xs : List Event). outcome (end_of w s xs)) (sym kept.1);
        preempts = kept.2 ∙ old.preempts ∙ ap (preemptions w s) (sym kept.1);
        number = number;
        first = first;
      }
    ]

-- one that another outcome is found beside
found_still : {A : Type 0} (w : Machine A) (outcome : A → Outcome) (k n : ℕ) (s : A) (f : Found) (es : List Event) (done : List (List Event)) → IsFound w outcome k n s done f →
    f.outcome ≢ outcome (end_of w s es) → IsFound w outcome k n s (done ++ es ∷ []) f
found_still w outcome k n s f es done old differs = record {
  schedule = old.schedule;
  outcome_is = old.outcome_is;
  preempts = old.preempts;
  number = number_other w outcome s f.outcome es done f.schedules old.number (λ e. differs (sym e));
  first = none_more w outcome s f.outcome f.preemptions f.events es done old.first (λ e. absurd (differs (sym e)));
}

all_still : {A : Type 0} (w : Machine A) (outcome : A → Outcome) (k n : ℕ) (s : A) (found : List Found) (es : List Event) (done : List (List Event)) →
    AreFound w outcome k n s done found → (Shows found (outcome (end_of w s es)) → ⊥) → AreFound w outcome k n s (done ++ es ∷ []) found
all_still w outcome k n s [] es done each absent = tt
all_still w outcome k n s (f ∷ fs) es done each absent =
    (found_still w outcome k n s f es done each.0 (λ e. absent (inl e)), all_still w outcome k n s fs es done each.1 (λ there. absent (inr there)))

-- what is known of an outcome that is not there
record IsAbsent {A : Type 0} (w : Machine A) (outcome : A → Outcome) (s : A) (es : List Event) (done : List (List Event)) : Type 0 where
  none : IsNumber w outcome s (outcome (end_of w s es)) done 0
  first : HaveNoneBefore w outcome s (outcome (end_of w s es)) (preemptions w s es) es done

stay_found : {A : Type 0} (w : Machine A) (outcome : A → Outcome) (k n : ℕ) (s : A) (found new : List Found) (es : List Event) (done : List (List Event)) → IsSchedule w k n s es →
    Noted found (outcome (end_of w s es)) es (preemptions w s es) new → AreFound w outcome k n s done found → AreDistinct found → counted found + 1 < 2 ^ 64 →
    ((Shows found (outcome (end_of w s es)) → ⊥) → IsAbsent w outcome s es done) → AreFound w outcome k n s (done ++ es ∷ []) new
stay_found w outcome k n s [] new es done is h each distinct few absent =
    let before = absent (λ none. none) in
    subst (AreFound w outcome k n s (done ++ es ∷ [])) (sym h) (
      record {
        schedule = is;
        outcome_is = refl;
        preempts = refl;
        number = number_one w outcome s (outcome (end_of w s es)) es done 0 before.none refl;
        first = none_more w outcome s (outcome (end_of w s es)) (preemptions w s es) es es done before.first (λ e. none_before_itself (preemptions w s es) es);
      },
      tt,
    )
stay_found w outcome k n s (f ∷ fs) [] es done is h each distinct few absent = absurd h
stay_found w outcome k n s (f ∷ fs) (g ∷ gs) es done is (inl h) each distinct few absent = (
  found_again w outcome k n s f g es done each.0 is h.0 h.1 (omega arith),
  subst (AreFound w outcome k n s (done ++ es ∷ [])) (sym h.2)
      (all_still w outcome k n s fs es done each.1 (λ there. distinct.0 (subst (λ (o : Outcome). Shows fs o) (sym h.0) there))),
)
stay_found w outcome k n s (f ∷ fs) (g ∷ gs) es done is (inr h) each distinct few absent = (
  subst (IsFound w outcome k n s (done ++ es ∷ [])) (sym h.1) (found_still w outcome k n s f es done each.0 h.0),
  stay_found w outcome k n s fs gs es done is h.2 each.1 distinct.1 (omega arith)
      (λ gone. absent (λ there. elim there [ inl e ↦ h.0 e | inr rest ↦ gone rest ])),
)

stay_shown : {A : Type 0} (w : Machine A) (outcome : A → Outcome) (s : A) (found new : List Found) (es : List Event) (done : List (List Event)) →
    Noted found (outcome (end_of w s es)) es (preemptions w s es) new → AreShown w outcome s found done → AreShown w outcome s new (done ++ es ∷ [])
stay_shown w outcome s found new es [] h shown = (shows_it found new (outcome (end_of w s es)) es (preemptions w s es) h, tt)
stay_shown w outcome s found new es (d ∷ ds) h shown =
    (still_shows found new (outcome (end_of w s es)) (outcome (end_of w s d)) es (preemptions w s es) h shown.0, stay_shown w outcome s found new es ds h shown.1)

-- one more schedule was counted
pub tally_more : {A : Type 0} (w : Machine A) (outcome : A → Outcome) (k n : ℕ) (s : A) (found new : List Found) (es : List Event) (done : List (List Event)) →
    IsTally w outcome k n s done found → IsSchedule w k n s es → length done + 1 < 2 ^ 64 →
    Noted found (outcome (end_of w s es)) es (preemptions w s es) new → IsTally w outcome k n s (done ++ es ∷ []) new
tally_more w outcome k n s found new es done tally is few h =
    let was = tally.counts in
    let seen = outcome (end_of w s es) in
    record {
      each = stay_found w outcome k n s found new es done is h tally.each tally.distinct (omega arith)
          (λ absent. record {
            none = no_number w outcome s seen found done tally.shown absent;
            first = none_come w outcome s seen (preemptions w s es) es found done tally.shown absent;
          });
      distinct = stay_distinct found new (outcome (end_of w s es)) es (preemptions w s es) h tally.distinct;
      counts =
          (let more = counts_more found new (outcome (end_of w s es)) es (preemptions w s es) h (omega arith) in
          let longer = length-append done (es ∷ []) in
          omega arith);
      shown = stay_shown w outcome s found new es done h tally.shown;
    }

-- what was counted is shown
pub is_shown : {A : Type 0} (w : Machine A) (outcome : A → Outcome) (s : A) (found : List Found) (done : List (List Event)) (es : List Event) →
    AreShown w outcome s found done → In done es → Shows found (outcome (end_of w s es))
is_shown w outcome s found [] es shown h = absurd h
is_shown w outcome s found (d ∷ ds) es shown (inl e) = subst (λ (xs : List Event). Shows found (outcome (end_of w s xs))) e shown.0
is_shown w outcome s found (d ∷ ds) es shown (inr h) = is_shown w outcome s found ds es shown.1 h
