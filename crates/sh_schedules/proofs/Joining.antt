-- What was found in two parts of the schedules, joined, is what is found in both.
use Rattle.std.proofs.Common.{◌≡◌, ◌≢◌, ℕ, ◌+◌, ◌<◌, ◌^◌, ◌⊎◌, inl, inr, List, [], ◌∷◌, ◌++◌, length, refl, sym, ap, ◌∙◌, subst, arith, length-append}
use Rattle.sh_exec.specs.declared.event.Event.{Event}
use Rattle.sh_schedules_outcomes.specs.Schedules.{IsSchedule, Machine, end_of, preemptions}
use Rattle.sh_schedules_outcomes.specs.Found.{AreDistinct, AreFound, AreShown, HaveNoneBefore, IsFound, IsNumber, IsPreferred, IsSum, IsTally, Joined, JoinedAll, Shows, counted}
use Rattle.sh_schedules_outcomes.specs.declared.found.Found.{Found}
use Rattle.sh_schedules_outcomes.specs.declared.outcome.Outcome.{Outcome}
use Rattle.sh_schedules_outcomes.proofs.Preferring.{nor_before, nor_behind}
use Rattle.sh_schedules_outcomes.proofs.Tally.{no_number, none_as, none_come, none_nearer}

-- ---- what is known after one that was found elsewhere was added
counts_one : (found new : List Found) (one : Found) → Joined found one new → counted found + one.schedules < 2 ^ 64 → counted new ≡ counted found + one.schedules
counts_one [] new one h few = let e = ap counted h in omega arith
counts_one (f ∷ fs) [] one h few = absurd h
counts_one (f ∷ fs) (g ∷ gs) one (inl h) few =
    let sum = h.1.counts in
    let rest = ap counted h.2 in
    omega arith
counts_one (f ∷ fs) (g ∷ gs) one (inr h) few =
    let same = ap (λ (x : Found). x.schedules) h.1 in
    let rest = counts_one fs gs one h.2 (omega arith) in
    omega arith

shows_one : (found new : List Found) (one : Found) → Joined found one new → Shows new one.outcome
shows_one [] new one h = subst (λ (fs : List Found). Shows fs one.outcome) (sym h) (inl refl)
shows_one (f ∷ fs) [] one h = absurd h
shows_one (f ∷ fs) (g ∷ gs) one (inl h) = inl (h.1.outcome_is ∙ h.0)
shows_one (f ∷ fs) (g ∷ gs) one (inr h) = inr (shows_one fs gs one h.2)

shows_still : (found new : List Found) (one : Found) (seen : Outcome) → Joined found one new → Shows found seen → Shows new seen
shows_still [] new one seen h old = absurd old
shows_still (f ∷ fs) [] one seen h old = absurd h
shows_still (f ∷ fs) (g ∷ gs) one seen (inl h) (inl e) = inl (h.1.outcome_is ∙ e)
shows_still (f ∷ fs) (g ∷ gs) one seen (inl h) (inr old) = inr (subst (λ (xs : List Found). Shows xs seen) (sym h.2) old)
shows_still (f ∷ fs) (g ∷ gs) one seen (inr h) (inl e) = inl (ap (λ (x : Found). x.outcome) h.1 ∙ e)
shows_still (f ∷ fs) (g ∷ gs) one seen (inr h) (inr old) = inr (shows_still fs gs one seen h.2 old)

shows_just : (found new : List Found) (one : Found) (seen : Outcome) → Joined found one new → Shows new seen → (one.outcome ≡ seen) ⊎ Shows found seen
shows_just [] new one seen h now =
    elim (subst (λ (fs : List Found). Shows fs seen) h now) [ inl e ↦ inl e | inr none ↦ absurd none ]
shows_just (f ∷ fs) [] one seen h now = absurd h
shows_just (f ∷ fs) (g ∷ gs) one seen (inl h) (inl e) = inr (inl (sym h.1.outcome_is ∙ e))
shows_just (f ∷ fs) (g ∷ gs) one seen (inl h) (inr now) = inr (inr (subst (λ (xs : List Found). Shows xs seen) h.2 now))
shows_just (f ∷ fs) (g ∷ gs) one seen (inr h) (inl e) = inr (inl (sym (ap (λ (x : Found). x.outcome) h.1) ∙ e))
shows_just (f ∷ fs) (g ∷ gs) one seen (inr h) (inr now) =
    elim (shows_just fs gs one seen h.2 now) [ inl e ↦ inl e | inr old ↦ inr (inr old) ]

distinct_one : (found new : List Found) (one : Found) → Joined found one new → AreDistinct found → AreDistinct new
distinct_one [] new one h d = subst AreDistinct (sym h) ((λ none. none), tt)
distinct_one (f ∷ fs) [] one h d = absurd h
distinct_one (f ∷ fs) (g ∷ gs) one (inl h) d =
    ((λ now. d.0 (subst (λ (xs : List Found). Shows xs f.outcome) h.2 (subst (λ (o : Outcome). Shows gs o) h.1.outcome_is now))), subst AreDistinct (sym h.2) d.1)
distinct_one (f ∷ fs) (g ∷ gs) one (inr h) d = (
  (λ now. elim (shows_just fs gs one f.outcome h.2 (subst (λ (x : Found). Shows gs x.outcome) h.1 now)) [ inl e ↦ h.0 (sym e) | inr old ↦ d.0 old ]),
  distinct_one fs gs one h.2 d.1,
)

-- ---- what is known after all were added
counts_all : (found ones new : List Found) → JoinedAll found ones new → counted found + counted ones < 2 ^ 64 → counted new ≡ counted found + counted ones
counts_all found [] new h few = let e = ap counted h in omega arith
counts_all found (one ∷ ones) new h few =
    let first = counts_one found h.0 one h.1 (omega arith) in
    let rest = counts_all h.0 ones new h.2 (omega arith) in
    omega arith

still_all : (found ones new : List Found) (seen : Outcome) → JoinedAll found ones new → Shows found seen → Shows new seen
still_all found [] new seen h old = subst (λ (fs : List Found). Shows fs seen) (sym h) old
still_all found (one ∷ ones) new seen h old = still_all h.0 ones new seen h.2 (shows_still found h.0 one seen h.1 old)

shows_all : (found ones new : List Found) (seen : Outcome) → JoinedAll found ones new → Shows ones seen → Shows new seen
shows_all found [] new seen h there = absurd there
shows_all found (one ∷ ones) new seen h (inl e) =
    still_all h.0 ones new seen h.2 (subst (λ (o : Outcome). Shows h.0 o) e (shows_one found h.0 one h.1))
shows_all found (one ∷ ones) new seen h (inr there) = shows_all h.0 ones new seen h.2 there

distinct_all : (found ones new : List Found) → JoinedAll found ones new → AreDistinct found → AreDistinct new
distinct_all found [] new h d = subst AreDistinct (sym h) d
distinct_all found (one ∷ ones) new h d = distinct_all h.0 ones new h.2 (distinct_one found h.0 one h.1 d)

-- ---- numbers and the first ones of both parts
number_both : {A : Type 0} (w : Machine A) (outcome : A → Outcome) (s : A) (seen : Outcome) (done others : List (List Event)) (a b : ℕ) →
    IsNumber w outcome s seen done a → IsNumber w outcome s seen others b → IsNumber w outcome s seen (done ++ others) (a + b)
number_both w outcome s seen [] others a b h g =
    let e : b ≡ a + b = omega arith in
    subst (IsNumber w outcome s seen others) e g
number_both w outcome s seen (d ∷ ds) others a b (inl h) g = inl (h.0, number_both w outcome s seen ds others a b h.1 g)
number_both w outcome s seen (d ∷ ds) others a b (inr h) g =
    let less = h.1 in
    inr (h.0 + b, omega arith, h.2, number_both w outcome s seen ds others h.0 b h.3 g)

none_in_both : {A : Type 0} (w : Machine A) (outcome : A → Outcome) (s : A) (seen : Outcome) (c : ℕ) (events : List Event) (done others : List (List Event)) →
    HaveNoneBefore w outcome s seen c events done → HaveNoneBefore w outcome s seen c events others → HaveNoneBefore w outcome s seen c events (done ++ others)
none_in_both w outcome s seen c events [] others h g = g
none_in_both w outcome s seen c events (d ∷ ds) others h g = (h.0, none_in_both w outcome s seen c events ds others h.1 g)

shown_both : {A : Type 0} (w : Machine A) (outcome : A → Outcome) (s : A) (found : List Found) (done others : List (List Event)) →
    AreShown w outcome s found done → AreShown w outcome s found others → AreShown w outcome s found (done ++ others)
shown_both w outcome s found [] others h g = g
shown_both w outcome s found (d ∷ ds) others h g = (h.0, shown_both w outcome s found ds others h.1 g)

shown_by : {A : Type 0} (w : Machine A) (outcome : A → Outcome) (s : A) (found new : List Found) (done : List (List Event)) →
    ((seen : Outcome) → Shows found seen → Shows new seen) → AreShown w outcome s found done → AreShown w outcome s new done
shown_by w outcome s found new [] more h = tt
shown_by w outcome s found new (d ∷ ds) more h = (more (outcome (end_of w s d)) h.0, shown_by w outcome s found new ds more h.1)

-- ---- one outcome in both parts
-- none of these schedules comes to its outcome
record IsNew {A : Type 0} (w : Machine A) (outcome : A → Outcome) (s : A) (done : List (List Event)) (f : Found) : Type 0 where
  none : IsNumber w outcome s f.outcome done 0
  first : HaveNoneBefore w outcome s f.outcome f.preemptions f.events done

is_new : {A : Type 0} (w : Machine A) (outcome : A → Outcome) (s : A) (done : List (List Event)) (found : List Found) (f : Found) →
    AreShown w outcome s found done → (Shows found f.outcome → ⊥) → IsNew w outcome s done f
is_new w outcome s done found f shown absent =
    record {
      none = no_number w outcome s f.outcome found done shown absent;
      first = none_come w outcome s f.outcome f.preemptions f.events found done shown absent;
    }

-- no other schedule comes to it
found_first : {A : Type 0} (w : Machine A) (outcome : A → Outcome) (k n : ℕ) (s : A) (done others : List (List Event)) (f : Found) →
    IsFound w outcome k n s done f → IsNew w outcome s others f → IsFound w outcome k n s (done ++ others) f
found_first w outcome k n s done others f is new =
    let e : f.schedules + 0 ≡ f.schedules = omega arith in
    record {
      schedule = is.schedule;
      outcome_is = is.outcome_is;
      preempts = is.preempts;
      number = subst (IsNumber w outcome s f.outcome (done ++ others)) e (number_both w outcome s f.outcome done others f.schedules 0 is.number new.none);
      first = none_in_both w outcome s f.outcome f.preemptions f.events done others is.first new.first;
    }

found_second : {A : Type 0} (w : Machine A) (outcome : A → Outcome) (k n : ℕ) (s : A) (done others : List (List Event)) (f : Found) →
    IsFound w outcome k n s others f → IsNew w outcome s done f → IsFound w outcome k n s (done ++ others) f
found_second w outcome k n s done others f is new =
    let e : 0 + f.schedules ≡ f.schedules = omega arith in
    record {
      schedule = is.schedule;
      outcome_is = is.outcome_is;
      preempts = is.preempts;
      number = subst (IsNumber w outcome s f.outcome (done ++ others)) e (number_both w outcome s f.outcome done others 0 f.schedules new.none is.number);
      first = none_in_both w outcome s f.outcome f.preemptions f.events done others new.first is.first;
    }

number_sum : {A : Type 0} (w : Machine A) (outcome : A → Outcome) (s : A) (done others : List (List Event)) (f one g : Found) → g.outcome ≡ f.outcome → f.outcome ≡ one.outcome →
    g.schedules ≡ f.schedules + one.schedules → IsNumber w outcome s f.outcome done f.schedules → IsNumber w outcome s one.outcome others one.schedules →
    IsNumber w outcome s g.outcome (done ++ others) g.schedules
number_sum w outcome s done others f one g seen same sum h i =
    subst (IsNumber w outcome s g.outcome (done ++ others)) (sym sum)
    (number_both w outcome s g.outcome done others f.schedules one.schedules
    (subst (λ (o : Outcome). IsNumber w outcome s o done f.schedules) (sym seen) h)
    (subst (λ (o : Outcome). IsNumber w outcome s o others one.schedules) (sym (seen ∙ same)) i))

first_sum : {A : Type 0} (w : Machine A) (outcome : A → Outcome) (s : A) (done others : List (List Event)) (f one g : Found) → g.outcome ≡ f.outcome → f.outcome ≡ one.outcome →
    IsPreferred one.preemptions one.events f g → HaveNoneBefore w outcome s f.outcome f.preemptions f.events done → HaveNoneBefore w outcome s one.outcome one.preemptions one.events others →
    HaveNoneBefore w outcome s g.outcome g.preemptions g.events (done ++ others)
first_sum w outcome s done others f one g seen same (inl new) h i =
    none_as w outcome s f.outcome g.outcome one.preemptions g.preemptions one.events g.events (done ++ others) seen new.2 new.1
    (none_in_both w outcome s f.outcome one.preemptions one.events done others
    (none_nearer w outcome s f.outcome f.preemptions one.preemptions f.events one.events done (λ b xs not. nor_before b one.preemptions f.preemptions xs one.events f.events not new.0) h)
    (none_as w outcome s one.outcome f.outcome one.preemptions one.preemptions one.events one.events others same refl refl i))
first_sum w outcome s done others f one g seen same (inr old) h i =
    none_as w outcome s f.outcome g.outcome f.preemptions g.preemptions f.events g.events (done ++ others) seen old.2 old.1
    (none_in_both w outcome s f.outcome f.preemptions f.events done others h
    (none_nearer w outcome s f.outcome one.preemptions f.preemptions one.events f.events others (λ b xs not. nor_behind b one.preemptions f.preemptions xs one.events f.events not old.0)
    (none_as w outcome s one.outcome f.outcome one.preemptions one.preemptions one.events one.events others same refl refl i)))

found_sum : {A : Type 0} (w : Machine A) (outcome : A → Outcome) (k n : ℕ) (s : A) (done others : List (List Event)) (f one g : Found) → IsFound w outcome k n s done f →
    IsFound w outcome k n s others one → f.outcome ≡ one.outcome → IsSum f one g → f.schedules + one.schedules < 2 ^ 64 → IsFound w outcome k n s (done ++ others) g
found_sum w outcome k n s done others f one g old other same sum few =
    let number = number_sum w outcome s done others f one g sum.outcome_is same (omega arith) old.number other.number in
    let first = first_sum w outcome s done others f one g sum.outcome_is same sum.kept old.first other.first in
    elim sum.kept [
      | inl new ↦ record {
        schedule = subst (IsSchedule w k n s) (sym new.1) other.schedule;
        outcome_is = sum.outcome_is ∙ same ∙ other.outcome_is ∙ ap (λ (xs : List Event). outcome (end_of w s xs)) (sym new.1);
        preempts = new.2 ∙ other.preempts ∙ ap (preemptions w s) (sym new.1);
        number = number;
        first = first;
      }
      | inr kept ↦ record {
        schedule = subst (IsSchedule w k n s) (sym kept.1) old.schedule;
        outcome_is = sum.outcome_is ∙ old.outcome_is ∙ ap (λ (xs : List Event). outcome (end_of w s xs)) (sym kept.1);
        preempts = kept.2 ∙ old.preempts ∙ ap (preemptions w s) (sym kept.1);
        number = number;
        first = first;
      }
    ]

-- ---- all outcomes, as one after another is added
-- it counts the schedules of the first part, as long as one with its outcome is still to be added, and else those of both
record IsBetween {A : Type 0} (w : Machine A) (outcome : A → Outcome) (k n : ℕ) (s : A) (done others : List (List Event)) (ones : List Found) (f : Found) : Type 0 where
  before : Shows ones f.outcome → IsFound w outcome k n s done f
  after : (Shows ones f.outcome → ⊥) → IsFound w outcome k n s (done ++ others) f

abbrev AreBetween : {A : Type 0} → Machine A → (A → Outcome) → ℕ → ℕ → A → List (List Event) → List (List Event) → List Found → List Found → Type 0
AreBetween w outcome k n s done others ones [] = Unit {0}
AreBetween w outcome k n s done others ones (f ∷ fs) = IsBetween w outcome k n s done others ones f × AreBetween w outcome k n s done others ones fs

at_first : {A : Type 0} (w : Machine A) (outcome : A → Outcome) (k n : ℕ) (s : A) (done others : List (List Event)) (ones found : List Found) →
    AreFound w outcome k n s done found → AreShown w outcome s ones others → AreBetween w outcome k n s done others ones found
at_first w outcome k n s done others ones [] each shown = tt
at_first w outcome k n s done others ones (f ∷ fs) each shown = (
  record {
    before = λ there. each.0;
    after = λ absent. found_first w outcome k n s done others f each.0 (is_new w outcome s others ones f shown absent);
  },
  at_first w outcome k n s done others ones fs each.1 shown,
)

at_last : {A : Type 0} (w : Machine A) (outcome : A → Outcome) (k n : ℕ) (s : A) (done others : List (List Event)) (found : List Found) →
    AreBetween w outcome k n s done others [] found → AreFound w outcome k n s (done ++ others) found
at_last w outcome k n s done others [] each = tt
at_last w outcome k n s done others (f ∷ fs) each = (each.0.after (λ none. none), at_last w outcome k n s done others fs each.1)

-- another outcome is added
other_still : {A : Type 0} (w : Machine A) (outcome : A → Outcome) (k n : ℕ) (s : A) (done others : List (List Event)) (one : Found) (ones : List Found) (f : Found) →
    f.outcome ≢ one.outcome → IsBetween w outcome k n s done others (one ∷ ones) f → IsBetween w outcome k n s done others ones f
other_still w outcome k n s done others one ones f differs is = record {
  before = λ there. is.before (inr there);
  after = λ absent. is.after (λ there. elim there [ inl e ↦ differs (sym e) | inr rest ↦ absent rest ]);
}

others_still : {A : Type 0} (w : Machine A) (outcome : A → Outcome) (k n : ℕ) (s : A) (done others : List (List Event)) (one : Found) (ones found : List Found) →
    (Shows found one.outcome → ⊥) → AreBetween w outcome k n s done others (one ∷ ones) found → AreBetween w outcome k n s done others ones found
others_still w outcome k n s done others one ones [] absent each = tt
others_still w outcome k n s done others one ones (f ∷ fs) absent each = (
  other_still w outcome k n s done others one ones f (λ e. absent (inl e)) each.0,
  others_still w outcome k n s done others one ones fs (λ there. absent (inr there)) each.1,
)

-- one that none of those still to be added has the outcome of
is_whole : {A : Type 0} (w : Machine A) (outcome : A → Outcome) (k n : ℕ) (s : A) (done others : List (List Event)) (ones : List Found) (f : Found) →
    (Shows ones f.outcome → ⊥) → IsFound w outcome k n s (done ++ others) f → IsBetween w outcome k n s done others ones f
is_whole w outcome k n s done others ones f absent is = record { before = λ there. absurd (absent there); after = λ gone. is }

one_more : {A : Type 0} (w : Machine A) (outcome : A → Outcome) (k n : ℕ) (s : A) (done others : List (List Event)) (one : Found) (ones found new : List Found) → Joined found one new →
    AreBetween w outcome k n s done others (one ∷ ones) found → IsFound w outcome k n s others one → (Shows ones one.outcome → ⊥) → AreDistinct found →
    counted found + one.schedules < 2 ^ 64 → ((Shows found one.outcome → ⊥) → IsNew w outcome s done one) → AreBetween w outcome k n s done others ones new
one_more w outcome k n s done others one ones [] new h each is once distinct few absent =
    subst (AreBetween w outcome k n s done others ones) (sym h)
    (is_whole w outcome k n s done others ones one once (found_second w outcome k n s done others one is (absent (λ none. none))), tt)
one_more w outcome k n s done others one ones (f ∷ fs) [] h each is once distinct few absent = absurd h
one_more w outcome k n s done others one ones (f ∷ fs) (g ∷ gs) (inl h) each is once distinct few absent = (
  is_whole w outcome k n s done others ones g (λ there. once (subst (λ (o : Outcome). Shows ones o) (h.1.outcome_is ∙ h.0) there))
      (found_sum w outcome k n s done others f one g (each.0.before (inl (sym h.0))) is h.0 h.1 (omega arith)),
  subst (AreBetween w outcome k n s done others ones) (sym h.2)
      (others_still w outcome k n s done others one ones fs (λ there. distinct.0 (subst (λ (o : Outcome). Shows fs o) (sym h.0) there)) each.1),
)
one_more w outcome k n s done others one ones (f ∷ fs) (g ∷ gs) (inr h) each is once distinct few absent = (
  subst (IsBetween w outcome k n s done others ones) (sym h.1) (other_still w outcome k n s done others one ones f h.0 each.0),
  one_more w outcome k n s done others one ones fs gs h.2 each.1 is once distinct.1 (omega arith)
      (λ gone. absent (λ there. elim there [ inl e ↦ h.0 e | inr rest ↦ gone rest ])),
)

all_more : {A : Type 0} (w : Machine A) (outcome : A → Outcome) (k n : ℕ) (s : A) (done others : List (List Event)) (ones found new : List Found) → JoinedAll found ones new →
    AreBetween w outcome k n s done others ones found → AreFound w outcome k n s others ones → AreDistinct ones → AreDistinct found →
    counted found + counted ones < 2 ^ 64 → AreShown w outcome s found done → AreFound w outcome k n s (done ++ others) new
all_more w outcome k n s done others [] found new h each are apart distinct few shown =
    subst (AreFound w outcome k n s (done ++ others)) (sym h) (at_last w outcome k n s done others found each)
all_more w outcome k n s done others (one ∷ ones) found new h each are apart distinct few shown =
    let first = counts_one found h.0 one h.1 (omega arith) in
    all_more w outcome k n s done others ones h.0 new h.2
    (one_more w outcome k n s done others one ones found h.0 h.1 each are.0 apart.0 distinct (omega arith) (λ absent. is_new w outcome s done found one shown absent))
    are.1 apart.1 (distinct_one found h.0 one h.1 distinct) (omega arith) (shown_by w outcome s found h.0 done (λ seen old. shows_still found h.0 one seen h.1 old) shown)

-- just the schedules of both parts were counted
pub tally_both : {A : Type 0} (w : Machine A) (outcome : A → Outcome) (k n : ℕ) (s : A) (done others : List (List Event)) (found ones new : List Found) →
    IsTally w outcome k n s done found → IsTally w outcome k n s others ones → length done + length others < 2 ^ 64 → JoinedAll found ones new →
    IsTally w outcome k n s (done ++ others) new
tally_both w outcome k n s done others found ones new one two few h =
    let first = one.counts in
    let second = two.counts in
    record {
      each = all_more w outcome k n s done others ones found new h (at_first w outcome k n s done others ones found one.each two.shown) two.each two.distinct one.distinct (omega arith) one.shown;
      distinct = distinct_all found ones new h one.distinct;
      counts =
          (let sum = counts_all found ones new h (omega arith) in
          let longer = length-append done others in
          omega arith);
      shown = shown_both w outcome s new done others
          (shown_by w outcome s found new done (λ seen old. still_all found ones new seen h old) one.shown)
          (shown_by w outcome s ones new others (λ seen there. shows_all found ones new seen h there) two.shown);
    }
