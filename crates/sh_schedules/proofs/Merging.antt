-- What was found in all shards, joined in any order, is an exploration.
use Rattle.std.proofs.Common.{◌≡◌, ◌≢◌, ℕ, suc, ◌+◌, ◌%◌, ◌<◌, ◌≤◌, ◌^◌, inl, inr, Bool, true, false, nat_eq, List, [], ◌∷◌, ◌++◌, length, refl, sym, ap, ◌∙◌, subst, arith, length-append, append_assoc, append-nil}
use Rattle.std.proofs.lemmas.Bool.{eqb-true}
use Rattle.std.proofs.lemmas.List.{take_all}
use Rattle.std.proofs.lemmas.Nat.{mod_below}
use Rattle.sh_exec.specs.declared.event.Event.{Event}
use Rattle.sh_schedules_outcomes.specs.Schedules.{Machine, end_of}
use Rattle.sh_schedules_outcomes.specs.Choices.{AreApart, In, schedules}
use Rattle.sh_schedules_outcomes.specs.Found.{AreFound, AreShown, HaveNoneBefore, IsNumber, IsTally, JoinedInTurn, Shows}
use Rattle.sh_schedules.specs.Shards.{AreAllShards, first_mark, is_of_shard, marked, shard_at, shard_of, those, with_next}
use Rattle.sh_schedules.specs.Trying.{IsExploration, IsShardExploration}
use Rattle.sh_schedules_outcomes.specs.declared.found.Found.{Found}
use Rattle.sh_schedules_outcomes.specs.declared.outcome.Outcome.{Outcome}
use Rattle.sh_schedules.specs.declared.shard.Shard.{Shard}
use Rattle.sh_schedules.proofs.Joining.{tally_both}
use Rattle.sh_schedules_outcomes.proofs.Orders.{complete, sound}
use Rattle.sh_schedules.proofs.Shards.{those_among}
use Rattle.sh_schedules.proofs.Sharing.{dealt_is, is_mine, same_number}
use Rattle.sh_schedules_outcomes.proofs.Tally.{is_shown}

-- ---- the same schedules in another order
-- one is put in somewhere
record IsInserted (es : List Event) (all more : List (List Event)) : Type 0 where
  front : List (List Event)
  back : List (List Event)
  without : all ≡ front ++ back
  within : more ≡ front ++ es ∷ back

inserted_behind : (es : List Event) (xs all more : List (List Event)) → IsInserted es all more → IsInserted es (xs ++ all) (xs ++ more)
inserted_behind es [] all more h = h
inserted_behind es (x ∷ xs) all more h =
    let below = inserted_behind es xs all more h in
    record { front = x ∷ below.front; back = below.back; without = ap (λ (ys : List (List Event)). x ∷ ys) below.without; within = ap (λ (ys : List (List Event)). x ∷ ys) below.within }

abbrev IsReordered : List (List Event) → List (List Event) → Type 0
IsReordered xs [] = xs ≡ []
IsReordered xs (y ∷ ys) = (rest : List (List Event)) × IsInserted y rest xs × IsReordered rest ys

number_out : {A : Type 0} (w : Machine A) (outcome : A → Outcome) (s : A) (seen : Outcome) (es : List Event) (front back : List (List Event)) (m : ℕ) →
    IsNumber w outcome s seen (front ++ es ∷ back) m → IsNumber w outcome s seen (es ∷ front ++ back) m
number_out w outcome s seen es [] back m h = h
number_out w outcome s seen es (f ∷ fs) back m (inl h) =
    elim (number_out w outcome s seen es fs back m h.1) [ inl g ↦ inl (g.0, inl (h.0, g.1)) | inr g ↦ inr (g.0, g.1, g.2, inl (h.0, g.3)) ]
number_out w outcome s seen es (f ∷ fs) back m (inr h) =
    elim (number_out w outcome s seen es fs back h.0 h.3) [
      | inl g ↦ inl (g.0, inr (h.0, h.1, h.2, g.1))
      | inr g ↦ inr (h.0, h.1, g.2, inr (g.0, g.1, h.2, g.3))
    ]

number_reordered : {A : Type 0} (w : Machine A) (outcome : A → Outcome) (s : A) (seen : Outcome) (xs ys : List (List Event)) (m : ℕ) →
    IsReordered xs ys → IsNumber w outcome s seen xs m → IsNumber w outcome s seen ys m
number_reordered w outcome s seen xs [] m h is = subst (λ (zs : List (List Event)). IsNumber w outcome s seen zs m) h is
number_reordered w outcome s seen xs (y ∷ ys) m h is =
    elim (number_out w outcome s seen y h.1.front h.1.back m (subst (λ (zs : List (List Event)). IsNumber w outcome s seen zs m) h.1.within is)) [
      | inl g ↦ inl (g.0, number_reordered w outcome s seen h.0 ys m h.2 (subst (λ (zs : List (List Event)). IsNumber w outcome s seen zs m) (sym h.1.without) g.1))
      | inr g ↦ inr (
        g.0,
        g.1,
        g.2,
        number_reordered w outcome s seen h.0 ys g.0 h.2 (subst (λ (zs : List (List Event)). IsNumber w outcome s seen zs g.0) (sym h.1.without) g.3),
      )
    ]

none_out : {A : Type 0} (w : Machine A) (outcome : A → Outcome) (s : A) (seen : Outcome) (c : ℕ) (events es : List Event) (front back : List (List Event)) →
    HaveNoneBefore w outcome s seen c events (front ++ es ∷ back) → HaveNoneBefore w outcome s seen c events (es ∷ front ++ back)
none_out w outcome s seen c events es [] back h = h
none_out w outcome s seen c events es (f ∷ fs) back h = let g = none_out w outcome s seen c events es fs back h.1 in (g.0, (h.0, g.1))

none_reordered : {A : Type 0} (w : Machine A) (outcome : A → Outcome) (s : A) (seen : Outcome) (c : ℕ) (events : List Event) (xs ys : List (List Event)) →
    IsReordered xs ys → HaveNoneBefore w outcome s seen c events xs → HaveNoneBefore w outcome s seen c events ys
none_reordered w outcome s seen c events xs [] h is = tt
none_reordered w outcome s seen c events xs (y ∷ ys) h is =
    let g = none_out w outcome s seen c events y h.1.front h.1.back (subst (HaveNoneBefore w outcome s seen c events) h.1.within is) in
    (g.0, none_reordered w outcome s seen c events h.0 ys h.2 (subst (HaveNoneBefore w outcome s seen c events) (sym h.1.without) g.1))

shown_out : {A : Type 0} (w : Machine A) (outcome : A → Outcome) (s : A) (found : List Found) (es : List Event) (front back : List (List Event)) →
    AreShown w outcome s found (front ++ es ∷ back) → AreShown w outcome s found (es ∷ front ++ back)
shown_out w outcome s found es [] back h = h
shown_out w outcome s found es (f ∷ fs) back h = let g = shown_out w outcome s found es fs back h.1 in (g.0, (h.0, g.1))

shown_reordered : {A : Type 0} (w : Machine A) (outcome : A → Outcome) (s : A) (found : List Found) (xs ys : List (List Event)) →
    IsReordered xs ys → AreShown w outcome s found xs → AreShown w outcome s found ys
shown_reordered w outcome s found xs [] h is = tt
shown_reordered w outcome s found xs (y ∷ ys) h is =
    let g = shown_out w outcome s found y h.1.front h.1.back (subst (AreShown w outcome s found) h.1.within is) in
    (g.0, shown_reordered w outcome s found h.0 ys h.2 (subst (AreShown w outcome s found) (sym h.1.without) g.1))

length_reordered : (xs ys : List (List Event)) → IsReordered xs ys → length xs ≡ length ys
length_reordered xs [] h = ap length h
length_reordered xs (y ∷ ys) h =
    let below = length_reordered h.0 ys h.2 in
    let without = ap length h.1.without in
    let within = ap length h.1.within in
    let less = length-append h.1.front h.1.back in
    let more = length-append h.1.front (y ∷ h.1.back) in
    omega arith

found_reordered : {A : Type 0} (w : Machine A) (outcome : A → Outcome) (k n : ℕ) (s : A) (xs ys : List (List Event)) (found : List Found) →
    IsReordered xs ys → AreFound w outcome k n s xs found → AreFound w outcome k n s ys found
found_reordered w outcome k n s xs ys [] h each = tt
found_reordered w outcome k n s xs ys (f ∷ fs) h each = (
  record {
    schedule = each.0.schedule;
    outcome_is = each.0.outcome_is;
    preempts = each.0.preempts;
    number = number_reordered w outcome s f.outcome xs ys f.schedules h each.0.number;
    first = none_reordered w outcome s f.outcome f.preemptions f.events xs ys h each.0.first;
  },
  found_reordered w outcome k n s xs ys fs h each.1,
)

tally_reordered : {A : Type 0} (w : Machine A) (outcome : A → Outcome) (k n : ℕ) (s : A) (xs ys : List (List Event)) (found : List Found) →
    IsReordered xs ys → IsTally w outcome k n s xs found → IsTally w outcome k n s ys found
tally_reordered w outcome k n s xs ys found h tally = record {
  each = found_reordered w outcome k n s xs ys found h tally.each;
  distinct = tally.distinct;
  counts = tally.counts ∙ length_reordered xs ys h;
  shown = shown_reordered w outcome s found xs ys h tally.shown;
}

-- ---- those of one shard after another
abbrev those_in_turn : (ℕ → List Event → Bool) → List ℕ → List (List Event) → List (List Event)
those_in_turn mine [] all = []
those_in_turn mine (i ∷ order) all = those (mine i) all ++ those_in_turn mine order all

none_left : (mine : ℕ → List Event → Bool) (order : List ℕ) → those_in_turn mine order [] ≡ []
none_left mine [] = refl
none_left mine (i ∷ order) = none_left mine order

next_is : (b : Bool) (es : List Event) (rest : List (List Event)) → b ≡ true → with_next b es rest ≡ es ∷ rest
next_is true es rest e = refl
next_is false es rest e = cc

next_not : (b : Bool) (es : List Event) (rest : List (List Event)) → b ≡ false → with_next b es rest ≡ rest
next_not true es rest e = cc
next_not false es rest e = refl

not_same : (j i : ℕ) (b : Bool) → nat_eq j i ≡ b → j ≢ i → b ≡ false
not_same j i true e differs = absurd (differs (eqb-true j i e))
not_same j i false e differs = refl

-- one that none of the shards has
none_mine : (mine : ℕ → List Event → Bool) (es : List Event) (rest : List (List Event)) (order : List ℕ) → ((i : ℕ) → In order i → mine i es ≡ false) →
    those_in_turn mine order (es ∷ rest) ≡ those_in_turn mine order rest
none_mine mine es rest [] not = refl
none_mine mine es rest (i ∷ order) not =
    ap (λ (ys : List (List Event)). ys ++ those_in_turn mine order (es ∷ rest)) (next_not (mine i es) es (those (mine i) rest) (not i (inl refl)))
    ∙ ap (λ (ys : List (List Event)). those (mine i) rest ++ ys) (none_mine mine es rest order (λ x there. not x (inr there)))

-- one that just one of them has
inserted_by : (mine : ℕ → List Event → Bool) (j : ℕ) (es : List Event) (rest : List (List Event)) (order : List ℕ) → ((i : ℕ) → In order i → mine i es ≡ nat_eq j i) →
    In order j → AreApart order → IsInserted es (those_in_turn mine order rest) (those_in_turn mine order (es ∷ rest))
inserted_by mine j es rest [] told there apart = absurd there
inserted_by mine j es rest (i ∷ order) told (inl e) apart =
    let is = told i (inl refl) ∙ ap (λ (x : ℕ). nat_eq x i) (sym e) ∙ same_number i (nat_eq i i) refl in
    let others =
    none_mine mine es rest order (λ x there. told x (inr there) ∙ not_same j x (nat_eq j x) refl (λ same. apart.0 (subst (In order) (sym same ∙ sym e) there))) in
    record {
      front = [];
      back = those_in_turn mine (i ∷ order) rest;
      without = refl;
      within =
          ap (λ (ys : List (List Event)). ys ++ those_in_turn mine order (es ∷ rest)) (next_is (mine i es) es (those (mine i) rest) is)
          ∙ ap (λ (ys : List (List Event)). (es ∷ those (mine i) rest) ++ ys) others;
    }
inserted_by mine j es rest (i ∷ order) told (inr there) apart =
    let not = told i (inl refl) ∙ not_same j i (nat_eq j i) refl (λ same. apart.0 (subst (In order) same there)) in
    let below = inserted_by mine j es rest order (λ x h. told x (inr h)) there apart.1 in
    subst (λ (ys : List (List Event)). IsInserted es (those (mine i) rest ++ those_in_turn mine order rest) (ys ++ those_in_turn mine order (es ∷ rest)))
    (sym (next_not (mine i es) es (those (mine i) rest) not))
    (inserted_behind es (those (mine i) rest) (those_in_turn mine order rest) (those_in_turn mine order (es ∷ rest)) below)

in_turn_reordered : (mine : ℕ → List Event → Bool) (number : List Event → ℕ) (order : List ℕ) → ((es : List Event) (i : ℕ) → In order i → mine i es ≡ nat_eq (number es) i) →
    ((es : List Event) → In order (number es)) → AreApart order → (all : List (List Event)) → IsReordered (those_in_turn mine order all) all
in_turn_reordered mine number order told has apart [] = none_left mine order
in_turn_reordered mine number order told has apart (es ∷ rest) = (
  those_in_turn mine order rest,
  inserted_by mine (number es) es rest order (told es) (has es) apart,
  in_turn_reordered mine number order told has apart rest,
)

-- ---- shards
-- those of all shards, in some order of the shards
abbrev in_turn : {A : Type 0} → Machine A → ℕ → ℕ → ℕ → A → List ℕ → List (List Event)
in_turn w k n last s order = those_in_turn (λ before. is_of_shard w (shard_at before last) s) order (schedules w k n s)

shards_reordered : {A : Type 0} (w : Machine A) (k n last : ℕ) (s : A) (order : List ℕ) → AreAllShards last order → IsReordered (in_turn w k n last s order) (schedules w k n s)
shards_reordered w k n last s order all =
    in_turn_reordered (λ before. is_of_shard w (shard_at before last) s) (λ es. (marked w first_mark s es).key % suc last) order
    (λ es before there. dealt_is (marked w first_mark s es).key before last (all.only before there))
    (λ es.
    let less = mod_below (marked w first_mark s es).key (suc last) (omega arith) in
    all.all ((marked w first_mark s es).key % suc last) (omega arith))
    all.once (schedules w k n s)

shown_of : {A : Type 0} (w : Machine A) (outcome : A → Outcome) (s : A) (found : List Found) (all : List (List Event)) →
    ((es : List Event) → In all es → Shows found (outcome (end_of w s es))) → AreShown w outcome s found all
shown_of w outcome s found [] each = tt
shown_of w outcome s found (es ∷ rest) each = (each es (inl refl), shown_of w outcome s found rest (λ x there. each x (inr there)))

-- a shard that was explored whole
tally_of : {A : Type 0} (w : Machine A) (outcome : A → Outcome) (k n : ℕ) (s : A) (shard : Shard) (found : List Found) (tried : ℕ) →
    IsShardExploration w outcome k n s shard found tried true → IsTally w outcome k n s (shard_of w shard k n s) found
tally_of w outcome k n s shard found tried h =
    let number = h.number refl in
    record {
      each = subst (λ (done : List (List Event)). AreFound w outcome k n s done found) (take_all tried (shard_of w shard k n s) (omega arith)) h.each;
      distinct = h.distinct;
      counts = h.counts ∙ number;
      shown = shown_of w outcome s found (shard_of w shard k n s)
          (λ es there.
          h.complete refl es (sound w k n s es (those_among (is_of_shard w shard s) (schedules w k n s) es there))
          (is_mine (is_of_shard w shard s) (schedules w k n s) es there));
    }

joined_in_turn : {A : Type 0} (w : Machine A) (outcome : A → Outcome) (k n last : ℕ) (s : A) (found : ℕ → List Found) (order : List ℕ) (done : List (List Event)) (old new : List Found) →
    IsTally w outcome k n s done old → ((before : ℕ) → In order before → IsTally w outcome k n s (shard_of w (shard_at before last) k n s) (found before)) →
    length done + length (in_turn w k n last s order) < 2 ^ 64 → JoinedInTurn found order old new → IsTally w outcome k n s (done ++ in_turn w k n last s order) new
joined_in_turn w outcome k n last s found [] done old new tally each few h =
    subst (λ (all : List (List Event)). IsTally w outcome k n s all new) (sym (append-nil done)) (subst (IsTally w outcome k n s done) (sym h) tally)
joined_in_turn w outcome k n last s found (before ∷ order) done old new tally each few h =
    let shard = shard_of w (shard_at before last) k n s in
    let rest = in_turn w k n last s order in
    let longer = length-append shard rest in
    let grows = length-append done shard in
    subst (λ (all : List (List Event)). IsTally w outcome k n s all new) (append_assoc done shard rest)
    (joined_in_turn w outcome k n last s found order (done ++ shard) h.0 new
    (tally_both w outcome k n s done shard old (found before) h.0 tally (each before (inl refl)) (omega arith) h.1)
    (λ other there. each other (inr there)) (omega arith) h.2)

pub merged : {A : Type 0} (w : Machine A) (outcome : A → Outcome) (k n last : ℕ) (s : A) (found : ℕ → List Found) (tried : ℕ → ℕ) (order : List ℕ) (new : List Found) →
    ((before : ℕ) → before ≤ last → IsShardExploration w outcome k n s (shard_at before last) (found before) (tried before) true) → AreAllShards last order →
    length (schedules w k n s) < 2 ^ 64 → JoinedInTurn found order [] new → IsExploration w outcome k n s new (length (schedules w k n s)) true
merged w outcome k n last s found tried order new each all few h =
    let same = shards_reordered w k n last s order all in
    let long = length_reordered (in_turn w k n last s order) (schedules w k n s) same in
    let none : IsTally w outcome k n s [] [] = record { each = tt; distinct = tt; counts = refl; shown = tt } in
    let tally =
    tally_reordered w outcome k n s (in_turn w k n last s order) (schedules w k n s) new same
    (joined_in_turn w outcome k n last s found order [] [] new none
    (λ before there. tally_of w outcome k n s (shard_at before last) (found before) (tried before) (each before (all.only before there))) (omega arith) h) in
    record {
      each = subst (λ (done : List (List Event)). AreFound w outcome k n s done new) (sym (take_all (length (schedules w k n s)) (schedules w k n s) (omega arith))) tally.each;
      distinct = tally.distinct;
      counts = tally.counts;
      complete = λ is events schedule. is_shown w outcome s new (schedules w k n s) events tally.shown (complete w k n s events schedule);
      number = λ is. refl;
      further = λ is. absurd (cc);
    }
