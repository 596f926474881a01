-- The turns of a world by a path.
use Rattle.std.proofs.Common.{◌≡◌, ℕ, ◌+◌, ◌-◌, ◌<◌, ◌≤◌, ◌^◌, inl, inr, List, [], ◌∷◌, ◌++◌, length, take, get_or, true, false, Bool, Option, nat_eq, refl, sym, ap, ◌∙◌, subst, arith, append_assoc, append-nil, length-append}
use Rattle.std.proofs.Math.Seq.{take-append_seam}
use Rattle.std.proofs.lemmas.List.{take_more}
use Rattle.std.proofs.Math.Nat.{mod-one}
use Rattle.sh_exec.specs.declared.event.Event.{Event}
use Rattle.sh_exec.specs.declared.event.Event.TheVariants.{Run}
use Rattle.sh_exec.specs.State.{State}
use Rattle.sh_schedules_outcomes.specs.World.{WorldKept, WorldStands}
use Rattle.sh_schedules_outcomes.specs.Schedules.{Machine, cost, cost_by, end_of, last_place, preemptions}
use Rattle.sh_schedules_outcomes.specs.Choices.{In, choices, schedules}
use Rattle.sh_schedules.specs.Paths.{IsAdvance, behind, event_of, events_of, spare, to_try}
use Rattle.sh_schedules.specs.Paths.IsAdvance.{gives_way, none_left}
use Rattle.sh_schedules_outcomes.specs.Found.{AreFound, IsTally, Noted}
use Rattle.sh_schedules.specs.Trying.{AreFewer, HasEnded, HasGone, HasTaken, IsAfter, IsExploration, IsShardExploration, IsTried, IsTrying, LeavesNoMore, left_of}
use Rattle.sh_schedules.specs.Trying.HasGone.{went_nowhere, went_on}
use Rattle.sh_schedules_outcomes.specs.declared.found.Found.{Found}
use Rattle.sh_schedules_outcomes.specs.declared.outcome.Outcome.{Outcome}
use Rattle.sh_schedules.specs.Shards.{first_mark, is_dealt, is_first_by, is_of_shard, mark_after, marked, may_reach, next_mark, reaching, shard_of, those, with_next}
use Rattle.sh_schedules.specs.declared.path.Turn.{Turn}
use Rattle.sh_schedules.specs.declared.shard.Mark.{Mark}
use Rattle.sh_schedules.specs.declared.shard.Shard.{Shard}
use Rattle.sh_schedules.specs.declared.turns.Standing.{Standing}
use Rattle.sh_schedules_outcomes.proofs.Orders.{complete, in_right, sound}
use Rattle.sh_schedules.proofs.Stack.{end_of-push, events_of-push, leaf, nothing_behind, over, spare-push, spare_spent}
use Rattle.sh_schedules.proofs.Shards.{among_those, down_fewer, down_those, marked_append, out_of_reach, those_among}
use Rattle.sh_schedules_outcomes.proofs.Tally.{is_shown, tally_more}

pub is_after : {A : Type 0} (w : Machine A) (s : A) (place : ℕ) (here : Option ℕ) (before new : Standing) → here ≡ last_place w s → new.left ≡ before.left - cost_by here place →
    new.mark ≡ next_mark before.mark (is_first_by here place) place → IsAfter w s (Run place) before new
is_after w s place here before new is left mark = record {
  left_is = left ∙ ap (λ (h : Option ℕ). before.left - cost_by h place) is;
  mark_is = mark ∙ ap (λ (h : Option ℕ). next_mark before.mark (is_first_by h place) place) is;
}

-- one turn more
pub taken_push : {S : Type 0} (w : Machine (State S)) (k : ℕ) (s : State S) (path : List Turn) (turn : Turn) (old new : WorldKept S) (before after : Standing) →
    HasTaken old w k s path before → WorldStands new (w.step (end_of w s (events_of path)) (event_of turn)) → IsAfter w (end_of w s (events_of path)) (event_of turn) before after →
    HasTaken new w k s (path ++ turn ∷ []) after
taken_push w k s path turn old new before after h stands is =
    let e = event_of turn in
    let here = end_of w s (events_of path) in
    record {
      stands = subst (WorldStands new) (sym (ap (end_of w s) (events_of-push path turn) ∙ end_of-push w s (events_of path) e)) stands;
      left_is =
          is.left_is ∙ ap (λ (x : ℕ). x - cost w here e) h.left_is
          ∙ sym (ap (spare w k s) (events_of-push path turn) ∙ spare-push w k s (events_of path) e);
      mark_is =
          is.mark_is ∙ ap (λ (m : Mark). mark_after w m here e) h.mark_is
          ∙ sym (ap (marked w first_mark s) (events_of-push path turn) ∙ marked_append w first_mark s (events_of path) (e ∷ []));
    }

pub taken_more : {S : Type 0} (w : Machine (State S)) (k : ℕ) (s : State S) (path : List Turn) (i : ℕ) (turn : Turn) (old new : WorldKept S) (before after : Standing) →
    i < length path → turn ≡ get_or path i turn → HasTaken old w k s (take i path) before →
    WorldStands new (w.step (end_of w s (events_of (take i path))) (event_of turn)) → IsAfter w (end_of w s (events_of (take i path))) (event_of turn) before after →
    HasTaken new w k s (take (i + 1) path) after
taken_more w k s path i turn old new before after within is h stands after_is =
    subst (λ (p : List Turn). HasTaken new w k s p after)
    (ap (λ (t : Turn). take i path ++ t ∷ []) is ∙ sym (take_more path i turn within))
    (taken_push w k s (take i path) turn old new before after h stands after_is)

-- whoever goes on at a place that can't reach the shard isn't of it
left_out : {A : Type 0} (w : Machine A) (shard : Shard) (s : A) (path : List Turn) (mark : Mark) → mark ≡ marked w first_mark s (events_of path) →
    (p : ℕ) → may_reach shard (next_mark mark (is_first_by (last_place w (end_of w s (events_of path))) p) p) ≡ false →
    (es : List Event) → is_of_shard w shard s (events_of path ++ Run p ∷ es) ≡ false
left_out w shard s path mark is p not es =
    let here = end_of w s (events_of path) in
    ap (λ (m : Mark). is_dealt shard m.key) (marked_append w first_mark s (events_of path) (Run p ∷ es) ∙ ap (λ (m : Mark). marked w m here (Run p ∷ es)) (sym is))
    ∙ out_of_reach w shard (mark_after w mark here (Run p)) (w.step here (Run p)) es not

-- a turn at the first choice
pub gone_on : {S : Type 0} (w : Machine (State S)) (k n : ℕ) (s : State S) (shard : Shard) (path new_path : List Turn) (turn : Turn) (places others : List ℕ) (old new : WorldKept S) (before after : Standing) →
    length path < n → HasTaken old w k s path before → places ≡ choices w before.left (end_of w s (events_of path)) → places ≡ turn.place ∷ others →
    turn.others.items ≡ reaching shard before.mark (last_place w (end_of w s (events_of path))) others →
    WorldStands new (w.step (end_of w s (events_of path)) (event_of turn)) → IsAfter w (end_of w s (events_of path)) (event_of turn) before after →
    new_path ≡ path ++ turn ∷ [] → HasGone new w k n s shard path new_path after true
gone_on w k n s shard path new_path turn places others old new before after short h are first kept stands after_is is =
    let here = end_of w s (events_of path) in
    let choices_are = subst (λ (x : ℕ). choices w x here ≡ turn.place ∷ others) h.left_is (sym are ∙ first) in
    subst (λ (p : List Turn). HasGone new w k n s shard path p after true) (sym is)
    (went_on (taken_push w k s path turn old new before after h stands after_is)
    (record {
      of_shard = down_those w k n s (is_of_shard w shard s) shard before.mark (last_place w here) path turn others short choices_are kept (left_out w shard s path before.mark h.mark_is);
      of_all = down_fewer w k n s shard before.mark (last_place w here) path turn others short choices_are kept;
    }))

-- no choice
pub gone_nowhere : {S : Type 0} (w : Machine (State S)) (k n : ℕ) (s : State S) (shard : Shard) (path : List Turn) (places : List ℕ) (world : WorldKept S) (standing : Standing) →
    HasTaken world w k s path standing → places ≡ choices w standing.left (end_of w s (events_of path)) → places ≡ [] → HasGone world w k n s shard path path standing false
gone_nowhere w k n s shard path places world standing h are none =
    went_nowhere h refl (inl (subst (λ (x : ℕ). choices w x (end_of w s (events_of path)) ≡ []) h.left_is (sym are ∙ none)))

-- the path goes on no further
pub ended_here : {S : Type 0} (w : Machine (State S)) (k n : ℕ) (s : State S) (shard : Shard) (old mid new : List Turn) (world : WorldKept S) (standing : Standing) (more : Bool) →
    HasGone world w k n s shard mid new standing more → more ≡ false → LeavesNoMore w shard k n s old mid → length mid ≤ n →
    HasEnded world w k n s shard old new standing
ended_here w k n s shard old mid new world standing true (went_on taken tries) none same short = cc
ended_here w k n s shard old mid new world standing false (went_nowhere taken is over) none same short =
    let length_is = ap (λ (p : List Turn). length p) is in
    record { taken = taken; tries = subst (λ (p : List Turn). LeavesNoMore w shard k n s old p) (sym is) same; short = omega arith; over = over }

-- there were as many turns as may be
pub at_most : {S : Type 0} (w : Machine (State S)) (k n : ℕ) (s : State S) (shard : Shard) (old new : List Turn) (world : WorldKept S) (standing : Standing) →
    HasTaken world w k s new standing → LeavesNoMore w shard k n s old new → length new ≤ n → n ≤ length new → HasEnded world w k n s shard old new standing
at_most w k n s shard old new world standing taken same short enough = record { taken = taken; tries = same; short = short; over = inr (omega arith) }

-- it goes on
pub further_on : {S : Type 0} (w : Machine (State S)) (k n : ℕ) (s : State S) (shard : Shard) (old mid new : List Turn) (world : WorldKept S) (standing : Standing) (more : Bool) →
    HasGone world w k n s shard mid new standing more → more ≡ true → LeavesNoMore w shard k n s old mid → length mid < n →
    (more ≡ true → length new ≡ length mid + 1) → HasTaken world w k s new standing × LeavesNoMore w shard k n s old new × (length new ≤ n)
further_on w k n s shard old mid new world standing true (went_on taken tries) on same short longer =
    let length_is = longer refl in
    let fewer = tries.of_all in
    let few = same.of_all in
    (taken, record { of_shard = tries.of_shard ∙ same.of_shard; of_all = omega arith }, omega arith)
further_on w k n s shard old mid new world standing false (went_nowhere taken is over) on same short longer = cc

-- ---- how far the trying has come
pub trying_first : {A : Type 0} (w : Machine A) (outcome : A → Outcome) (k n : ℕ) (s : A) (shard : Shard) → IsTrying w outcome k n s shard [] [] 0
unfolding to_try
trying_first w outcome k n s shard = record {
  done = [];
  all = refl;
  tally = record { each = tt; distinct = tt; counts = refl; shown = tt };
  count = refl;
  short = omega arith;
}

-- the path's schedule is the next, if it is of the shard
next_is : {S : Type 0} (w : Machine (State S)) (k n : ℕ) (s : State S) (shard : Shard) (old new : List Turn) (world : WorldKept S) (standing : Standing) (done : List (List Event)) (b : Bool) →
    done ++ left_of w shard k n s old ≡ shard_of w shard k n s → HasEnded world w k n s shard old new standing → is_dealt shard standing.mark.key ≡ b →
    done ++ with_next b (events_of new) (those (is_of_shard w shard s) (behind w k n s new)) ≡ shard_of w shard k n s
next_is w k n s shard old new world standing done b all ended is =
    let mine = is_of_shard w shard s in
    let told : mine (events_of new) ≡ b = sym (ap (λ (m : Mark). is_dealt shard m.key) ended.taken.mark_is) ∙ is in
    ap (λ (c : Bool). done ++ with_next c (events_of new) (those mine (behind w k n s new))) (sym told)
    ∙ ap (λ (xs : List (List Event)). done ++ xs) (sym (ap (those mine) (leaf w k n s new ended.short ended.over)) ∙ ended.tries.of_shard) ∙ all

-- the path's own was one of those that were left
pub fewer_left : {S : Type 0} (w : Machine (State S)) (k n : ℕ) (s : State S) (shard : Shard) (old new : List Turn) (world : WorldKept S) (standing : Standing) →
    HasEnded world w k n s shard old new standing → AreFewer w k n s old new
fewer_left w k n s shard old new world standing ended =
    let own = ap (λ (xs : List (List Event)). length xs) (leaf w k n s new ended.short ended.over) in
    let few = ended.tries.of_all in
    omega (arith, own, few)

-- it is of another shard
pub passed : {S : Type 0} (w : Machine (State S)) (outcome : State S → Outcome) (k n : ℕ) (s : State S) (shard : Shard) (old new : List Turn) (found : List Found) (world : WorldKept S) (standing : Standing) (tried : ℕ) →
    IsTrying w outcome k n s shard old found tried → HasEnded world w k n s shard old new standing → is_dealt shard standing.mark.key ≡ false → IsTried w outcome k n s shard new found tried
passed w outcome k n s shard old new found world standing tried h ended is = record {
  done = h.done;
  all = next_is w k n s shard old new world standing h.done false h.all ended is;
  tally = h.tally;
  count = h.count;
  short = ended.short;
}

-- it is counted
pub tried_more : {S : Type 0} (w : Machine (State S)) (outcome : State S → Outcome) (k n : ℕ) (s : State S) (shard : Shard) (old new : List Turn) (found more : List Found) (world : WorldKept S) (standing : Standing) (tried : ℕ) →
    IsTrying w outcome k n s shard old found tried → HasEnded world w k n s shard old new standing → is_dealt shard standing.mark.key ≡ true → tried + 1 < 2 ^ 64 →
    Noted found (outcome (end_of w s (events_of new))) (events_of new) (k - standing.left) more → IsTried w outcome k n s shard new more (tried + 1)
tried_more w outcome k n s shard old new found more world standing tried h ended mine few noted =
    let es = events_of new in
    let rest = those (is_of_shard w shard s) (behind w k n s new) in
    let all : h.done ++ es ∷ rest ≡ shard_of w shard k n s = next_is w k n s shard old new world standing h.done true h.all ended mine in
    let among = subst (λ (xs : List (List Event)). In xs es) all (in_right h.done (es ∷ rest) es (inl refl)) in
    let is = sound w k n s es (those_among (is_of_shard w shard s) (schedules w k n s) es among) in
    let left_is = ended.taken.left_is in
    let spent = spare_spent w k s es is.preempted in
    let cost_is : k - standing.left ≡ preemptions w s es = omega arith in
    let done_is = h.count in
    let longer = length-append h.done (es ∷ []) in
    record {
      done = h.done ++ es ∷ [];
      all = append_assoc h.done (es ∷ []) rest ∙ all;
      tally = tally_more w outcome k n s found more es h.done h.tally is (omega arith) (subst (λ (c : ℕ). Noted found (outcome (end_of w s es)) es c more) cost_is noted);
      count = omega arith;
      short = ended.short;
    }

first_tried : (done rest all : List (List Event)) (tried : ℕ) → done ++ rest ≡ all → length done ≡ tried → done ≡ take tried all
first_tried done rest all tried is count =
    sym (take-append_seam done rest) ∙ ap (λ (n : ℕ). take n (done ++ rest)) count ∙ ap (λ (xs : List (List Event)). take tried xs) is

-- it is of the shard, but no more may be tried
pub cut_off : {S : Type 0} (w : Machine (State S)) (outcome : State S → Outcome) (k n : ℕ) (s : State S) (shard : Shard) (old new : List Turn) (found : List Found) (world : WorldKept S) (standing : Standing) (tried : ℕ) →
    IsTrying w outcome k n s shard old found tried → HasEnded world w k n s shard old new standing → is_dealt shard standing.mark.key ≡ true →
    IsShardExploration w outcome k n s shard found tried false
cut_off w outcome k n s shard old new found world standing tried h ended mine =
    let es = events_of new in
    let rest = those (is_of_shard w shard s) (behind w k n s new) in
    let all : h.done ++ es ∷ rest ≡ shard_of w shard k n s = next_is w k n s shard old new world standing h.done true h.all ended mine in
    let count = h.count in
    let lengths = length-append h.done (es ∷ rest) in
    let length_is = ap (λ (xs : List (List Event)). length xs) all in
    record {
      each = subst (λ (xs : List (List Event)). AreFound w outcome k n s xs found) (first_tried h.done (es ∷ rest) (shard_of w shard k n s) tried all h.count) h.tally.each;
      distinct = h.tally.distinct;
      counts = h.tally.counts ∙ h.count;
      complete = λ e. cc;
      number = λ e. cc;
      further = λ e. omega arith;
    }

-- the next schedule comes
pub trying_next : {A : Type 0} (w : Machine A) (outcome : A → Outcome) (k n : ℕ) (s : A) (shard : Shard) (old new : List Turn) (found : List Found) (tried : ℕ) →
    IsTried w outcome k n s shard old found tried → IsAdvance old new true → IsTrying w outcome k n s shard new found tried
trying_next w outcome k n s shard old new found tried h (gives_way front spent turn next was gone first is) =
    let short = h.short in
    let length_was = ap (λ (p : List Turn). length p) was in
    let fits : length (front ++ turn ∷ spent) ≤ n = omega arith in
    let length_is = ap (λ (p : List Turn). length p) is in
    let lengths = length-append front (turn ∷ spent) in
    let lengths_new = length-append front (next ∷ []) in
    record {
      done = h.done;
      all =
          ap (λ (p : List Turn). h.done ++ left_of w shard k n s p) is
          ∙ ap (λ (xs : List (List Event)). h.done ++ those (is_of_shard w shard s) xs) (sym (over w k n s front spent turn next fits gone first))
          ∙ ap (λ (p : List Turn). h.done ++ those (is_of_shard w shard s) (behind w k n s p)) (sym was) ∙ h.all;
      tally = h.tally;
      count = h.count;
      short = omega arith;
    }

-- before the first walk all schedules are left
pub walks_none : {A : Type 0} (w : Machine A) (k n : ℕ) (s : A) (path : List Turn) → path ≡ [] → 0 + length (to_try w k n s path) ≤ length (schedules w k n s)
unfolding to_try
walks_none w k n s [] is = omega arith
walks_none w k n s (turn ∷ turns) is = cc

-- so many walks, and what is left, are no more than all schedules
pub walks_more : {A : Type 0} (w : Machine A) (k n : ℕ) (s : A) (walks : ℕ) (old mid new : List Turn) → length mid ≤ n → walks + length (to_try w k n s old) ≤ length (schedules w k n s) →
    AreFewer w k n s old mid → IsAdvance mid new true → walks + 1 + length (to_try w k n s new) ≤ length (schedules w k n s)
walks_more w k n s walks old mid new short so_far fewer (gives_way front spent turn next was gone first is) =
    let length_was = ap (λ (p : List Turn). length p) was in
    let fits : length (front ++ turn ∷ spent) ≤ n = omega arith in
    let left = ap (λ (p : List Turn). length (behind w k n s p)) was in
    let now = ap (λ (xs : List (List Event)). length xs) (over w k n s front spent turn next fits gone first) in
    let next_is = ap (λ (p : List Turn). length (to_try w k n s p)) is in
    omega (arith, so_far, fewer, left, now, next_is)

-- there is no next one
pub explored : {A : Type 0} (w : Machine A) (outcome : A → Outcome) (k n : ℕ) (s : A) (shard : Shard) (old new : List Turn) (found : List Found) (tried : ℕ) →
    IsTried w outcome k n s shard old found tried → IsAdvance old new false → IsShardExploration w outcome k n s shard found tried true
explored w outcome k n s shard old new found tried h (none_left gone) =
    let mine = is_of_shard w shard s in
    let all : h.done ≡ shard_of w shard k n s =
    sym (append-nil h.done) ∙ ap (λ (xs : List (List Event)). h.done ++ those mine xs) (sym (nothing_behind w k n s old gone)) ∙ h.all in
    let tally = subst (λ (xs : List (List Event)). IsTally w outcome k n s xs found) all h.tally in
    let first = first_tried h.done (those mine (behind w k n s old)) (shard_of w shard k n s) tried h.all h.count in
    let number : tried ≡ length (shard_of w shard k n s) = sym h.count ∙ ap (λ (xs : List (List Event)). length xs) all in
    record {
      each = subst (λ (xs : List (List Event)). AreFound w outcome k n s xs found) first h.tally.each;
      distinct = tally.distinct;
      counts = tally.counts ∙ sym number;
      complete = λ e es is of. is_shown w outcome s found (shard_of w shard k n s) es tally.shown (among_those mine (schedules w k n s) es (complete w k n s es is) of);
      number = λ e. number;
      further = λ e. cc;
    }

-- ---- one shard alone
all_dealt : (key : ℕ) → is_dealt (record { before = 0; behind = 0 }) key ≡ true
all_dealt key = ap (λ (n : ℕ). nat_eq n 0) (mod-one key)

all_those : (mine : List Event → Bool) (all : List (List Event)) → ((es : List Event) → mine es ≡ true) → those mine all ≡ all
all_those mine [] h = refl
all_those mine (es ∷ rest) h = ap (λ (b : Bool). with_next b es (those mine rest)) (h es) ∙ ap (λ (xs : List (List Event)). es ∷ xs) (all_those mine rest h)

pub whole : {A : Type 0} (w : Machine A) (outcome : A → Outcome) (k n : ℕ) (s : A) (found : List Found) (tried : ℕ) (is_complete : Bool) →
    IsShardExploration w outcome k n s (record { before = 0; behind = 0 }) found tried is_complete → IsExploration w outcome k n s found tried is_complete
whole w outcome k n s found tried is_complete h =
    let shard : Shard = record { before = 0; behind = 0 } in
    let all : shard_of w shard k n s ≡ schedules w k n s = all_those (is_of_shard w shard s) (schedules w k n s) (λ es. all_dealt (marked w first_mark s es).key) in
    record {
      each = subst (λ (xs : List (List Event)). AreFound w outcome k n s (take tried xs) found) all h.each;
      distinct = h.distinct;
      counts = h.counts;
      complete = λ e es is. h.complete e es is (all_dealt (marked w first_mark s es).key);
      number = λ e. h.number e ∙ ap (λ (xs : List (List Event)). length xs) all;
      further = λ e. subst (λ (xs : List (List Event)). tried < length xs) all (h.further e);
    }
