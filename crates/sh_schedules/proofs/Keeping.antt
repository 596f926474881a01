-- What shards kept, run again and joined, is what they found, joined.
use Rattle.std.proofs.Common.{◌≡◌, ℕ, ◌+◌, ◌<◌, ◌≤◌, ◌^◌, List, [], ◌∷◌, ◌++◌, length, map, take, get_or, true, inl, inr, refl, sym, ap, ◌∙◌, subst, arith}
use Rattle.std.proofs.lemmas.List.{map-append, take_more}
use Rattle.sh_exec.specs.declared.event.Event.{Event}
use Rattle.sh_exec.specs.declared.event.Event.TheVariants.{Run}
use Rattle.sh_schedules_outcomes.specs.Schedules.{Machine, end_of, preemptions}
use Rattle.sh_schedules_outcomes.specs.Choices.{In, schedules}
use Rattle.sh_schedules_outcomes.specs.Found.{AreFound, IsFound, IsRetraced, Joined, JoinedAll, JoinedInTurn}
use Rattle.sh_schedules.specs.Merging.{AreJoined, AreJoinedInTurn, AreKept, AreKeptInTurn, IsJoined, IsKept}
use Rattle.sh_schedules.specs.Shards.{AreAllShards, shard_at, shard_of}
use Rattle.sh_schedules.specs.Trying.{IsExploration, IsShardExploration}
use Rattle.sh_schedules_outcomes.specs.declared.found.Found.{Found}
use Rattle.sh_schedules.specs.declared.kept.Kept.{Kept}
use Rattle.sh_schedules_outcomes.specs.declared.outcome.Outcome.{Outcome}
use Rattle.sh_schedules.proofs.Merging.{merged}

-- ---- joining goes on
pub joined_more : {A : Type 0} (w : Machine A) (outcome : A → Outcome) (s : A) (kept : List Kept) (one : Kept) (old between new : List Found) →
    AreJoined w outcome s kept old between → IsJoined w outcome s one between new → AreJoined w outcome s (kept ++ one ∷ []) old new
joined_more w outcome s [] one old between new h is = (new, subst (λ (fs : List Found). IsJoined w outcome s one fs new) h is, refl)
joined_more w outcome s (first ∷ rest) one old between new h is = (h.0, h.1, joined_more w outcome s rest one h.0 between new h.2 is)

pub joined_next : {A : Type 0} (w : Machine A) (outcome : A → Outcome) (s : A) (kept : List Kept) (i : ℕ) (one : Kept) (old between new : List Found) →
    i < length kept → one ≡ get_or kept i one → AreJoined w outcome s (take i kept) old between → IsJoined w outcome s one between new → AreJoined w outcome s (take (i + 1) kept) old new
joined_next w outcome s kept i one old between new within is h more =
    subst (λ (these : List Kept). AreJoined w outcome s these old new) (ap (λ (k : Kept). take i kept ++ k ∷ []) is ∙ sym (take_more kept i one within))
    (joined_more w outcome s (take i kept) one old between new h more)

pub turns_more : {A : Type 0} (w : Machine A) (outcome : A → Outcome) (s : A) (all : List (List Kept)) (kept : List Kept) (old between new : List Found) →
    AreJoinedInTurn w outcome s all old between → AreJoined w outcome s kept between new → AreJoinedInTurn w outcome s (all ++ kept ∷ []) old new
turns_more w outcome s [] kept old between new h is = (new, subst (λ (fs : List Found). AreJoined w outcome s kept fs new) h is, refl)
turns_more w outcome s (first ∷ rest) kept old between new h is = (h.0, h.1, turns_more w outcome s rest kept h.0 between new h.2 is)

pub turns_next : {A X : Type 0} (w : Machine A) (outcome : A → Outcome) (s : A) (kept_of : X → List Kept) (files : List X) (i : ℕ) (file : X) (old between new : List Found) →
    i < length files → file ≡ get_or files i file → AreJoinedInTurn w outcome s (map kept_of (take i files)) old between → AreJoined w outcome s (kept_of file) between new →
    AreJoinedInTurn w outcome s (map kept_of (take (i + 1) files)) old new
turns_next w outcome s kept_of files i file old between new within is h more =
    let longer : map kept_of (take (i + 1) files) ≡ map kept_of (take i files) ++ kept_of file ∷ [] =
    ap (map kept_of) (take_more files i file within) ∙ map-append kept_of (take i files) (get_or files i file ∷ [])
    ∙ ap (λ x. map kept_of (take i files) ++ kept_of x ∷ []) (sym is) in
    subst (λ (all : List (List Kept)). AreJoinedInTurn w outcome s all old new) (sym longer) (turns_more w outcome s (map kept_of (take i files)) (kept_of file) old between new h more)

-- ---- what is run again is what was found
pub same_parts : (o p : Outcome) (m n i j : ℕ) (es fs : List Event) → o ≡ p → m ≡ n → i ≡ j → es ≡ fs →
    ◌≡◌ {A = Found} (record { outcome = o; schedules = m; preemptions = i; events = es }) (record { outcome = p; schedules = n; preemptions = j; events = fs })
same_parts o p m n i j es fs a b c d = cc

again_is : {A : Type 0} (w : Machine A) (outcome : A → Outcome) (k n : ℕ) (s : A) (done : List (List Event)) (f one : Found) (kept : Kept) → k < 2 ^ 32 → IsFound w outcome k n s done f →
    IsKept f kept → IsRetraced w outcome s (map Run kept.places.items) kept.schedules one → one ≡ f
again_is w outcome k n s done f one kept few found is again =
    let es = map Run kept.places.items in
    let at_most = found.schedule.preempted in
    let cost_is : preemptions w s es ≡ preemptions w s f.events = ap (preemptions w s) is.events_are in
    let fits : preemptions w s es < 2 ^ 32 = omega arith in
    same_parts one.outcome f.outcome one.schedules f.schedules one.preemptions f.preemptions one.events f.events (again.outcome_is ∙ ap (λ (xs : List Event). outcome (end_of w s xs)) is.events_are ∙ sym found.outcome_is) (again.schedules_are ∙ is.schedules_are)
    (again.preempts fits ∙ cost_is ∙ sym found.preempts) (again.events_are ∙ is.events_are)

all_again : {A : Type 0} (w : Machine A) (outcome : A → Outcome) (k n : ℕ) (s : A) (done : List (List Event)) (found : List Found) (kept : List Kept) (old new : List Found) → k < 2 ^ 32 →
    AreFound w outcome k n s done found → AreKept found kept → AreJoined w outcome s kept old new → JoinedAll old found new
all_again w outcome k n s done [] [] old new few each is h = h
all_again w outcome k n s done [] (one ∷ rest) old new few each is h = absurd is
all_again w outcome k n s done (f ∷ fs) [] old new few each is h = absurd is
all_again w outcome k n s done (f ∷ fs) (one ∷ rest) old new few each is h = (
  h.0,
  subst (λ (g : Found). Joined old g h.0) (again_is w outcome k n s done f h.1.one one few each.0 is.0 h.1.retraced) h.1.joined,
  all_again w outcome k n s done fs rest h.0 new few each.1 is.1 h.2,
)

turns_again : {A : Type 0} (w : Machine A) (outcome : A → Outcome) (k n last : ℕ) (s : A) (found : ℕ → List Found) (tried : ℕ → ℕ) (order : List ℕ) (kept : List (List Kept))
    (old new : List Found) → k < 2 ^ 32 →
    ((before : ℕ) → In order before → IsShardExploration w outcome k n s (shard_at before last) (found before) (tried before) true) →
    AreKeptInTurn found order kept → AreJoinedInTurn w outcome s kept old new → JoinedInTurn found order old new
turns_again w outcome k n last s found tried [] [] old new few each is h = h
turns_again w outcome k n last s found tried [] (ks ∷ rest) old new few each is h = absurd is
turns_again w outcome k n last s found tried (before ∷ order) [] old new few each is h = absurd is
turns_again w outcome k n last s found tried (before ∷ order) (ks ∷ rest) old new few each is h = (
  h.0,
  all_again w outcome k n s (take (tried before) (shard_of w (shard_at before last) k n s)) (found before) ks old h.0 few (each before (inl refl)).each is.0 h.1,
  turns_again w outcome k n last s found tried order rest h.0 new few (λ other there. each other (inr there)) is.1 h.2,
)

pub kept_merged : {A : Type 0} (w : Machine A) (outcome : A → Outcome) (k n last : ℕ) (s : A) (found : ℕ → List Found) (tried : ℕ → ℕ) (order : List ℕ) (kept : List (List Kept))
    (new : List Found) → k < 2 ^ 32 →
    ((before : ℕ) → before ≤ last → IsShardExploration w outcome k n s (shard_at before last) (found before) (tried before) true) → AreAllShards last order →
    length (schedules w k n s) < 2 ^ 64 → AreKeptInTurn found order kept → AreJoinedInTurn w outcome s kept [] new →
    IsExploration w outcome k n s new (length (schedules w k n s)) true
kept_merged w outcome k n last s found tried order kept new small each all few is h =
    merged w outcome k n last s found tried order new each all few
    (turns_again w outcome k n last s found tried order kept [] new small (λ before there. each before (all.only before there)) is h)
