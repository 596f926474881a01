-- Worlds that are kept, as the path changes.
use Rattle.std.proofs.Common.{◌≡◌, ℕ, zero, suc, ◌<◌, ◌≤◌, List, [], ◌∷◌, ◌++◌, length, take, drop, get_or, Bool, true, false, cond, nat_lt, refl, sym, ap, ◌∙◌, subst, arith, append-nil, length-append}
use Rattle.std.specs.List.{filter}
use Rattle.std.proofs.lemmas.Bool.Decides.{nat_tests}
use Rattle.std.proofs.Math.Seq.{take-length}
use Rattle.std.proofs.lemmas.List.{take-append-drop, take-append-le}
use Rattle.sh_exec.specs.State.{State}
use Rattle.sh_schedules_outcomes.specs.World.{WorldKept, WorldStands}
use Rattle.sh_schedules_outcomes.specs.Schedules.{Machine}
use Rattle.sh_schedules.specs.Paths.{IsAdvance}
use Rattle.sh_schedules.specs.Paths.IsAdvance.{gives_way}
use Rattle.sh_schedules.specs.Shards.{first_mark}
use Rattle.sh_schedules.specs.Checkpoints.{AreCheckpoints, IsCheckpoint}
use Rattle.sh_schedules.specs.Trying.{HasTaken}
use Rattle.sh_schedules.specs.declared.path.Turn.{Turn}
use Rattle.sh_schedules.specs.declared.checkpoints.Checkpoint.{Checkpoint}
use Rattle.sh_schedules.specs.declared.turns.Standing.{Standing}

-- before the first turn
pub none_taken : {S : Type 0} (w : Machine (State S)) (k : ℕ) (s : State S) (world : WorldKept S) (standing : Standing) → WorldStands world s → standing.left ≡ k →
    standing.mark ≡ first_mark → HasTaken world w k s [] standing
none_taken w k s world standing stands left mark = record { stands = stands; left_is = left; mark_is = mark }

-- it has taken turns that both paths have
at_front : {S : Type 0} (w : Machine (State S)) (k : ℕ) (s : State S) (front old new : List Turn) (checkpoint : Checkpoint S) → checkpoint.taken ≤ length front → IsCheckpoint w k s (front ++ old) checkpoint →
    IsCheckpoint w k s (front ++ new) checkpoint
at_front w k s front old new checkpoint short h =
    let lengths = length-append front new in
    record {
      within = omega arith;
      has_taken =
          subst (λ (p : List Turn). HasTaken checkpoint.world w k s p checkpoint.standing)
          (take-append-le checkpoint.taken front old short ∙ sym (take-append-le checkpoint.taken front new short))
          h.has_taken;
    }

-- the path goes on
checkpoint_stays : {S : Type 0} (w : Machine (State S)) (k : ℕ) (s : State S) (old new : List Turn) (checkpoint : Checkpoint S) → take (length old) new ≡ old → IsCheckpoint w k s old checkpoint → IsCheckpoint w k s new checkpoint
checkpoint_stays w k s old new checkpoint same h =
    let rest = drop (length old) new in
    let is : old ++ rest ≡ new = ap (λ (p : List Turn). p ++ rest) (sym same) ∙ take-append-drop (length old) new in
    subst (λ (p : List Turn). IsCheckpoint w k s p checkpoint) is
    (at_front w k s old [] rest checkpoint h.within (subst (λ (p : List Turn). IsCheckpoint w k s p checkpoint) (sym (append-nil old)) h))

pub checkpoints_stay : {S : Type 0} (w : Machine (State S)) (k : ℕ) (s : State S) (old new : List Turn) (checkpoints : List (Checkpoint S)) → take (length old) new ≡ old → AreCheckpoints w k s old checkpoints →
    AreCheckpoints w k s new checkpoints
checkpoints_stay w k s old new [] same h = tt
checkpoints_stay w k s old new (checkpoint ∷ checkpoints) same h = (checkpoint_stays w k s old new checkpoint same h.0, checkpoints_stay w k s old new checkpoints same h.1)

-- the last turn that has others gives way; what has taken fewer turns than there are then has taken those before it
fewer : (front : List Turn) (next : Turn) (taken : ℕ) → nat_lt taken (length (front ++ next ∷ [])) ≡ true → taken ≤ length front
fewer front next taken told =
    let lengths = length-append front (next ∷ []) in
    let below : taken < length (front ++ next ∷ []) = grind (arith, nat_tests) in
    omega arith

kept_by : {S : Type 0} (w : Machine (State S)) (k : ℕ) (s : State S) (front spent : List Turn) (turn next : Turn) (checkpoint : Checkpoint S) (checkpoints : List (Checkpoint S)) (b : Bool) →
    nat_lt checkpoint.taken (length (front ++ next ∷ [])) ≡ b → IsCheckpoint w k s (front ++ turn ∷ spent) checkpoint → AreCheckpoints w k s (front ++ next ∷ []) checkpoints →
    AreCheckpoints w k s (front ++ next ∷ []) (cond b (checkpoint ∷ checkpoints) checkpoints)
kept_by w k s front spent turn next checkpoint checkpoints true told h rest = (at_front w k s front (turn ∷ spent) (next ∷ []) checkpoint (fewer front next checkpoint.taken told) h, rest)
kept_by w k s front spent turn next checkpoint checkpoints false told h rest = rest

checkpoints_before : {S : Type 0} (w : Machine (State S)) (k : ℕ) (s : State S) (front spent : List Turn) (turn next : Turn) (checkpoints : List (Checkpoint S)) →
    AreCheckpoints w k s (front ++ turn ∷ spent) checkpoints → AreCheckpoints w k s (front ++ next ∷ []) (filter (λ checkpoint. nat_lt checkpoint.taken (length (front ++ next ∷ []))) checkpoints)
checkpoints_before w k s front spent turn next [] h = tt
checkpoints_before w k s front spent turn next (checkpoint ∷ checkpoints) h =
    kept_by w k s front spent turn next checkpoint (filter (λ checkpoint. nat_lt checkpoint.taken (length (front ++ next ∷ []))) checkpoints) (nat_lt checkpoint.taken (length (front ++ next ∷ []))) refl h.0
    (checkpoints_before w k s front spent turn next checkpoints h.1)

pub checkpoints_advance : {S : Type 0} (w : Machine (State S)) (k : ℕ) (s : State S) (old new : List Turn) (checkpoints : List (Checkpoint S)) → IsAdvance old new true → AreCheckpoints w k s old checkpoints →
    AreCheckpoints w k s new (filter (λ checkpoint. nat_lt checkpoint.taken (length new)) checkpoints)
checkpoints_advance w k s old new checkpoints (gives_way front spent turn next was gone first is) h =
    subst (λ (p : List Turn). AreCheckpoints w k s p (filter (λ checkpoint. nat_lt checkpoint.taken (length p)) checkpoints)) (sym is)
    (checkpoints_before w k s front spent turn next checkpoints (subst (λ (p : List Turn). AreCheckpoints w k s p checkpoints) was h))

-- one more
pub checkpoints_more : {S : Type 0} (w : Machine (State S)) (k : ℕ) (s : State S) (path : List Turn) (checkpoint : Checkpoint S) (checkpoints : List (Checkpoint S)) → AreCheckpoints w k s path checkpoints → IsCheckpoint w k s path checkpoint →
    AreCheckpoints w k s path (checkpoints ++ checkpoint ∷ [])
checkpoints_more w k s path checkpoint [] h is = (is, tt)
checkpoints_more w k s path checkpoint (first ∷ checkpoints) h is = (h.0, checkpoints_more w k s path checkpoint checkpoints h.1 is)

-- one of them
pub checkpoint_at : {S : Type 0} (w : Machine (State S)) (k : ℕ) (s : State S) (path : List Turn) (checkpoints : List (Checkpoint S)) (i : ℕ) (checkpoint : Checkpoint S) → i < length checkpoints → checkpoint ≡ get_or checkpoints i checkpoint →
    AreCheckpoints w k s path checkpoints → IsCheckpoint w k s path checkpoint
checkpoint_at w k s path [] i checkpoint within is h = absurd (omega arith)
checkpoint_at w k s path (first ∷ checkpoints) zero checkpoint within is h = subst (IsCheckpoint w k s path) (sym is) h.0
checkpoint_at w k s path (first ∷ checkpoints) (suc i) checkpoint within is h = checkpoint_at w k s path checkpoints i checkpoint (omega arith) is h.1

-- a world that has taken the whole path
pub whole_taken : {S : Type 0} (w : Machine (State S)) (k : ℕ) (s : State S) (path : List Turn) (checkpoint : Checkpoint S) → checkpoint.taken ≡ length path →
    HasTaken checkpoint.world w k s path checkpoint.standing → IsCheckpoint w k s path checkpoint
whole_taken w k s path checkpoint is h = record {
  within = omega arith;
  has_taken = subst (λ (p : List Turn). HasTaken checkpoint.world w k s p checkpoint.standing) (sym (ap (λ (n : ℕ). take n path) is ∙ take-length path)) h;
}
