-- What a world knows of its processes, as it looks at them and as one takes a turn.
use Rattle.std.proofs.Common.{◌≡◌, ◌⊎◌, inl, inr, ℕ, zero, suc, ◌+◌, ◌<◌, List, [], ◌∷◌, ◌++◌, ◌&&◌, length, map, take, get_or, Bool, true, false, not, cond, nat_eq, Option, Some, None, slice_get, slice_set, refl, sym, ap, ◌∙◌, subst, arith, append_assoc, length-append}
use Rattle.std.proofs.lemmas.Bool.{eqb-true}
use Rattle.std.proofs.lemmas.List.{length-take-le, map-append, take_more}
use Rattle.sh_exec.specs.Actions.{action_of, cause_of}
use Rattle.sh_exec.specs.Processes.{living, place_of, runnable_pids}
use Rattle.sh_exec.specs.Tasks.{pid_of}
use Rattle.sh_exec.specs.declared.task.Task.{Task}
use Rattle.sh_exec.specs.declared.task.Task.TheVariants.{Runs, Asks}
use Rattle.sh_kernel.specs.State.{KernelState, WatchKept}
use Rattle.sh_kernel.specs.Turns.{Action, ReadsBy, WritesBy, action_waits, can_do}
use Rattle.sh_kernel.specs.Watching.{AreBlocked, AreLiving, is_blocked}
use Rattle.sh_kernel.specs.declared.watch.BlockedProcess.{BlockedProcess}
use Rattle.sh_kernel.specs.declared.watch.Cause.{Cause}
use Rattle.sh_kernel.specs.declared.watch.Cause.TheVariants.{Reading, Writing}
use Rattle.sh_kernel_descriptors.specs.declared.descriptor.DescriptorRef.TheVariants.{Number}
use Rattle.sh_kernel_processes.specs.Processes.{is_running, status_at}
use Rattle.sh_stock.specs.declared.asking.Ask.{Ask}
use Rattle.sh_stock.specs.declared.asking.Ask.TheVariants as ask
use Rattle.sh_world.specs.Awake.{Has, IsNoted, is_at, is_pid, pid_if, pids_at, with_pid}
use Rattle.sh_world.specs.Watching.{AreSplit, IsCauseOf, IsFoundOf, RiseTo}

-- ---- looking at one more
pub split_awake : {S : Type 0} (place n : ℕ) (tasks : List (Task S)) (task : Task S) (blocked : List BlockedProcess) (places : List ℕ) → n ≡ place + length tasks →
    AreSplit place tasks blocked places → AreSplit place (tasks ++ task ∷ []) blocked (places ++ n ∷ [])
split_awake place n [] task blocked places is h =
    let here : n ≡ place = omega arith in
    inl ([], ap (λ (ps : List ℕ). ps ++ n ∷ []) h.1 ∙ ap (λ (m : ℕ). m ∷ []) here, (h.0, refl))
split_awake place n (first ∷ tasks) task blocked places is (inl h) =
    inl (h.0 ++ n ∷ [], ap (λ (ps : List ℕ). ps ++ n ∷ []) h.1, split_awake (suc place) n tasks task blocked h.0 (omega arith) h.2)
split_awake place n (first ∷ tasks) task blocked places is (inr h) = inr (h.0, h.1, h.2, h.3, split_awake (suc place) n tasks task h.1 places (omega arith) h.4)

pub split_blocked : {S : Type 0} (place : ℕ) (tasks : List (Task S)) (task : Task S) (one : BlockedProcess) (blocked : List BlockedProcess) (places : List ℕ) →
    AreSplit place tasks blocked places → IsFoundOf task one → AreSplit place (tasks ++ task ∷ []) (blocked ++ one ∷ []) places
split_blocked place [] task one blocked places h is = inr (one, [], ap (λ (bs : List BlockedProcess). bs ++ one ∷ []) h.0, is, (refl, h.1))
split_blocked place (first ∷ tasks) task one blocked places (inl h) is = inl (h.0, h.1, split_blocked (suc place) tasks task one blocked h.0 h.2 is)
split_blocked place (first ∷ tasks) task one blocked places (inr h) is =
    inr (h.0, h.1 ++ one ∷ [], ap (λ (bs : List BlockedProcess). bs ++ one ∷ []) h.2, h.3, split_blocked (suc place) tasks task one h.1 places h.4 is)

pub rise_more : (below last n : ℕ) (ns : List ℕ) → RiseTo below ns last → last < n → RiseTo below (ns ++ n ∷ []) n
rise_more below last n [] h more = (omega arith, refl)
rise_more below last n (m ∷ ns) h more = (h.0, rise_more m last n ns h.1 more)

-- these were looked at so far
pub record IsSeen {S : Type 0} (watch : WatchKept) (tasks : List (Task S)) (places : List ℕ) (last : ℕ) : Type 0 where
  pub living : watch.living ≡ map pid_of tasks
  pub split : AreSplit 0 tasks watch.blocked places
  pub rise : RiseTo 0 (map pid_of tasks) last

split_next : {S : Type 0} (old new : WatchKept) (tasks : List (Task S)) (task : Task S) (places more : List ℕ) (place : ℕ) → place ≡ length tasks → AreSplit 0 tasks old.blocked places →
    IsNoted old new task place places more → AreSplit 0 (tasks ++ task ∷ []) new.blocked more
split_next old new tasks task places more place is h (inl looked) =
    subst (λ (ps : List ℕ). AreSplit 0 (tasks ++ task ∷ []) new.blocked ps) (sym looked.1)
    (subst (λ (w : WatchKept). AreSplit 0 (tasks ++ task ∷ []) w.blocked places) (sym looked.0.1) (split_blocked 0 tasks task looked.0.0 old.blocked places h looked.0.2))
split_next old new tasks task places more place is h (inr awake) =
    subst (λ (ps : List ℕ). AreSplit 0 (tasks ++ task ∷ []) new.blocked ps) (sym awake.1)
    (subst (λ (w : WatchKept). AreSplit 0 (tasks ++ task ∷ []) w.blocked (places ++ place ∷ [])) (sym awake.0) (split_awake 0 place tasks task old.blocked places (omega arith) h))

living_same : {S : Type 0} (old new : WatchKept) (task : Task S) (places more : List ℕ) (place : ℕ) → IsNoted old new task place places more → new.living ≡ old.living
living_same old new task places more place (inl looked) = ap (λ (w : WatchKept). w.living) looked.0.1
living_same old new task places more place (inr awake) = ap (λ (w : WatchKept). w.living) awake.0

seen_next : {S : Type 0} (watch mid new : WatchKept) (tasks : List (Task S)) (task : Task S) (places more : List ℕ) (last pid place : ℕ) → place ≡ length tasks → IsSeen watch tasks places last →
    last < pid → pid ≡ pid_of task → mid ≡ record watch { living = watch.living ++ pid ∷ [] } → IsNoted mid new task place places more → IsSeen new (tasks ++ task ∷ []) more pid
seen_next watch mid new tasks task places more last pid place at h less is found noted =
    let longer = map-append pid_of tasks (task ∷ []) in
    let numbers : map pid_of tasks ++ pid ∷ [] ≡ map pid_of (tasks ++ task ∷ []) = ap (λ (n : ℕ). map pid_of tasks ++ n ∷ []) is ∙ sym longer in
    record {
      living =
          living_same mid new task places more place noted ∙ ap (λ (w : WatchKept). w.living) found ∙ ap (λ (ns : List ℕ). ns ++ pid ∷ []) h.living
          ∙ numbers;
      split = split_next mid new tasks task places more place at (subst (λ (w : WatchKept). AreSplit 0 tasks w.blocked places) (sym found) h.split) noted;
      rise = subst (λ (ns : List ℕ). RiseTo 0 ns pid) numbers (rise_more 0 last pid (map pid_of tasks) h.rise less);
    }

pub seen_at : {S : Type 0} (watch mid new : WatchKept) (tasks : List (Task S)) (task : Task S) (places more : List ℕ) (last pid i : ℕ) → i < length tasks → task ≡ get_or tasks i task →
    IsSeen watch (take i tasks) places last → last < pid → pid ≡ pid_of task → mid ≡ record watch { living = watch.living ++ pid ∷ [] } → IsNoted mid new task i places more →
    IsSeen new (take (i + 1) tasks) more pid
seen_at watch mid new tasks task places more last pid i within at h less is found noted =
    subst (λ (ts : List (Task _)). IsSeen new ts more pid) (ap (λ (t : Task _). take i tasks ++ t ∷ []) at ∙ sym (take_more tasks i task within))
    (seen_next watch mid new (take i tasks) task places more last pid i (sym (length-take-le i tasks (omega arith))) h less is found noted)

-- ---- who is blocked can't take a turn
not_true : (b : Bool) → not b ≡ true → b ≡ false
not_true true e = cc
not_true false e = refl

not_running : (s : KernelState) (pid : ℕ) (action : Action) → is_running (status_at s.machine.processes pid) ≡ false → can_do s pid action ≡ false
unfolding can_do
not_running s pid action is = ap (λ (b : Bool). b && not (action_waits s pid action)) is

-- where it asks this, it is blocked at that
asked_blocked : {S : Type 0} (s : KernelState) (pid : ℕ) (a : Ask) (program : S) (cause : Cause) → cause_of (Asks pid a program) ≡ Some cause → is_blocked s pid cause ≡ true →
    can_do s pid (action_of s (Asks pid a program)) ≡ false
asked_blocked s pid (ask.Read count) program cause is h =
    let same : cause ≡ Reading (Number 0) = cc in
    not_true (can_do s pid (ReadsBy (Number 0))) (subst (λ (c : Cause). is_blocked s pid c ≡ true) same h)
asked_blocked s pid (ask.Write bytes) program cause is h =
    let same : cause ≡ Writing 1 (length bytes) = cc in
    not_true (can_do s pid (WritesBy 1 (length bytes))) (subst (λ (c : Cause). is_blocked s pid c ≡ true) same h)
asked_blocked s pid ask.Stop program cause is h = cc
asked_blocked s pid ask.Idle program cause is h = cc
asked_blocked s pid (ask.End status) program cause is h = cc

cause_blocks : {S : Type 0} (s : KernelState) (task : Task S) (cause : Cause) → cause_of task ≡ Some cause → is_blocked s (pid_of task) cause ≡ true →
    can_do s (pid_of task) (action_of s task) ≡ false
cause_blocks s (Runs interpreter) cause is h = cc
cause_blocks s (Asks pid a program) cause is h = asked_blocked s pid a program cause is h

found_blocks : {S : Type 0} (s : KernelState) (task : Task S) (one : BlockedProcess) → IsFoundOf task one → is_blocked s one.pid one.cause ≡ true →
    can_do s (pid_of task) (action_of s task) ≡ false
found_blocks s task one is h = by is.cause (subst (λ (pid : ℕ). is_blocked s pid one.cause ≡ true) is.pid_is h)
  where
    by : IsCauseOf task one.cause → is_blocked s (pid_of task) one.cause ≡ true → can_do s (pid_of task) (action_of s task) ≡ false
    by (inl stopped) k = not_running s (pid_of task) (action_of s task) (not_true (is_running (status_at s.machine.processes (pid_of task))) (subst (λ (c : Cause). is_blocked s (pid_of task) c ≡ true) stopped k))
    by (inr asks) k = cause_blocks s task one.cause asks k

-- ---- so those that can take a turn are among those at the places
get_behind : {A : Type 0} (front : List A) (x : A) (xs : List A) → slice_get (front ++ x ∷ xs) (length front) ≡ Some x
get_behind [] x xs = refl
get_behind (y ∷ front) x xs = get_behind front x xs

here_by : {S : Type 0} (s : KernelState) (task : Task S) (pids : List ℕ) (b : Bool) →
    with_pid (cond b (Some (pid_of task)) None) pids ≡ cond b (pid_of task ∷ pids) pids
here_by s task pids true = refl
here_by s task pids false = refl

pub movable : {S : Type 0} (s : KernelState) (front tasks : List (Task S)) (blocked : List BlockedProcess) (places : List ℕ) → AreSplit (length front) tasks blocked places → AreBlocked s blocked →
    pids_at s (front ++ tasks) places ≡ runnable_pids s tasks
movable s front [] blocked places h are = ap (pids_at s (front ++ [])) h.1
movable s front (task ∷ tasks) blocked places (inl h) are =
    let longer = length-append front (task ∷ []) in
    let below = subst (λ (n : ℕ). AreSplit n tasks blocked h.0) (omega arith) h.2 in
    let rest : pids_at s (front ++ task ∷ tasks) h.0 ≡ runnable_pids s tasks =
    ap (λ (all : List (Task _)). pids_at s all h.0) (sym (append_assoc front (task ∷ []) tasks)) ∙ movable s (front ++ task ∷ []) tasks blocked h.0 below are in
    ap (pids_at s (front ++ task ∷ tasks)) h.1
    ∙ ap (λ (o : Option (Task _)). with_pid (pid_if s o) (pids_at s (front ++ task ∷ tasks) h.0)) (get_behind front task tasks)
    ∙ here_by s task (pids_at s (front ++ task ∷ tasks) h.0) (can_do s (pid_of task) (action_of s task))
    ∙ ap (λ (pids : List ℕ). cond (can_do s (pid_of task) (action_of s task)) (pid_of task ∷ pids) pids) rest
movable s front (task ∷ tasks) blocked places (inr h) are =
    let longer = length-append front (task ∷ []) in
    let below = subst (λ (n : ℕ). AreSplit n tasks h.1 places) (omega arith) h.4 in
    let all = subst (AreBlocked s) h.2 are in
    let off = found_blocks s task h.0 h.3 all.0 in
    ap (λ (all : List (Task _)). pids_at s all places) (sym (append_assoc front (task ∷ []) tasks)) ∙ movable s (front ++ task ∷ []) tasks h.1 places below all.1
    ∙ ap (λ (b : Bool). cond b (pid_of task ∷ runnable_pids s tasks) (runnable_pids s tasks)) (sym off)

-- ---- the place of a process
above : {S : Type 0} (below last : ℕ) (tasks : List (Task S)) (i pid : ℕ) → RiseTo below (map pid_of tasks) last → is_at tasks i pid ≡ true → below < pid
above below last [] i pid h is = cc
above below last (task ∷ tasks) zero pid h is = let same = eqb-true (pid_of task) pid is in let less = h.0 in omega arith
above below last (task ∷ tasks) (suc i) pid h is = let less = above (pid_of task) last tasks i pid h.1 is in let first = h.0 in omega arith

later : {S : Type 0} (pid : ℕ) (task : Task S) (tasks : List (Task S)) (i : ℕ) (b : Bool) → nat_eq (pid_of task) pid ≡ b → pid_of task < pid → place_of pid tasks ≡ i →
    cond b 0 (suc (place_of pid tasks)) ≡ suc i
later pid task tasks i true e less is = let same = eqb-true (pid_of task) pid e in absurd (omega arith)
later pid task tasks i false e less is = ap suc is

pub place_is : {S : Type 0} (below last : ℕ) (tasks : List (Task S)) (i pid : ℕ) → RiseTo below (map pid_of tasks) last → is_at tasks i pid ≡ true → place_of pid tasks ≡ i
place_is below last [] i pid h is = cc
place_is below last (task ∷ tasks) zero pid h is = ap (λ (b : Bool). cond b 0 (suc (place_of pid tasks))) is
place_is below last (task ∷ tasks) (suc i) pid h is =
    later pid task tasks i (nat_eq (pid_of task) pid) refl (above (pid_of task) last tasks i pid h.1 is) (place_is (pid_of task) last tasks i pid h.1 is)

pub within : {S : Type 0} (tasks : List (Task S)) (i pid : ℕ) → is_at tasks i pid ≡ true → i < length tasks
within [] i pid is = cc
within (task ∷ tasks) zero pid is = omega arith
within (task ∷ tasks) (suc i) pid is = let below = within tasks i pid is in omega arith

-- ---- one of those at the places takes a turn
has_none : (places : List ℕ) (place : ℕ) → places ≡ [] → Has places place → ⊥
has_none [] place is h = h
has_none (p ∷ places) place is h = cc

has_rest : (places rest : List ℕ) (first place : ℕ) → places ≡ first ∷ rest → Has places place → (first ≡ place) ⊎ Has rest place
has_rest places rest first place is h = subst (λ (ps : List ℕ). Has ps place) is h

neither : {A B : Type 0} → A ⊎ B → (A → ⊥) → (B → ⊥) → ⊥
neither (inl a) f g = f a
neither (inr b) f g = g b

the_other : {A B C : Type 0} → A ⊎ B → (A → ⊥) → (B → C) → C
the_other (inl a) f g = absurd (f a)
the_other (inr b) f g = g b

-- no place is before the first
no_earlier : {S : Type 0} (place early : ℕ) (tasks : List (Task S)) (blocked : List BlockedProcess) (places : List ℕ) → AreSplit place tasks blocked places → early < place → Has places early → ⊥
no_earlier place early [] blocked places h less has = has_none places early h.1 has
no_earlier place early (task ∷ tasks) blocked places (inl h) less has =
    neither (has_rest places h.0 place early h.1 has) (λ e. absurd (omega arith)) (λ there. no_earlier (suc place) early tasks blocked h.0 h.2 (omega arith) there)
no_earlier place early (task ∷ tasks) blocked places (inr h) less has = no_earlier (suc place) early tasks h.1 places h.4 (omega arith) has

pub split_set : {S : Type 0} (place i n : ℕ) (tasks : List (Task S)) (next : Task S) (blocked : List BlockedProcess) (places : List ℕ) → n ≡ place + i → AreSplit place tasks blocked places →
    Has places n → AreSplit place (slice_set tasks i next) blocked places
split_set place i n [] next blocked places is h has = absurd (has_none places n h.1 has)
split_set place zero n (task ∷ tasks) next blocked places is (inl h) has = inl h
split_set place zero n (task ∷ tasks) next blocked places is (inr h) has = absurd (no_earlier (suc place) n tasks h.1 places h.4 (omega arith) has)
split_set place (suc i) n (task ∷ tasks) next blocked places is (inl h) has =
    the_other (has_rest places h.0 place n h.1 has) (λ e. absurd (omega arith)) (λ there. inl (h.0, h.1, split_set (suc place) i n tasks next blocked h.0 (omega arith) h.2 there))
split_set place (suc i) n (task ∷ tasks) next blocked places is (inr h) has = inr (h.0, h.1, h.2, h.3, split_set (suc place) i n tasks next h.1 places (omega arith) h.4 has)

pub pids_stay : {S : Type 0} (tasks : List (Task S)) (i pid : ℕ) (next : Task S) → is_at tasks i pid ≡ true → pid_of next ≡ pid → map pid_of (slice_set tasks i next) ≡ map pid_of tasks
pids_stay [] i pid next is same = refl
pids_stay (task ∷ tasks) zero pid next is same = ap (λ (p : ℕ). p ∷ map pid_of tasks) (same ∙ sym (eqb-true (pid_of task) pid is))
pids_stay (task ∷ tasks) (suc i) pid next is same = ap (λ (ps : List ℕ). pid_of task ∷ ps) (pids_stay tasks i pid next is same)

get_set : {A : Type 0} (xs : List A) (i : ℕ) (x : A) → i < length xs → slice_get (slice_set xs i x) i ≡ Some x
get_set [] i x less = absurd (omega arith)
get_set (y ∷ xs) zero x less = refl
get_set (y ∷ xs) (suc i) x less = get_set xs i x (omega arith)

-- the process that is at the place then has the number
pub number_is : {S : Type 0} (tasks : List (Task S)) (i pid : ℕ) (next : Task S) → i < length tasks → is_at (slice_set tasks i next) i pid ≡ true → pid_of next ≡ pid
number_is tasks i pid next less is = eqb-true (pid_of next) pid (ap (is_pid pid) (sym (get_set tasks i next less)) ∙ is)

-- ---- all live
pub all_living : {S : Type 0} (s : KernelState) (tasks : List (Task S)) → AreLiving s (map pid_of tasks) → living s tasks ≡ tasks
all_living s [] h = refl
all_living s (task ∷ tasks) h =
    ap (λ (b : Bool). cond b (task ∷ living s tasks) (living s tasks)) h.0 ∙ ap (λ (ts : List (Task _)). task ∷ ts) (all_living s tasks h.1)
