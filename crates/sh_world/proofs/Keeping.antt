-- A turn that leaves what is known of the processes as it was.
use Rattle.std.proofs.Common.{◌≡◌, inl, inr, ℕ, List, Option, slice_set, sym, ap, ◌∙◌, subst, arith}
use Rattle.sh_exec.specs.Processes.{HaveTurned, living, turn_among, with_child}
use Rattle.sh_exec.specs.Tasks.{pid_of}
use Rattle.sh_exec.specs.declared.task.Task.{Task}
use Rattle.sh_kernel.specs.State.{KernelKept, KernelState, WatchKept}
use Rattle.sh_kernel.specs.Watching.{AreLiving}
use Rattle.sh_stock.specs.Asking.{Meaning}
use Rattle.sh_world.specs.Awake.{HasTurnedTo, IsAmong, IsChangedAt, IsKept, is_at}
use Rattle.sh_world.specs.Watching.{IsWatched, RiseTo}
use Rattle.sh_world.proofs.Watching.{all_living, number_is, pids_stay, split_set, within}

-- one of those at the places is another one with the same number
set_watch : {S : Type 0} (watch : WatchKept) (tasks : List (Task S)) (places : List ℕ) (pid place : ℕ) (next : Task S) → IsWatched watch tasks places → IsAmong tasks places pid place →
    pid_of next ≡ pid → IsWatched watch (slice_set tasks place next) places
set_watch watch tasks places pid place next w among same =
    let stay = pids_stay tasks place pid next among.at same in
    record {
      living = w.living ∙ sym stay;
      split = split_set 0 place place tasks next watch.blocked places (omega arith) w.split among.has;
      last = w.last;
      rise = subst (λ (ns : List ℕ). RiseTo 0 ns w.last) (sym stay) w.rise;
    }

changed_watch : {S : Type 0} (watch : WatchKept) (kernel : KernelKept) (tasks left : List (Task S)) (places : List ℕ) (pid place : ℕ) (made : Option (Task S)) → IsWatched watch tasks places →
    IsAmong tasks places pid place → IsKept kernel left made place pid → IsChangedAt place tasks left → IsWatched watch left places
changed_watch watch kernel tasks left places pid place made w among kept (inl same) = subst (λ (ts : List (Task _)). IsWatched watch ts places) (sym same) w
changed_watch watch kernel tasks left places pid place made w among kept (inr h) =
    let same = number_is tasks place pid h.0 (within tasks place pid among.at) (ap (λ (ts : List (Task _)). is_at ts place pid) (sym h.1) ∙ kept.at) in
    subst (λ (ts : List (Task _)). IsWatched watch ts places) (sym h.1) (set_watch watch tasks places pid place h.0 w among same)

pub kept_watch : {S : Type 0} (old kernel : KernelKept) (tasks slice turned left : List (Task S)) (places : List ℕ) (pid place : ℕ) (made : Option (Task S)) → IsWatched old.watch tasks places →
    IsAmong tasks places pid place → kernel.watch ≡ old.watch → slice ≡ tasks → IsChangedAt place slice turned → left ≡ turned → IsKept kernel left made place pid →
    IsWatched kernel.watch left places
kept_watch old kernel tasks slice turned left places pid place made w among watch same changed is kept =
    let moved = subst (λ (ts : List (Task _)). IsChangedAt place ts left) same (subst (IsChangedAt place slice) (sym is) changed) in
    subst (λ (x : WatchKept). IsWatched x left places) (sym watch) (changed_watch old.watch kernel tasks left places pid place made w among kept moved)

pub kept_turn : {S : Type 0} (m : Meaning S) (s : KernelState) (old kernel : KernelKept) (tasks slice turned left : List (Task S)) (places : List ℕ) (pid place : ℕ) (made : Option (Task S)) →
    IsWatched old.watch tasks places → IsAmong tasks places pid place → kernel.watch ≡ old.watch → slice ≡ tasks → IsChangedAt place slice turned → left ≡ turned →
    IsKept kernel left made place pid → HaveTurned kernel turned made (turn_among m s pid slice) → HasTurnedTo m s pid tasks kernel left
kept_turn m s old kernel tasks slice turned left places pid place made w among watch same changed is kept turns =
    let t = turn_among m s pid tasks in
    let got = subst (λ (ts : List (Task _)). HaveTurned kernel turned made (turn_among m s pid ts)) same turns in
    let now = kept_watch old kernel tasks slice turned left places pid place made w among watch same changed is kept in
    let alive = subst (AreLiving t.machine) now.living (kept.holds t.machine got.state).living in
    let childless = ap (with_child t.tasks) (sym got.child ∙ kept.childless) in
    record {
      state = got.state;
      tasks_are = sym (ap (living t.machine) (childless ∙ sym got.tasks_are ∙ sym is) ∙ all_living t.machine left alive);
    }
