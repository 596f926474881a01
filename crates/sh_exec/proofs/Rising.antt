-- The list of runnable pids rises, and has every process that can take a turn and no other.
use Rattle.std.proofs.Common.{◌≡◌, ℕ, ◌<◌, Bool, true, false, ◌||◌, List, [], ◌∷◌, Some, nat_eq, if◌then◌else◌, refl, sym, ap, ◌∙◌, subst, arith}
use Rattle.std.specs.Option.{option_map_or}
use Rattle.std.proofs.lemmas.Bool.{eqb-true}
use Rattle.sh_exec.specs.Actions.{action_of}
use Rattle.sh_exec.specs.Tasks.{pid_of}
use Rattle.sh_kernel.specs.State.{KernelState}
use Rattle.sh_kernel.specs.Turns.{can_do, is_runnable}
use Rattle.sh_kernel_machine.proofs.Lists.{false_of}
use Rattle.sh_exec.specs.Order.{IsBelow, ListsRunnable, Rises, actions_of, has, pids_of}
use Rattle.sh_exec.specs.Processes.{runnable_pids}
use Rattle.sh_exec.specs.declared.task.Task.{Task}

below_by : (n pid : ℕ) (pids : List ℕ) (b : Bool) → n < pid → IsBelow n pids → IsBelow n (if b then pid ∷ pids else pids)
below_by n pid pids true l below = (l, below)
below_by n pid pids false l below = below

-- what is below the pids of all is below those of the runnable
below_runnable : {S : Type 0} (s : KernelState) (n : ℕ) (tasks : List (Task S)) → IsBelow n (pids_of tasks) → IsBelow n (runnable_pids s tasks)
below_runnable s n [] h = tt
below_runnable s n (task ∷ tasks) h =
    below_by n (pid_of task) (runnable_pids s tasks) (can_do s (pid_of task) (action_of s task)) h.0 (below_runnable s n tasks h.1)

rise_by : (pid : ℕ) (pids : List ℕ) (b : Bool) → IsBelow pid pids → Rises pids → Rises (if b then pid ∷ pids else pids)
rise_by pid pids true below rest = (below, rest)
rise_by pid pids false below rest = rest

runnable_rise : {S : Type 0} (s : KernelState) (tasks : List (Task S)) → Rises (pids_of tasks) → Rises (runnable_pids s tasks)
runnable_rise s [] h = tt
runnable_rise s (task ∷ tasks) h =
    rise_by (pid_of task) (runnable_pids s tasks) (can_do s (pid_of task) (action_of s task)) (below_runnable s (pid_of task) tasks h.0) (runnable_rise s tasks h.1)

-- what is below numbers is none of them
not_among : (n : ℕ) (ms : List ℕ) → IsBelow n ms → has ms n ≡ false
not_among n [] h = refl
not_among n (m ∷ ms) h =
    let less = h.0 in
    ap (λ (b : Bool). b || has ms n) (false_of (nat_eq m n) (λ t. let same = eqb-true m n t in omega (arith, less, same))) ∙ not_among n ms h.1

-- the first of the processes has the pid, or one behind it
has_by : {S : Type 0} (s : KernelState) (pid : ℕ) (task : Task S) (tasks : List (Task S)) (pids : List ℕ) (e b : Bool) →
    nat_eq (pid_of task) pid ≡ e → can_do s (pid_of task) (action_of s task) ≡ b →
    has pids (pid_of task) ≡ false → has pids pid ≡ is_runnable s (actions_of s tasks) pid →
    has (if b then pid_of task ∷ pids else pids) pid ≡ option_map_or (can_do s pid) (if e then Some (action_of s task) else actions_of s tasks pid) false
has_by s pid task tasks pids true true h can absent rest =
    ap (λ (b : Bool). b || has pids pid) h ∙ sym (ap (λ (n : ℕ). can_do s n (action_of s task)) (sym (eqb-true (pid_of task) pid h)) ∙ can)
has_by s pid task tasks pids true false h can absent rest =
    subst (λ (n : ℕ). has pids n ≡ false) (eqb-true (pid_of task) pid h) absent
    ∙ sym (ap (λ (n : ℕ). can_do s n (action_of s task)) (sym (eqb-true (pid_of task) pid h)) ∙ can)
has_by s pid task tasks pids false true h can absent rest = ap (λ (b : Bool). b || has pids pid) h ∙ rest
has_by s pid task tasks pids false false h can absent rest = rest

has_runnable : {S : Type 0} (s : KernelState) (tasks : List (Task S)) → Rises (pids_of tasks) → (pid : ℕ) → has (runnable_pids s tasks) pid ≡ is_runnable s (actions_of s tasks) pid
has_runnable s [] h pid = refl
has_runnable s (task ∷ tasks) h pid =
    has_by s pid task tasks (runnable_pids s tasks) (nat_eq (pid_of task) pid) (can_do s (pid_of task) (action_of s task)) refl refl
    (not_among (pid_of task) (runnable_pids s tasks) (below_runnable s (pid_of task) tasks h.0)) (has_runnable s tasks h.1 pid)

pub lists_runnable : {S : Type 0} (s : KernelState) (tasks : List (Task S)) → Rises (pids_of tasks) → ListsRunnable s tasks (runnable_pids s tasks)
lists_runnable s tasks h = record { rises = runnable_rise s tasks h; all = has_runnable s tasks h }
