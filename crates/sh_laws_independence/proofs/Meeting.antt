-- The machine and its processes after two independent turns.
use Rattle.std.proofs.Common.{◌≡◌, ℕ, ◌==◌, List, [], ◌∷◌, true, Some, None, refl, sym, ap, ◌∙◌}
use Rattle.std.specs.List.{list_all}
use Rattle.sh_kernel_processes.specs.Processes.{lives}
use Rattle.sh_kernel_processes.specs.declared.process.Process.{Process}
use Rattle.sh_kernel.specs.State.{KernelState}
use Rattle.sh_kernel.specs.Turns.{can_do}
use Rattle.sh_exec.specs.Actions.{action_for}
use Rattle.sh_exec.specs.Processes.{TasksTurned, is_living, turn_among, with_child}
use Rattle.sh_exec.specs.State.{State, after_turn, task_of, with_tasks}
use Rattle.sh_exec.specs.Tasks.{pid_of}
use Rattle.sh_exec.specs.Turns.{turn}
use Rattle.sh_exec.specs.declared.task.Task.{Task}
use Rattle.sh_exec.specs.declared.task.Task.TheVariants.{Asks}
use Rattle.sh_laws_independence.specs.IndependentTurns.{AreAlike, AreEquivalent, AreIndependentAt, AreIndependentTurns, Behind, Same, Swap, Then, after_turns}
use Rattle.sh_laws_independence.proofs.Asked.{can_still, both_leave_processes, machines_commute, tasks_stay, turn_leaves_processes, turns_flipped}
use Rattle.sh_laws_independence.proofs.Replacing.{all_left, all_replaced, all_stay, find_other, found_passes, replaced, replaced_cross, turn_replaces}
use Rattle.sh_stock.specs.Asking.{Meaning}
use Rattle.sh_stock.specs.declared.asking.Ask.{Ask}

module _ {S : Type 0} (m : Meaning S) where
  -- the state after a turn of a program by which none starts or ends
  abbrev with_turned : State S → (p : ℕ) → Ask → S → State S
  with_turned s p a x = let t = turn m s.machine (Asks p a x) in record { machine = t.machine; tasks = replaced p t.task s.tasks; last = Some p }

  all_live : (s : State S) (p : ℕ) (a : Ask) (x : S) → list_all (is_living s.machine) s.tasks ≡ true → task_of s p ≡ Some (Asks p a x) → (turn m s.machine (Asks p a x)).machine.machine.processes ≡ s.machine.machine.processes
      → list_all (is_living (with_turned s p a x).machine) (with_turned s p a x).tasks ≡ true
  all_live s p a x all found same =
      ap (λ (ps : List Process). list_all (λ (task : Task S). lives ps (pid_of task)) (with_turned s p a x).tasks) same
      ∙ all_replaced (is_living s.machine) p (turn m s.machine (Asks p a x)).task s.tasks all (found_passes (is_living s.machine) (λ task. pid_of task == p) (Asks p a x) s.tasks all found)

  after_one : (s : State S) (p : ℕ) (a : Ask) (x : S) → list_all (is_living s.machine) s.tasks ≡ true → task_of s p ≡ Some (Asks p a x) → (turn m s.machine (Asks p a x)).machine.machine.processes ≡ s.machine.machine.processes
      → after_turn m s p ≡ with_turned s p a x
  after_one s p a x all found same =
      let t = turn m s.machine (Asks p a x) in
      ap (λ (d : TasksTurned S). with_tasks s p d) (turn_replaces m s.machine p (Asks p a x) s.tasks found refl)
      ∙ ap (λ (ts : List (Task S)). let u : State S = record { machine = t.machine; tasks = ts; last = Some p } in u) (all_stay (is_living t.machine) (replaced p t.task s.tasks) (all_live s p a x all found same))

  after_both : (s : State S) (p q : ℕ) (a a' : Ask) (x x' : S) → AreIndependentTurns s.machine p a q a' → list_all (is_living s.machine) s.tasks ≡ true → task_of s p ≡ Some (Asks p a x) → task_of s q ≡ Some (Asks q a' x')
      → after_turn m (after_turn m s p) q ≡ with_turned (with_turned s p a x) q a' x'
  after_both s p q a a' x x' i all found found' =
      let same = turn_leaves_processes m s.machine p q a a' x i in
      ap (λ (u : State S). after_turn m u q) (after_one s p a x all found same)
      ∙ after_one (with_turned s p a x) q a' x' (all_live s p a x all found same) (find_other p q (turn m s.machine (Asks p a x)).task s.tasks i.processes refl ∙ found')
      (both_leave_processes m s.machine p q a a' x x' i ∙ sym same)

  machines_meet : (s : State S) (p q : ℕ) (a a' : Ask) (x x' : S) → AreIndependentTurns s.machine p a q a' → list_all (is_living s.machine) s.tasks ≡ true → task_of s p ≡ Some (Asks p a x) → task_of s q ≡ Some (Asks q a' x')
      → (after_turn m (after_turn m s p) q).machine ≡ (after_turn m (after_turn m s q) p).machine
  machines_meet s p q a a' x x' i all found found' =
      ap (λ (u : State S). u.machine) (after_both s p q a a' x x' i all found found')
      ∙ machines_commute m s.machine p q a a' x x' i
      ∙ sym (ap (λ (u : State S). u.machine) (after_both s q p a' a x' x (turns_flipped m s.machine p q a a' i) all found' found))

  tasks_meet : (s : State S) (p q : ℕ) (a a' : Ask) (x x' : S) → AreIndependentTurns s.machine p a q a' → list_all (is_living s.machine) s.tasks ≡ true → task_of s p ≡ Some (Asks p a x) → task_of s q ≡ Some (Asks q a' x')
      → (after_turn m (after_turn m s p) q).tasks ≡ (after_turn m (after_turn m s q) p).tasks
  tasks_meet s p q a a' x x' i all found found' =
      let i' = turns_flipped m s.machine p q a a' i in
      let first = (turn m s.machine (Asks p a x)).task in
      let second = (turn m s.machine (Asks q a' x')).task in
      ap (λ (u : State S). u.tasks) (after_both s p q a a' x x' i all found found')
      ∙ ap (λ (y : Task S). replaced q y (replaced p first s.tasks)) (tasks_stay m s.machine q p a' a x' x i')
      ∙ replaced_cross p q first second s.tasks i.processes refl refl
      ∙ sym (ap (λ (y : Task S). replaced p y (replaced q second s.tasks)) (tasks_stay m s.machine p q a a' x x' i))
      ∙ sym (ap (λ (u : State S). u.tasks) (after_both s q p a' a x' x i' all found' found))

  pub all_live_after : (s : State S) (pid : ℕ) → list_all (is_living (after_turn m s pid).machine) (after_turn m s pid).tasks ≡ true
  all_live_after s pid = let t = turn_among m s.machine pid s.tasks in all_left (is_living t.machine) (with_child t.tasks t.child)

  pub orders_meet : (s : State S) (p q : ℕ) → AreIndependentAt s p q → AreAlike (after_turn m (after_turn m s p) q) (after_turn m (after_turn m s q) p)
  orders_meet s p q i = record {
    machine = machines_meet s p q i.ask i.ask' i.program i.program' i.independent i.living i.first i.second;
    tasks = tasks_meet s p q i.ask i.ask' i.program i.program' i.independent i.living i.first i.second;
  }

  pub stays_there : (s : State S) (p q : ℕ) → AreIndependentAt s p q → task_of (after_turn m s q) p ≡ task_of s p
  stays_there s p q i =
      let i' = turns_flipped m s.machine p q i.ask i.ask' i.independent in
      let same = turn_leaves_processes m s.machine q p i.ask' i.ask i.program' i' in
      ap (λ (u : State S). task_of u p) (after_one s q i.ask' i.program' i.living i.second same)
      ∙ find_other q p (turn m s.machine (Asks q i.ask' i.program')).task s.tasks i'.processes refl

  pub can_there : (s : State S) (p q : ℕ) (i : AreIndependentAt s p q) → can_do (after_turn m s q).machine p (action_for i.ask) ≡ can_do s.machine p (action_for i.ask)
  can_there s p q i =
      let i' = turns_flipped m s.machine p q i.ask i.ask' i.independent in
      let same = turn_leaves_processes m s.machine q p i.ask' i.ask i.program' i' in
      ap (λ (u : State S). can_do u.machine p (action_for i.ask)) (after_one s q i.ask' i.program' i.living i.second same)
      ∙ can_still m s.machine p q i.ask i.ask' i.program' i.independent

  -- ---- schedules
  -- a turn doesn't look at which process took one last
  turn_alike : (s t : State S) (pid : ℕ) → AreAlike s t → after_turn m s pid ≡ after_turn m t pid
  turn_alike s t pid a =
      ap (λ (machine : KernelState). let u : State S = record { machine = machine; tasks = s.tasks; last = None } in after_turn m u pid) a.machine
      ∙ ap (λ (tasks : List (Task S)). let u : State S = record { machine = t.machine; tasks = tasks; last = None } in after_turn m u pid) a.tasks

  turns_alike : (pids : List ℕ) (s t : State S) → AreAlike s t → AreAlike (after_turns m s pids) (after_turns m t pids)
  turns_alike [] s t a = a
  turns_alike (pid ∷ pids) s t a =
      let same = ap (λ (u : State S). after_turns m u pids) (turn_alike s t pid a) in
      record { machine = ap (λ (u : State S). u.machine) same; tasks = ap (λ (u : State S). u.tasks) same }

  pub schedules_meet : (s : State S) (one other : List ℕ) → AreEquivalent m s one other → AreAlike (after_turns m s one) (after_turns m s other)
  schedules_meet s one other (Same s' pids) = record { machine = refl; tasks = refl }
  schedules_meet s one other (Swap s' p q pids i) = turns_alike pids (after_turn m (after_turn m s' p) q) (after_turn m (after_turn m s' q) p) (orders_meet s' p q i)
  schedules_meet s one other (Behind s' pid rest rest' e) = schedules_meet (after_turn m s' pid) rest rest' e
  schedules_meet s one other (Then s' a b c e e') =
      let x = schedules_meet s' a b e in
      let y = schedules_meet s' b c e' in
      record { machine = x.machine ∙ y.machine; tasks = x.tasks ∙ y.tasks }
