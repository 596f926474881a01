-- The processes of the shell machine after a turn.
use Rattle.std.proofs.Common.{◌≡◌, ◌≢◌, ℕ, nat_eq, ◌==◌, List, [], ◌∷◌, ◌++◌, find, Bool, true, false, cond, Option, Some, None, refl, sym, ap, ◌∙◌, eq-eqb, eqb-true}
use Rattle.std.specs.List.{filter}
use Rattle.sh_exec.specs.Processes.{behind, is_living, living, turn_among, turned_first, with_child}
use Rattle.sh_exec.specs.Tasks.{pid_of}
use Rattle.sh_exec.specs.Turns.{turn}
use Rattle.sh_exec.specs.declared.task.Task.{Task}
use Rattle.sh_kernel.specs.State.{KernelState}
use Rattle.sh_kernel_processes.specs.Processes.{lives}
use Rattle.sh_laws_pipelines.proofs.Links.{not_same}
use Rattle.sh_stock.specs.Asking.{Meaning}

module _ {S : Type 0} where
  abbrev pub of_pid : ℕ → List (Task S) → Option (Task S)
  of_pid pid tasks = find (λ task. pid_of task == pid) tasks

  found_pid : (pid : ℕ) (task : Task S) (tasks : List (Task S)) → of_pid pid tasks ≡ Some task → pid_of task ≡ pid
  found_pid pid task [] h = cc
  found_pid pid task (x ∷ tasks) h = of_first (pid_of x == pid) refl h (λ g. found_pid pid task tasks g)
    where
      of_first : (b : Bool) → (pid_of x == pid) ≡ b → cond b (Some x) (of_pid pid tasks) ≡ Some task → (of_pid pid tasks ≡ Some task → pid_of task ≡ pid) → pid_of task ≡ pid
      of_first true is h others = let same : x ≡ task = cc in ap pid_of (sym same) ∙ eqb-true (pid_of x) pid is
      of_first false is h others = others h

  -- ---- those that live
  kept : (f : Task S → Bool) (pid : ℕ) (task : Task S) (tasks : List (Task S)) → of_pid pid tasks ≡ Some task → f task ≡ true → of_pid pid (filter f tasks) ≡ Some task
  kept f pid task [] h lives = cc
  kept f pid task (x ∷ tasks) h lives = of_first (pid_of x == pid) refl (f x) refl h (λ g. kept f pid task tasks g lives)
    where
      of_first : (b : Bool) → (pid_of x == pid) ≡ b → (c : Bool) → f x ≡ c → cond b (Some x) (of_pid pid tasks) ≡ Some task → (of_pid pid tasks ≡ Some task → of_pid pid (filter f tasks) ≡ Some task)
          → of_pid pid (cond c (x ∷ filter f tasks) (filter f tasks)) ≡ Some task
      of_first true is true keeps h others = ap (λ (b : Bool). cond b (Some x) (of_pid pid (filter f tasks))) is ∙ h
      of_first true is false drops h others = let same : x ≡ task = cc in let both : true ≡ false = sym lives ∙ (ap f (sym same) ∙ drops) in absurd (cc)
      of_first false is true keeps h others = ap (λ (b : Bool). cond b (Some x) (of_pid pid (filter f tasks))) is ∙ others h
      of_first false is false drops h others = others h

  in_front : (pid : ℕ) (task : Task S) (tasks more : List (Task S)) → of_pid pid tasks ≡ Some task → of_pid pid (tasks ++ more) ≡ Some task
  in_front pid task [] more h = cc
  in_front pid task (x ∷ tasks) more h = of_first (pid_of x == pid) h (λ g. in_front pid task tasks more g)
    where
      of_first : (b : Bool) → cond b (Some x) (of_pid pid tasks) ≡ Some task → (of_pid pid tasks ≡ Some task → of_pid pid (tasks ++ more) ≡ Some task) → cond b (Some x) (of_pid pid (tasks ++ more)) ≡ Some task
      of_first true h others = h
      of_first false h others = others h

  with_made : (pid : ℕ) (task : Task S) (tasks : List (Task S)) (child : Option (Task S)) → of_pid pid tasks ≡ Some task → of_pid pid (with_child tasks child) ≡ Some task
  with_made pid task tasks None h = h
  with_made pid task tasks (Some child) h = in_front pid task tasks (child ∷ []) h

  pub still_lives : (s : KernelState) (pid : ℕ) (task : Task S) (tasks : List (Task S)) (child : Option (Task S)) → of_pid pid tasks ≡ Some task → lives s.machine.processes pid ≡ true → of_pid pid (living s (with_child tasks child)) ≡ Some task
  still_lives s pid task tasks child found alive =
      let there = with_made pid task tasks child found in
      kept (is_living s) pid task (with_child tasks child) there (ap (λ (q : ℕ). lives s.machine.processes q) (found_pid pid task (with_child tasks child) there) ∙ alive)

  module _ (m : Meaning S) (numbers : (s : KernelState) (task : Task S) → pid_of (turn m s task).task ≡ pid_of task) (s : KernelState) where
    pub record IsTurned (pid : ℕ) (task : Task S) (tasks : List (Task S)) : Type 0 where
      pub machine : (turn_among m s pid tasks).machine ≡ (turn m s task).machine
      pub own : of_pid pid (turn_among m s pid tasks).tasks ≡ Some (turn m s task).task

    pub turned : (pid : ℕ) (task : Task S) (tasks : List (Task S)) → of_pid pid tasks ≡ Some task → IsTurned pid task tasks
    turned pid task [] h = cc
    turned pid task (x ∷ tasks) h = of_first (nat_eq (pid_of x) pid) refl h (λ g. turned pid task tasks g)
      where
        of_first : (b : Bool) → nat_eq (pid_of x) pid ≡ b → cond b (Some x) (of_pid pid tasks) ≡ Some task → (of_pid pid tasks ≡ Some task → IsTurned pid task tasks) → IsTurned pid task (x ∷ tasks)
        of_first true is h others =
            let same : x ≡ task = cc in
            let t = turn m s x in
            let own : pid_of t.task ≡ pid = numbers s x ∙ eqb-true (pid_of x) pid is in
            record {
              machine = ap (λ (b : Bool). (cond b (turned_first tasks t) (behind x (turn_among m s pid tasks))).machine) is ∙ ap (λ (y : Task S). (turn m s y).machine) same;
              own = ap (λ (b : Bool). of_pid pid (cond b (turned_first tasks t) (behind x (turn_among m s pid tasks))).tasks) is
                  ∙ (ap (λ (b : Bool). cond b (Some t.task) (of_pid pid tasks)) (eq-eqb (pid_of t.task) pid own) ∙ ap (λ (y : Task S). Some (turn m s y).task) same);
            }
        of_first false is h others =
            let r = others h in
            record {
              machine = ap (λ (b : Bool). (cond b (turned_first tasks (turn m s x)) (behind x (turn_among m s pid tasks))).machine) is ∙ r.machine;
              own = ap (λ (b : Bool). of_pid pid (cond b (turned_first tasks (turn m s x)) (behind x (turn_among m s pid tasks))).tasks) is
                  ∙ (ap (λ (b : Bool). cond b (Some x) (of_pid pid (turn_among m s pid tasks).tasks)) is ∙ r.own);
            }

    pub others_stay : (pid q : ℕ) (tasks : List (Task S)) → q ≢ pid → of_pid q (turn_among m s pid tasks).tasks ≡ of_pid q tasks
    others_stay pid q [] n = refl
    others_stay pid q (x ∷ tasks) n = of_first (nat_eq (pid_of x) pid) refl (others_stay pid q tasks n)
      where
        of_first : (b : Bool) → nat_eq (pid_of x) pid ≡ b → of_pid q (turn_among m s pid tasks).tasks ≡ of_pid q tasks → of_pid q (cond b (turned_first tasks (turn m s x)) (behind x (turn_among m s pid tasks))).tasks ≡ cond (pid_of x == q) (Some x) (of_pid q tasks)
        of_first true is rest =
            let own = eqb-true (pid_of x) pid is in
            let t = turn m s x in
            ap (λ (b : Bool). cond b (Some t.task) (of_pid q tasks)) (not_same (pid_of t.task) q (λ h. n (sym h ∙ (numbers s x ∙ own))))
            ∙ sym (ap (λ (b : Bool). cond b (Some x) (of_pid q tasks)) (not_same (pid_of x) q (λ h. n (sym h ∙ own))))
        of_first false is rest = ap (λ (o : Option (Task S)). cond (pid_of x == q) (Some x) o) rest
