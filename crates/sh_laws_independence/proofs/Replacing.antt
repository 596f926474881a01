-- One process of a list after its turn.
use Rattle.std.proofs.Common.{◌≡◌, ◌≢◌, ℕ, List, [], ◌∷◌, Bool, true, false, cond, ◌&&◌, ◌==◌, nat_eq, find, Option, Some, None, refl, sym, ap, ◌∙◌}
use Rattle.std.specs.List.{filter, list_all}
use Rattle.std.proofs.lemmas.Bool.{eqb-true}
use Rattle.sh_exec.specs.Tasks.{pid_of}
use Rattle.sh_exec.specs.Processes.{TasksTurned, behind, turn_among, turned_first}
use Rattle.sh_exec.specs.Turns.{turn}
use Rattle.sh_exec.specs.declared.task.Task.{Task}
use Rattle.sh_kernel.specs.State.{KernelState}
use Rattle.sh_kernel_machine.proofs.Lists.{false_of}
use Rattle.sh_stock.specs.Asking.{Meaning}

both : (a b : Bool) → a ≡ true → b ≡ true → (a && b) ≡ true
both true b h g = g
both false b h g = absurd (cc)

left : (a b : Bool) → (a && b) ≡ true → a ≡ true
left true b h = refl
left false b h = absurd (cc)

right : (a b : Bool) → (a && b) ≡ true → b ≡ true
right true b h = h
right false b h = absurd (cc)

module _ {S : Type 0} where
  -- the first process of this number is this one now
  abbrev pub replaced : ℕ → Task S → List (Task S) → List (Task S)
  replaced pid x [] = []
  replaced pid x (task ∷ tasks) = cond (nat_eq (pid_of task) pid) (x ∷ tasks) (task ∷ replaced pid x tasks)

  abbrev pub first_of_pid : ℕ → List (Task S) → Option (Task S)
  first_of_pid pid tasks = find (λ task. pid_of task == pid) tasks

  pub turn_replaces : (m : Meaning S) (s : KernelState) (pid : ℕ) (task : Task S) (tasks : List (Task S)) → first_of_pid pid tasks ≡ Some task → (turn m s task).child ≡ None
      → turn_among m s pid tasks ≡ record { machine = (turn m s task).machine; tasks = replaced pid (turn m s task).task tasks; child = None }
  turn_replaces m s pid task [] h none = absurd (cc)
  turn_replaces m s pid task (x ∷ tasks) h none = of_test (λ found. turn_replaces m s pid task tasks found none) (nat_eq (pid_of x) pid) h
    where
      of_test : (first_of_pid pid tasks ≡ Some task → turn_among m s pid tasks ≡ record { machine = (turn m s task).machine; tasks = replaced pid (turn m s task).task tasks; child = None }) → (b : Bool) → cond b (Some x) (first_of_pid pid tasks) ≡ Some task
          → cond b (turned_first tasks (turn m s x)) (behind x (turn_among m s pid tasks)) ≡ record { machine = (turn m s task).machine; tasks = cond b ((turn m s task).task ∷ tasks) (x ∷ replaced pid (turn m s task).task tasks); child = None }
      of_test more true found =
          let same : x ≡ task = cc in
          ap (λ (y : Task S). turned_first tasks (turn m s y)) same
          ∙ ap (λ (c : Option (Task S)). let t : TasksTurned S = record { machine = (turn m s task).machine; tasks = (turn m s task).task ∷ tasks; child = c } in t) none
      of_test more false found = ap (λ (t : TasksTurned S). behind x t) (more found)

  -- a process of one number has no other
  elsewhere : (task : Task S) (p q : ℕ) → p ≢ q → pid_of task ≡ p → nat_eq (pid_of task) q ≡ false
  elsewhere task p q n own = false_of (nat_eq (pid_of task) q) (λ e. n (sym own ∙ eqb-true (pid_of task) q e))

  pub find_other : (p q : ℕ) (x : Task S) (tasks : List (Task S)) → p ≢ q → pid_of x ≡ p → first_of_pid q (replaced p x tasks) ≡ first_of_pid q tasks
  find_other p q x [] n own = refl
  find_other p q x (task ∷ tasks) n own = of_test (find_other p q x tasks n own) (nat_eq (pid_of task) p) refl
    where
      of_test : first_of_pid q (replaced p x tasks) ≡ first_of_pid q tasks → (b : Bool) → nat_eq (pid_of task) p ≡ b → first_of_pid q (cond b (x ∷ tasks) (task ∷ replaced p x tasks)) ≡ first_of_pid q (task ∷ tasks)
      of_test more true is =
          ap (λ (c : Bool). cond c (Some x) (first_of_pid q tasks)) (elsewhere x p q n own)
          ∙ sym (ap (λ (c : Bool). cond c (Some task) (first_of_pid q tasks)) (elsewhere task p q n (eqb-true (pid_of task) p is)))
      of_test more false is = ap (λ (o : Option (Task S)). cond (pid_of task == q) (Some task) o) more

  pub replaced_cross : (p q : ℕ) (x y : Task S) (tasks : List (Task S)) → p ≢ q → pid_of x ≡ p → pid_of y ≡ q → replaced q y (replaced p x tasks) ≡ replaced p x (replaced q y tasks)
  replaced_cross p q x y [] n own own' = refl
  replaced_cross p q x y (task ∷ tasks) n own own' = of_tests (replaced_cross p q x y tasks n own own') (nat_eq (pid_of task) p) (nat_eq (pid_of task) q) refl refl
    where
      of_tests : replaced q y (replaced p x tasks) ≡ replaced p x (replaced q y tasks) → (b c : Bool) → nat_eq (pid_of task) p ≡ b → nat_eq (pid_of task) q ≡ c → replaced q y (cond b (x ∷ tasks) (task ∷ replaced p x tasks)) ≡ replaced p x (cond c (y ∷ tasks) (task ∷ replaced q y tasks))
      of_tests more true true is is' = absurd (n (sym (eqb-true (pid_of task) p is) ∙ eqb-true (pid_of task) q is'))
      of_tests more true false is is' =
          ap (λ (d : Bool). cond d (y ∷ tasks) (x ∷ replaced q y tasks)) (elsewhere x p q n own)
          ∙ sym (ap (λ (d : Bool). cond d (x ∷ replaced q y tasks) (task ∷ replaced p x (replaced q y tasks))) is)
      of_tests more false true is is' =
          ap (λ (d : Bool). cond d (y ∷ replaced p x tasks) (task ∷ replaced q y (replaced p x tasks))) is'
          ∙ sym (ap (λ (d : Bool). cond d (x ∷ tasks) (y ∷ replaced p x tasks)) (elsewhere y q p (λ e. n (sym e)) own'))
      of_tests more false false is is' =
          ap (λ (d : Bool). cond d (y ∷ replaced p x tasks) (task ∷ replaced q y (replaced p x tasks))) is'
          ∙ ap (λ (ts : List (Task S)). task ∷ ts) more
          ∙ sym (ap (λ (d : Bool). cond d (x ∷ replaced q y tasks) (task ∷ replaced p x (replaced q y tasks))) is)

  pub all_stay : (f : Task S → Bool) (tasks : List (Task S)) → list_all f tasks ≡ true → filter f tasks ≡ tasks
  all_stay f [] h = refl
  all_stay f (task ∷ tasks) h =
      ap (λ (b : Bool). cond b (task ∷ filter f tasks) (filter f tasks)) (left (f task) (list_all f tasks) h)
      ∙ ap (λ (ts : List (Task S)). task ∷ ts) (all_stay f tasks (right (f task) (list_all f tasks) h))

  pub all_replaced : (f : Task S → Bool) (p : ℕ) (x : Task S) (tasks : List (Task S)) → list_all f tasks ≡ true → f x ≡ true → list_all f (replaced p x tasks) ≡ true
  all_replaced f p x [] h own = refl
  all_replaced f p x (task ∷ tasks) h own = of_test (all_replaced f p x tasks (right (f task) (list_all f tasks) h) own) (nat_eq (pid_of task) p)
    where
      of_test : list_all f (replaced p x tasks) ≡ true → (b : Bool) → list_all f (cond b (x ∷ tasks) (task ∷ replaced p x tasks)) ≡ true
      of_test more true = both (f x) (list_all f tasks) own (right (f task) (list_all f tasks) h)
      of_test more false = both (f task) (list_all f (replaced p x tasks)) (left (f task) (list_all f tasks) h) more

  pub found_passes : (f g : Task S → Bool) (task : Task S) (tasks : List (Task S)) → list_all f tasks ≡ true → find g tasks ≡ Some task → f task ≡ true
  found_passes f g task [] h found = absurd (cc)
  found_passes f g task (x ∷ tasks) h found = of_test (λ there. found_passes f g task tasks (right (f x) (list_all f tasks) h) there) (g x) found
    where
      of_test : (find g tasks ≡ Some task → f task ≡ true) → (b : Bool) → cond b (Some x) (find g tasks) ≡ Some task → f task ≡ true
      of_test more true here = let same : x ≡ task = cc in sym (ap f same) ∙ left (f x) (list_all f tasks) h
      of_test more false there = more there

  pub all_left : (f : Task S → Bool) (tasks : List (Task S)) → list_all f (filter f tasks) ≡ true
  all_left f [] = refl
  all_left f (task ∷ tasks) = of_test (all_left f tasks) (f task) refl
    where
      of_test : list_all f (filter f tasks) ≡ true → (b : Bool) → f task ≡ b → list_all f (cond b (task ∷ filter f tasks) (filter f tasks)) ≡ true
      of_test more true is = both (f task) (list_all f (filter f tasks)) is more
      of_test more false is = more
