-- Lists of requests of a process and of the one that it makes.
use Rattle.std.proofs.Common.{◌≡◌, ℕ, List, [], ◌∷◌, ◌++◌, Bool, true, false, ◌||◌, Option, Some, None, ◌⊎◌, inl, inr, refl, sym, ap, ◌∙◌}
use Rattle.sh_exec.specs.Turns.{turn}
use Rattle.sh_exec.specs.Tasks.{pid_of}
use Rattle.sh_exec.specs.declared.task.Task.{Task}
use Rattle.sh_exec_machine.specs.Forking.{fork_of}
use Rattle.sh_kernel.specs.Laws.{opens}
use Rattle.sh_kernel.specs.Requests.{Request, after_request}
use Rattle.sh_kernel.specs.State.{KernelState}
use Rattle.sh_stock.specs.Asking.{Meaning}
use Rattle.sh_laws.specs.Requests.{AllBy, ByRequests, after_all, directory_of, number_of, opens_by}
use Rattle.sh_laws.proofs.Processes.{turn_keeps}
use Rattle.sh_kernel_processes.specs.declared.member.SignalAction.{SignalAction}
use Rattle.sh_signal.specs.declared.signal.Signal.{Signal}
use Rattle.sh_laws.proofs.TurnRequests.{IsKept, after_making, fork_keeps}

pub after_append : (s : KernelState) (rs more : List (ℕ × Request)) → after_all s (rs ++ more) ≡ after_all (after_all s rs) more
after_append s [] more = refl
after_append s (r ∷ rs) more = after_append (after_request s r.0 r.1) rs more

or_assoc : (a b c : Bool) → (a || (b || c)) ≡ ((a || b) || c)
or_assoc true b c = refl
or_assoc false b c = refl

pub opens_append : (s : KernelState) (rs more : List (ℕ × Request)) (node : ℕ) → opens_by s (rs ++ more) node ≡ (opens_by s rs node || opens_by (after_all s rs) more node)
opens_append s [] more node = refl
opens_append s (r ∷ rs) more node =
    let t = after_request s r.0 r.1 in
    ap (λ (b : Bool). opens s.machine r.1 node || b) (opens_append t rs more node)
    ∙ or_assoc (opens s.machine r.1 node) (opens_by t rs node) (opens_by (after_all t rs) more node)

module _ (pid : ℕ) (directory : List ℕ) where
  pub append_by : (made : Option ℕ) (rs more : List (ℕ × Request)) → AllBy pid made directory rs → AllBy pid made directory more → AllBy pid made directory (rs ++ more)
  append_by made [] more a b = b
  append_by made (r ∷ rs) more a b = (a.0, (a.1.0, append_by made rs more a.1.1 b))

  of_two : (made : Option ℕ) (q : ℕ) → (q ≡ pid) ⊎ (None ≡ Some q) → (q ≡ pid) ⊎ (made ≡ Some q)
  of_two made q (inl e) = inl e
  of_two made q (inr e) = absurd (cc)

  -- what is of one process is of it or of another one
  pub more_by : (made : Option ℕ) (rs : List (ℕ × Request)) → AllBy pid None directory rs → AllBy pid made directory rs
  more_by made [] a = tt
  more_by made (r ∷ rs) a = (of_two made r.0 a.0, (a.1.0, more_by made rs a.1.1))

  abbrev pub one_by : (made : Option ℕ) (s : KernelState) (q : ℕ) → (q ≡ pid) ⊎ (made ≡ Some q) → IsKept directory q (ByRequests pid made directory s)
  one_by made s q is t r f b =
      let x : ℕ × Request = (q, r) in
      (b.0 ++ x ∷ [], (append_by made b.0 (x ∷ []) b.1.0 (is, (f, tt)), ap (λ (u : KernelState). after_request u q r) b.1.1 ∙ sym (after_append s b.0 (x ∷ []))))

  abbrev pub own_more : (made : Option ℕ) (s : KernelState) → IsKept directory pid (ByRequests pid made directory s)
  own_more made s = one_by made s pid (inl refl)

  abbrev pub by_then : (made : Option ℕ) (s t u : KernelState) → ByRequests pid None directory s t → ByRequests pid made directory t u → ByRequests pid made directory s u
  by_then made s t u a b =
      (a.0 ++ b.0, (append_by made a.0 b.0 (more_by made a.0 a.1.0) b.1.0, b.1.1 ∙ ap (λ (v : KernelState). after_all v b.0) a.1.1 ∙ sym (after_append s a.0 b.0)))

  pub fork_by : (s : KernelState) (before : Option ℕ) (writes : Bool) (own : List (Signal × SignalAction)) (control is_foreground : Bool) (others : List ℕ)
      → ByRequests pid (fork_of s pid before writes).child directory s (after_making s pid before writes own control is_foreground others)
  fork_by s before writes own control is_foreground others =
      fork_keeps directory pid (λ made. ByRequests pid made directory s) (λ made. own_more made s)
      (λ t child b. (b.0, (more_by (Some child) b.0 b.1.0, b.1.1))) (λ child. one_by (Some child) s child (inr refl))
      s before writes own control is_foreground others ([], (tt, refl))

pub turns : {S : Type 0} (m : Meaning S) (s : KernelState) (task : Task S) → let t = turn m s task in ByRequests (pid_of task) (number_of t.child) (directory_of task) s t.machine
turns m s task =
    let pid = pid_of task in
    let directory = directory_of task in
    turn_keeps m directory pid (λ made. ByRequests pid made directory s) (λ made. own_more pid directory made s)
    (λ t before writes own control is_foreground others b.
    by_then pid directory (fork_of t pid before writes).child s t (after_making t pid before writes own control is_foreground others) b
    (fork_by pid directory t before writes own control is_foreground others))
    s task refl refl ([], (tt, refl))
