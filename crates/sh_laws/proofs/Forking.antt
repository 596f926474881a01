-- What makes a process is requests of two.
use Rattle.std.proofs.Common.{◌≡◌, ℕ, Bool, true, false, [], ◌∷◌, Option, Some, None, refl, sym, ap, ◌∙◌, Result, Ok, Err}
use Rattle.std.specs.Result.{result_ok}
use Rattle.sh_kernel_descriptors.specs.declared.descriptor.DescriptorRef.TheVariants.{Number}
use Rattle.sh_kernel_descriptors.specs.declared.fault.KernelFault.{KernelFault}
use Rattle.sh_kernel.specs.State.{KernelState}
use Rattle.sh_kernel.specs.Calls.{fork_call}
use Rattle.sh_kernel.specs.Requests.{Close, Fork, after_requests}
use Rattle.sh_exec_machine.specs.Forking.{Forked, after_close, with_pipe_ends, without_aside, after_duplication, fork_between, fork_of, forked_by, with_child, laid, let_go, after_move, after_pipe, reads_from, set_aside, set_by, taken_up, without_child}
use Rattle.sh_laws.specs.Forking.{after_child, before_fork, behind_fork, end_aside, in_child, end_for_next, laying, new_process, taking_up, with_fork}
use Rattle.sh_laws.proofs.RequestLists.{after_requests-append}

-- what is left behind a fork that left this
abbrev after_fork : (pid : ℕ) (before : Option ℕ) (writes : Bool) (aside child : Option ℕ) → KernelState → Forked
after_fork pid before writes aside child s = record { child = child; aside = end_for_next child aside; after = after_requests (after_child s child (in_child before writes)) pid (behind_fork child aside) }

abbrev by_requests : KernelState → ℕ → Option ℕ → Bool → Forked
by_requests s pid before writes = after_fork pid before writes (end_aside s pid writes) (new_process s pid before writes) (after_requests s pid (with_fork before writes))

-- ---- up to the fork
set_by_after : (r : Result ℕ KernelFault) (s : KernelState) → (set_by r s).after ≡ s
set_by_after (Ok aside) s = refl
set_by_after (Err fault) s = refl

set_by_aside : (r : Result ℕ KernelFault) (s : KernelState) → (set_by r s).aside ≡ result_ok r
set_by_aside (Ok aside) s = refl
set_by_aside (Err fault) s = refl

laid_after : (writes : Bool) (s : KernelState) (pid : ℕ) → (laid writes s pid).after ≡ after_requests s pid (laying writes)
unfolding laid set_aside after_pipe
laid_after false s pid = refl
laid_after true s pid = set_by_after _ _

laid_aside : (writes : Bool) (s : KernelState) (pid : ℕ) → (laid writes s pid).aside ≡ end_aside s pid writes
unfolding laid set_aside after_pipe
laid_aside false s pid = refl
laid_aside true s pid = set_by_aside _ _

taken_up_is : (before : Option ℕ) (s : KernelState) (pid : ℕ) → taken_up before s pid ≡ after_requests s pid (taking_up before)
unfolding taken_up
taken_up_is None s pid = refl
taken_up_is (Some aside) s pid = refl

ready_is : (s : KernelState) (pid : ℕ) (before : Option ℕ) (writes : Bool) → taken_up before (laid writes s pid).after pid ≡ after_requests s pid (before_fork before writes)
ready_is s pid before writes =
    ap (λ (t : KernelState). taken_up before t pid) (laid_after writes s pid)
    ∙ taken_up_is before (after_requests s pid (laying writes)) pid
    ∙ sym (after_requests-append s pid (laying writes) (taking_up before))

-- ---- in the new process
connected_is : (before : Option ℕ) (writes : Bool) (s : KernelState) (child : ℕ) → with_pipe_ends (reads_from before) writes s child ≡ after_requests s child (in_child before writes)
unfolding with_pipe_ends after_move after_close after_duplication
connected_is None false s child = refl
connected_is None true s child = refl
connected_is (Some aside) false s child = refl
connected_is (Some aside) true s child = refl

-- ---- behind it
joined_is : (pid : ℕ) (before : Option ℕ) (writes : Bool) (aside : Option ℕ) (child : ℕ) (s : KernelState) → with_child pid (reads_from before) writes aside child s ≡ after_fork pid before writes aside (Some child) s
unfolding with_child let_go after_close
joined_is pid before writes aside child s =
    ap (λ (t : KernelState). record { child = Some child; aside = aside; after = after_requests t pid (Close (Number 10) ∷ Close (Number 11) ∷ []) }) (connected_is before writes s child)

unjoined_is : (pid : ℕ) (before : Option ℕ) (writes : Bool) (aside : Option ℕ) (s : KernelState) → without_child pid aside s ≡ after_fork pid before writes aside None s
unfolding without_child without_aside let_go after_close
unjoined_is pid before writes None s = refl
unjoined_is pid before writes (Some aside) s = refl

forked_by_is : (pid : ℕ) (before : Option ℕ) (writes : Bool) (aside : Option ℕ) (r : Result ℕ KernelFault) (s : KernelState) → forked_by pid (reads_from before) writes aside r s ≡ after_fork pid before writes aside (result_ok r) s
forked_by_is pid before writes aside (Ok child) s = joined_is pid before writes aside child s
forked_by_is pid before writes aside (Err fault) s = unjoined_is pid before writes aside s

-- ---- all of it
pub forked_is : (s : KernelState) (pid : ℕ) (before : Option ℕ) (writes : Bool) → fork_of s pid before writes ≡ by_requests s pid before writes
unfolding fork_of fork_between
forked_is s pid before writes =
    let ready = after_requests s pid (before_fork before writes) in
    ap (λ (t : KernelState). forked_by pid (reads_from before) writes (laid writes s pid).aside (fork_call t pid).answer (fork_call t pid).after) (ready_is s pid before writes)
    ∙ ap (λ (o : Option ℕ). forked_by pid (reads_from before) writes o (fork_call ready pid).answer (fork_call ready pid).after) (laid_aside writes s pid)
    ∙ forked_by_is pid before writes (end_aside s pid writes) (fork_call ready pid).answer (fork_call ready pid).after
    ∙ ap (λ (t : KernelState). after_fork pid before writes (end_aside s pid writes) (new_process s pid before writes) t) (sym (after_requests-append s pid (before_fork before writes) (Fork ∷ [])))
