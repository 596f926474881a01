-- By making another one a process comes to reach no more.
use Rattle.std.proofs.Common.{◌≡◌, ℕ, ◌<◌, ◌==◌, Bool, true, false, ◌++◌, length, Option, Some, None, refl, sym, arith, subst}
use Rattle.sh_kernel_descriptors.specs.Machine.{MachineState}
use Rattle.sh_kernel_processes.specs.Processes.{next_pid}
use Rattle.sh_kernel.specs.State.{KernelState}
use Rattle.sh_kernel.specs.Laws.{ReachesNoMore}
use Rattle.sh_kernel.specs.Reaching.{is_end, is_file, reaches}
use Rattle.sh_kernel.specs.Requests.{after_requests}
use Rattle.sh_exec_machine.specs.Forking.{fork_of}
use Rattle.sh_laws.specs.Forking.{UnmadeReachNothing, after_both, before_fork, behind_fork, end_aside, in_child, new_process, with_fork}
use Rattle.sh_laws.proofs.RequestChanges.{Made, after_is, all_open_none, behind_opens_none, behind_sends_none, child_none_at, made_by, maker_none, maker_none_at}
use Rattle.sh_laws.proofs.RequestLists.{after_requests-append, reaches_as_before}

reached : (pid child : ℕ) (a b c d e : MachineState) → Made pid child a b c d e → ReachesNoMore pid (λ node. false) a e
reached pid child a b c d e w = record {
  pipes = λ q within h.
      let at_c : q < length c.pipes = omega (arith, within, w.grows.pipes) in
      let at_d : q < length d.pipes = omega (arith, at_c, w.grows_inside.pipes) in
      w.last_less.pipes q at_d (maker_none_at (λ es. is_end es q) pid child a b c d e w (w.less.pipes q within h));
  files = λ node h unopened. w.last_less.files node (maker_none_at (λ es. is_file es node) pid child a b c d e w (w.less.files node h refl)) refl;
  descriptions = λ k within h.
      let at_c : k < length c.descriptions = omega (arith, within, w.grows.descriptions) in
      let at_d : k < length d.descriptions = omega (arith, at_c, w.grows_inside.descriptions) in
      w.last_less.descriptions k at_d (maker_none pid child a b c d e w (λ j. j == k) (w.less.descriptions k within h));
  others = λ p q within own h.
      let at_c : q < length c.pipes = omega (arith, within, w.grows.pipes) in
      let at_d : q < length d.pipes = omega (arith, at_c, w.grows_inside.pipes) in
      w.last_less.others p q at_d (maker_none_at (λ es. is_end es q) pid child a b c d e w (w.less.pipes q within own))
      (w.less_inside.others p q at_c (child_none_at (λ es. is_end es q) pid child a b c d e w (w.ready.pipes q within own)) (w.less.others p q within own h));
}

by_child : (s : KernelState) (pid : ℕ) (before : Option ℕ) (writes : Bool) (child aside : Option ℕ) → new_process s pid before writes ≡ child
    → reaches s.machine.descriptors (next_pid s.machine.processes) (λ k. true) ≡ false
    → ReachesNoMore pid (λ node. false) s.machine (after_both s pid (with_fork before writes) child (in_child before writes) (behind_fork child aside)).machine
by_child s pid before writes None aside is none =
    subst (λ (t : KernelState). ReachesNoMore pid (λ node. false) s.machine t.machine) (after_requests-append s pid (with_fork before writes) (behind_fork None aside))
    (reaches_as_before s pid (with_fork before writes ++ behind_fork None aside) (all_open_none before writes aside s pid))
by_child s pid before writes (Some child) aside is none =
    let last = behind_fork (Some child) aside in
    let c = after_requests s pid (with_fork before writes) in
    let d = after_requests c child (in_child before writes) in
    reached pid child s.machine (after_requests s pid (before_fork before writes)).machine c.machine d.machine (after_requests d pid last).machine
    (made_by s pid before writes child last is none (λ t node. behind_opens_none (Some child) aside t pid node) (λ t. behind_sends_none (Some child) aside t pid))

pub forking_reaches : (s : KernelState) (pid : ℕ) (before : Option ℕ) (writes : Bool) → UnmadeReachNothing s.machine → ReachesNoMore pid (λ node. false) s.machine (fork_of s pid before writes).after.machine
forking_reaches s pid before writes none =
    subst (λ (t : KernelState). ReachesNoMore pid (λ node. false) s.machine t.machine) (sym (after_is s pid before writes)) (by_child s pid before writes (new_process s pid before writes) (end_aside s pid writes) refl (none (next_pid s.machine.processes) (omega arith)))
