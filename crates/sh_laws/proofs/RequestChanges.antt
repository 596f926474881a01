-- What the making of a process changes.
use Rattle.std.proofs.Common.{◌≡◌, ◌≢◌, ℕ, zero, suc, ◌-◌, ◌<◌, ◌==◌, Bool, true, false, cond, List, [], ◌∷◌, ◌++◌, length, Option, Some, None, slice_get, refl, sym, ap, ◌∙◌, arith, subst, nat_le}
use Rattle.std.specs.Option.{option_map_or}
use Rattle.std.specs.Result.{result_ok}
use Rattle.sh_kernel_descriptors.specs.Descriptors.{description_number}
use Rattle.sh_kernel_descriptors.specs.Machine as machine
use Rattle.sh_kernel_descriptors.specs.Machine.{MachineState}
use Rattle.sh_kernel_descriptors.specs.Naming.{close_found, dup_found, is_allowed, is_description, with_number}
use Rattle.sh_kernel_descriptors.specs.Outcomes.{success, refusal}
use Rattle.sh_kernel_descriptors.specs.Copies.{copies}
use Rattle.sh_kernel_processes.specs.Processes.{has_ended, is_ended, is_living, lives, may_fork, next_pid, process_at}
use Rattle.sh_kernel_descriptors.specs.declared.description.Description.{Description}
use Rattle.sh_kernel_descriptors.specs.declared.descriptor.DescriptorRef.{DescriptorRef}
use Rattle.sh_kernel_descriptors.specs.declared.descriptor.DescriptorRef.TheVariants.{Number}
use Rattle.sh_kernel_descriptors.specs.declared.fault.KernelFault.TheVariants.{NoProcess, TooManyDescriptors, TooManyProcesses}
use Rattle.sh_kernel_processes.specs.declared.process.Process.{Process}
use Rattle.sh_kernel.specs.State.{KernelState}
use Rattle.sh_kernel.specs.Calls.{fork_call, with_new_process}
use Rattle.sh_kernel.specs.Laws.{ChangesOnlyReached, IsOwned, OnlyGrows, ReachesNoMore, opens_any, sends_any}
use Rattle.sh_kernel.specs.Reaching.{is_end, is_file, reaches}
use Rattle.sh_kernel.specs.Requests.{Request, Duplicate, Fork, MakePipe, SetAside, after_request, after_requests}
use Rattle.sh_kernel.proofs.Growing.{grows_then, requests_grow}
use Rattle.sh_kernel.proofs.Reached.{lists_grow, lists_leave_owned}
use Rattle.sh_exec_machine.specs.Forking.{Forked, fork_of}
use Rattle.sh_laws.specs.Forking.{UnmadeReachNothing, after_both, after_child, before_fork, behind_fork, end_aside, in_child, laying, moving, new_process, taking_up, with_fork}
use Rattle.sh_laws.proofs.Forking.{forked_is}
use Rattle.sh_laws.proofs.RequestLists.{after_requests-append, changes_reached, reaches_as_before}
use Rattle.sh_laws.proofs.Others.{Keeps, child_reaches, keeps_aside, keeps_back, keeps_pipe, keeps_same, keeps_then, same_own}

-- ---- no request opens a file
before_opens_none : (before : Option ℕ) (writes : Bool) (s : KernelState) (pid node : ℕ) → opens_any s pid (before_fork before writes) node ≡ false
before_opens_none None false s pid node = refl
before_opens_none None true s pid node = refl
before_opens_none (Some aside) false s pid node = refl
before_opens_none (Some aside) true s pid node = refl

fork_opens_none : (before : Option ℕ) (writes : Bool) (s : KernelState) (pid node : ℕ) → opens_any s pid (with_fork before writes) node ≡ false
fork_opens_none None false s pid node = refl
fork_opens_none None true s pid node = refl
fork_opens_none (Some aside) false s pid node = refl
fork_opens_none (Some aside) true s pid node = refl

child_opens_none : (before : Option ℕ) (writes : Bool) (s : KernelState) (pid node : ℕ) → opens_any s pid (in_child before writes) node ≡ false
child_opens_none None false s pid node = refl
child_opens_none None true s pid node = refl
child_opens_none (Some aside) false s pid node = refl
child_opens_none (Some aside) true s pid node = refl

pub behind_opens_none : (child aside : Option ℕ) (s : KernelState) (pid node : ℕ) → opens_any s pid (behind_fork child aside) node ≡ false
behind_opens_none (Some child) aside s pid node = refl
behind_opens_none None None s pid node = refl
behind_opens_none None (Some aside) s pid node = refl

pub all_open_none : (before : Option ℕ) (writes : Bool) (aside : Option ℕ) (s : KernelState) (pid node : ℕ) → opens_any s pid (with_fork before writes ++ behind_fork None aside) node ≡ false
all_open_none None false None s pid node = refl
all_open_none None true None s pid node = refl
all_open_none (Some before) false None s pid node = refl
all_open_none (Some before) true None s pid node = refl
all_open_none None false (Some aside) s pid node = refl
all_open_none None true (Some aside) s pid node = refl
all_open_none (Some before) false (Some aside) s pid node = refl
all_open_none (Some before) true (Some aside) s pid node = refl

-- ---- nor does one send a signal
fork_sends_none : (before : Option ℕ) (writes : Bool) (s : KernelState) (pid : ℕ) → sends_any s pid (with_fork before writes) ≡ false
fork_sends_none None false s pid = refl
fork_sends_none None true s pid = refl
fork_sends_none (Some aside) false s pid = refl
fork_sends_none (Some aside) true s pid = refl

child_sends_none : (before : Option ℕ) (writes : Bool) (s : KernelState) (pid : ℕ) → sends_any s pid (in_child before writes) ≡ false
child_sends_none None false s pid = refl
child_sends_none None true s pid = refl
child_sends_none (Some aside) false s pid = refl
child_sends_none (Some aside) true s pid = refl

pub behind_sends_none : (child aside : Option ℕ) (s : KernelState) (pid : ℕ) → sends_any s pid (behind_fork child aside) ≡ false
behind_sends_none (Some child) aside s pid = refl
behind_sends_none None None s pid = refl
behind_sends_none None (Some aside) s pid = refl

all_send_none : (before : Option ℕ) (writes : Bool) (aside : Option ℕ) (s : KernelState) (pid : ℕ) → sends_any s pid (with_fork before writes ++ behind_fork None aside) ≡ false
all_send_none None false None s pid = refl
all_send_none None true None s pid = refl
all_send_none (Some before) false None s pid = refl
all_send_none (Some before) true None s pid = refl
all_send_none None false (Some aside) s pid = refl
all_send_none None true (Some aside) s pid = refl
all_send_none (Some before) false (Some aside) s pid = refl
all_send_none (Some before) true (Some aside) s pid = refl

-- ---- up to the fork another process reaches no more
keeps_laying : (writes : Bool) (s : KernelState) (pid p : ℕ) → pid ≢ p → Keeps p s.machine (after_requests s pid (laying writes)).machine
keeps_laying false s pid p n = keeps_same p s.machine
keeps_laying true s pid p n =
    let piped = after_request s pid (MakePipe 10 11) in
    keeps_then p s.machine piped.machine (after_request piped pid (SetAside 10)).machine (keeps_pipe s pid p 10 11 n) (keeps_aside piped pid p 10)

keeps_taking : (before : Option ℕ) (s : KernelState) (pid p : ℕ) → Keeps p s.machine (after_requests s pid (taking_up before)).machine
keeps_taking None s pid p = keeps_same p s.machine
keeps_taking (Some aside) s pid p = keeps_back s pid p aside 10

keeps_before : (before : Option ℕ) (writes : Bool) (s : KernelState) (pid p : ℕ) → pid ≢ p → Keeps p s.machine (after_requests s pid (before_fork before writes)).machine
keeps_before before writes s pid p n =
    let l = after_requests s pid (laying writes) in
    subst (λ (t : KernelState). Keeps p s.machine t.machine) (sym (after_requests-append s pid (laying writes) (taking_up before)))
    (keeps_then p s.machine l.machine (after_requests l pid (taking_up before)).machine (keeps_laying writes s pid p n) (keeps_taking before l pid p))

-- ---- the fork
pub record IsMade (m : MachineState) (pid child : ℕ) (new : MachineState) : Type 0 where
  pub number : child ≡ next_pid m.processes
  pub maker : pid < next_pid m.processes
  pub after : new ≡ machine.after_fork m pid

lives_within : (ps : List Process) (i : ℕ) → option_map_or is_living (slice_get ps i) false ≡ true → i < length ps
lives_within [] i h = absurd (cc)
lives_within (p ∷ ps) zero h = omega arith
lives_within (p ∷ ps) (suc i) h = omega (arith, lives_within ps i h)

is_there : (ps : List Process) (pid : ℕ) → lives ps pid ≡ true → pid < next_pid ps
is_there ps pid h = of_test (nat_le 100 pid) refl h
  where
    of_test : (b : Bool) → nat_le 100 pid ≡ b → option_map_or is_living (cond b (slice_get ps (pid - 100)) None) false ≡ true → pid < next_pid ps
    of_test true is h = let place = lives_within ps (pid - 100) h in omega (arith, place)
    of_test false is h = absurd (cc)

pub made : (s : KernelState) (pid child : ℕ) → result_ok (fork_call s pid).answer ≡ Some child → IsMade s.machine pid child (fork_call s pid).after.machine
made s pid child h = of_tests (lives s.machine.processes pid) (may_fork s.machine.processes) refl h
  where
    of_tests : (a b : Bool) → lives s.machine.processes pid ≡ a
        → result_ok (cond a (cond b (success (next_pid s.machine.processes) (with_new_process s pid)) (refusal s TooManyProcesses)) (refusal s NoProcess)).answer ≡ Some child
        → IsMade s.machine pid child (cond a (cond b (success (next_pid s.machine.processes) (with_new_process s pid)) (refusal s TooManyProcesses)) (refusal s NoProcess)).after.machine
    of_tests true true is h = let same : next_pid s.machine.processes ≡ child = cc in record { number = sym same; maker = is_there s.machine.processes pid is; after = refl }
    of_tests true false is h = absurd (cc)
    of_tests false b is h = absurd (cc)

-- ---- the new process
with_descriptions : (m : MachineState) (pid to k : ℕ) (b : Bool) → (cond b m (with_number m pid to k)).descriptions ≡ m.descriptions
with_descriptions m pid to k true = refl
with_descriptions m pid to k false = refl

dup_descriptions : (m : MachineState) (pid to : ℕ) (o : Option ℕ) → (dup_found m pid to o).after.descriptions ≡ m.descriptions
dup_descriptions m pid to None = refl
dup_descriptions m pid to (Some k) = of_test (is_allowed to)
  where
    of_test : (b : Bool) → (cond b (success {A = Unit {0}} tt (cond (is_description k (description_number m.descriptors pid (Number to))) m (with_number m pid to k))) (refusal m TooManyDescriptors)).after.descriptions ≡ m.descriptions
    of_test true = with_descriptions m pid to k (is_description k (description_number m.descriptors pid (Number to)))
    of_test false = refl

close_descriptions : (m : MachineState) (pid : ℕ) (name : DescriptorRef) (o : Option ℕ) → (close_found m pid name o).after.descriptions ≡ m.descriptions
close_descriptions m pid name None = refl
close_descriptions m pid name (Some k) = refl

moving_descriptions : (b : Bool) (from to : ℕ) (s : KernelState) (pid : ℕ) → (after_requests s pid (moving b from to)).machine.descriptions ≡ s.machine.descriptions
moving_descriptions false from to s pid = refl
moving_descriptions true from to s pid =
    let t = (after_request s pid (Duplicate (Number from) to)).machine in
    close_descriptions t pid (Number from) (description_number t.descriptors pid (Number from)) ∙ dup_descriptions s.machine pid to (description_number s.machine.descriptors pid (Number from))

child_descriptions : (before : Option ℕ) (writes : Bool) (s : KernelState) (pid : ℕ) → (after_requests s pid (in_child before writes)).machine.descriptions ≡ s.machine.descriptions
child_descriptions None writes s pid = moving_descriptions writes 11 1 s pid
child_descriptions (Some aside) writes s pid =
    let t = after_requests s pid (moving true 10 0) in
    ap (λ (u : KernelState). u.machine.descriptions) (after_requests-append s pid (moving true 10 0) (moving writes 11 1))
    ∙ moving_descriptions writes 11 1 t pid
    ∙ moving_descriptions true 10 0 s pid

-- ---- all of it
-- a process makes another one between these states: before all of it, before the fork, behind it, behind what the new process does, and behind all of it
pub record Made (pid child : ℕ) (a b c d e : MachineState) : Type 0 where
  pub ready : ReachesNoMore pid (λ node. false) a b
  pub none : reaches b.descriptors child (λ k. true) ≡ false
  pub made : IsMade b pid child c
  pub grows_fork : OnlyGrows b c
  pub changes : ChangesOnlyReached pid false (λ node. false) a c
  pub less : ReachesNoMore pid (λ node. false) a c
  pub number : child ≡ next_pid a.processes
  pub grows : OnlyGrows a c
  pub inside : ChangesOnlyReached child false (λ node. false) c d
  pub descriptions : d.descriptions ≡ c.descriptions
  pub less_inside : ReachesNoMore child (λ node. false) c d
  pub grows_inside : OnlyGrows c d
  pub last : ChangesOnlyReached pid false (λ node. false) d e
  pub last_less : ReachesNoMore pid (λ node. false) d e

made_less : (m : MachineState) (pid child : ℕ) (new : MachineState) (test : ℕ → Bool) → IsMade m pid child new → reaches m.descriptors child (λ k. true) ≡ false → reaches m.descriptors pid test ≡ false → reaches new.descriptors child test ≡ false
made_less m pid child new test is none h =
    ap (λ (t : MachineState). reaches t.descriptors child test) is.after
    ∙ ap (λ (n : ℕ). reaches (m.descriptors ++ copies m.descriptors pid n) child test) (sym is.number)
    ∙ child_reaches m.descriptors pid child test none h

maker_apart : (m : MachineState) (pid child : ℕ) (new : MachineState) → IsMade m pid child new → pid ≢ child
maker_apart m pid child new is = let at = is.number in let old = is.maker in omega (arith, at, old)

-- what the new process doesn't reach, behind the fork
child_none : (pid child : ℕ) (a b c d e : MachineState) → Made pid child a b c d e → (test : ℕ → Bool) → reaches b.descriptors pid test ≡ false → reaches c.descriptors child test ≡ false
child_none pid child a b c d e w test h = made_less b pid child c test w.made w.none h

-- what its maker doesn't, behind what it does
pub maker_none : (pid child : ℕ) (a b c d e : MachineState) → Made pid child a b c d e → (test : ℕ → Bool) → reaches c.descriptors pid test ≡ false → reaches d.descriptors pid test ≡ false
maker_none pid child a b c d e w test h =
    let old = w.made.maker in
    let there : pid < next_pid c.processes = omega (arith, old, w.grows_fork.processes) in
    same_own c.descriptors d.descriptors pid test (w.inside.descriptors pid (maker_apart b pid child c w.made) there (λ sent. absurd (cc))) ∙ h

same_descriptions : (m : MachineState) (pid child : ℕ) (new : MachineState) → IsMade m pid child new → new.descriptions ≡ m.descriptions
same_descriptions m pid child new is = ap (λ (t : MachineState). t.descriptions) is.after

-- tests on descriptions
pub child_none_at : (f : List Description → ℕ → Bool) (pid child : ℕ) (a b c d e : MachineState) → Made pid child a b c d e → reaches b.descriptors pid (f b.descriptions) ≡ false → reaches c.descriptors child (f c.descriptions) ≡ false
child_none_at f pid child a b c d e w h =
    child_none pid child a b c d e w (f c.descriptions) (ap (λ (es : List Description). reaches b.descriptors pid (f es)) (same_descriptions b pid child c w.made) ∙ h)

pub maker_none_at : (f : List Description → ℕ → Bool) (pid child : ℕ) (a b c d e : MachineState) → Made pid child a b c d e → reaches c.descriptors pid (f c.descriptions) ≡ false → reaches d.descriptors pid (f d.descriptions) ≡ false
maker_none_at f pid child a b c d e w h =
    maker_none pid child a b c d e w (f d.descriptions) (ap (λ (es : List Description). reaches c.descriptors pid (f es)) w.descriptions ∙ h)

ended_still : (ps ps' : List Process) (q : ℕ) → process_at ps' q ≡ process_at ps q → has_ended ps q ≡ true → has_ended ps' q ≡ true
ended_still ps ps' q same h = ap (λ (o : Option Process). is_ended o) same ∙ h

changed : (pid child : ℕ) (a b c d e : MachineState) → Made pid child a b c d e → ChangesOnlyReached pid false (λ node. false) a e
changed pid child a b c d e w = record {
  pipes = λ q within h ended.
      let at_c : q < length c.pipes = omega (arith, within, w.grows.pipes) in
      let at_d : q < length d.pipes = omega (arith, at_c, w.grows_inside.pipes) in
      w.last.pipes q at_d (maker_none_at (λ es. is_end es q) pid child a b c d e w (w.less.pipes q within h)) (λ sent. absurd (cc))
      ∙ w.inside.pipes q at_c (child_none_at (λ es. is_end es q) pid child a b c d e w (w.ready.pipes q within h)) (λ sent. absurd (cc))
      ∙ w.changes.pipes q within h (λ sent. absurd (cc));
  files = λ node within h unopened.
      let at_c : node < length c.files.nodes = omega (arith, within, w.grows.files) in
      let at_d : node < length d.files.nodes = omega (arith, at_c, w.grows_inside.files) in
      w.last.files node at_d (maker_none_at (λ es. is_file es node) pid child a b c d e w (w.less.files node h refl)) refl
      ∙ w.inside.files node at_c (child_none_at (λ es. is_file es node) pid child a b c d e w (w.ready.files node h refl)) refl
      ∙ w.changes.files node within h refl;
  descriptions = λ k within h.
      let at_c : k < length c.descriptions = omega (arith, within, w.grows.descriptions) in
      let at_d : k < length d.descriptions = omega (arith, at_c, w.grows_inside.descriptions) in
      w.last.descriptions k at_d (maker_none pid child a b c d e w (λ j. j == k) (w.less.descriptions k within h))
      ∙ w.inside.descriptions k at_c (child_none pid child a b c d e w (λ j. j == k) (w.ready.descriptions k within h))
      ∙ w.changes.descriptions k within h;
  descriptors = λ q n born alive.
      let at = w.number in
      let at_c : q < next_pid c.processes = omega (arith, born, w.grows.processes) in
      let at_d : q < next_pid d.processes = omega (arith, at_c, w.grows_inside.processes) in
      w.last.descriptors q n at_d (λ sent. absurd (cc)) ∙ w.inside.descriptors q (omega (arith, at, born)) at_c (λ sent. absurd (cc)) ∙ w.changes.descriptors q n born (λ sent. absurd (cc));
  processes = λ q n born quiet.
      let at = w.number in
      let at_c : q < next_pid c.processes = omega (arith, born, w.grows.processes) in
      let at_d : q < next_pid d.processes = omega (arith, at_c, w.grows_inside.processes) in
      w.last.processes q n at_d refl ∙ w.inside.processes q (omega (arith, at, born)) at_c refl ∙ w.changes.processes q n born refl;
  makers = λ q born.
      let at_c : q < next_pid c.processes = omega (arith, born, w.grows.processes) in
      let at_d : q < next_pid d.processes = omega (arith, at_c, w.grows_inside.processes) in
      w.last.makers q at_d ∙ w.inside.makers q at_c ∙ w.changes.makers q born;
  ended = λ q h.
      let at_c = ended_still a.processes c.processes q (w.changes.ended q h) h in
      let at_d = ended_still c.processes d.processes q (w.inside.ended q at_c) at_c in
      w.last.ended q at_d ∙ w.inside.ended q at_c ∙ w.changes.ended q h;
}

-- ---- of the requests
abbrev pub MadeBy : KernelState → ℕ → Option ℕ → Bool → ℕ → List Request → Type 0
MadeBy s pid before writes child last =
    let c = after_requests s pid (with_fork before writes) in
    let d = after_requests c child (in_child before writes) in
    Made pid child s.machine (after_requests s pid (before_fork before writes)).machine c.machine d.machine (after_requests d pid last).machine

pub made_by : (s : KernelState) (pid : ℕ) (before : Option ℕ) (writes : Bool) (child : ℕ) (last : List Request) → new_process s pid before writes ≡ Some child
    → reaches s.machine.descriptors (next_pid s.machine.processes) (λ k. true) ≡ false
    → ((t : KernelState) (node : ℕ) → opens_any t pid last node ≡ false)
    → ((t : KernelState) → sends_any t pid last ≡ false)
    → MadeBy s pid before writes child last
made_by s pid before writes child last is none last_none last_quiet =
    let ready = after_requests s pid (before_fork before writes) in
    let c = after_requests s pid (with_fork before writes) in
    let d = after_requests c child (in_child before writes) in
    let step : after_request ready pid Fork ≡ c = sym (after_requests-append s pid (before_fork before writes) (Fork ∷ [])) in
    let new : IsMade ready.machine pid child c.machine = subst (λ (t : KernelState). IsMade ready.machine pid child t.machine) step (made ready pid child is) in
    let apart = maker_apart ready.machine pid child c.machine new in
    let keeps = keeps_before before writes s pid child apart in
    let number : child ≡ next_pid s.machine.processes = new.number ∙ ap next_pid keeps.processes in
    record {
      ready = reaches_as_before s pid (before_fork before writes) (before_opens_none before writes s pid);
      none = keeps.fails (λ k. true) (ap (λ (n : ℕ). reaches s.machine.descriptors n (λ k. true)) number ∙ none);
      made = new;
      grows_fork = subst (λ (t : KernelState). OnlyGrows ready.machine t.machine) step (requests_grow ready pid Fork);
      changes = changes_reached s pid (with_fork before writes) (fork_opens_none before writes s pid) (fork_sends_none before writes s pid);
      less = reaches_as_before s pid (with_fork before writes) (fork_opens_none before writes s pid);
      number = number;
      grows = lists_grow s pid (with_fork before writes);
      inside = changes_reached c child (in_child before writes) (child_opens_none before writes c child) (child_sends_none before writes c child);
      less_inside = reaches_as_before c child (in_child before writes) (child_opens_none before writes c child);
      descriptions = child_descriptions before writes c child;
      grows_inside = lists_grow c child (in_child before writes);
      last = changes_reached d pid last (last_none d) (last_quiet d);
      last_less = reaches_as_before d pid last (last_none d);
    }

with_child : (s : KernelState) (pid : ℕ) (before : Option ℕ) (writes : Bool) (child : ℕ) (last : List Request) → MadeBy s pid before writes child last
    → ChangesOnlyReached pid false (λ node. false) s.machine (after_both s pid (with_fork before writes) (Some child) (in_child before writes) last).machine
with_child s pid before writes child last w =
    let c = after_requests s pid (with_fork before writes) in
    let d = after_requests c child (in_child before writes) in
    changed pid child s.machine (after_requests s pid (before_fork before writes)).machine c.machine d.machine (after_requests d pid last).machine w

without_child : (s : KernelState) (pid : ℕ) (before : Option ℕ) (writes : Bool) (aside : Option ℕ)
    → ChangesOnlyReached pid false (λ node. false) s.machine (after_both s pid (with_fork before writes) None (in_child before writes) (behind_fork None aside)).machine
without_child s pid before writes aside =
    subst (λ (t : KernelState). ChangesOnlyReached pid false (λ node. false) s.machine t.machine) (after_requests-append s pid (with_fork before writes) (behind_fork None aside))
    (changes_reached s pid (with_fork before writes ++ behind_fork None aside) (all_open_none before writes aside s pid) (all_send_none before writes aside s pid))

by_child : (s : KernelState) (pid : ℕ) (before : Option ℕ) (writes : Bool) (child aside : Option ℕ) → new_process s pid before writes ≡ child
    → reaches s.machine.descriptors (next_pid s.machine.processes) (λ k. true) ≡ false
    → ChangesOnlyReached pid false (λ node. false) s.machine (after_both s pid (with_fork before writes) child (in_child before writes) (behind_fork child aside)).machine
by_child s pid before writes None aside is none = without_child s pid before writes aside
by_child s pid before writes (Some child) aside is none =
    let last = behind_fork (Some child) aside in
    with_child s pid before writes child last (made_by s pid before writes child last is none (λ t node. behind_opens_none (Some child) aside t pid node) (λ t. behind_sends_none (Some child) aside t pid))

pub after_is : (s : KernelState) (pid : ℕ) (before : Option ℕ) (writes : Bool) → (fork_of s pid before writes).after ≡ after_both s pid (with_fork before writes) (new_process s pid before writes) (in_child before writes) (behind_fork (new_process s pid before writes) (end_aside s pid writes))
after_is s pid before writes = ap (λ (f : Forked). f.after) (forked_is s pid before writes)

pub forking_changes : (s : KernelState) (pid : ℕ) (before : Option ℕ) (writes : Bool) → UnmadeReachNothing s.machine → ChangesOnlyReached pid false (λ node. false) s.machine (fork_of s pid before writes).after.machine
forking_changes s pid before writes none =
    subst (λ (t : KernelState). ChangesOnlyReached pid false (λ node. false) s.machine t.machine) (sym (after_is s pid before writes)) (by_child s pid before writes (new_process s pid before writes) (end_aside s pid writes) refl (none (next_pid s.machine.processes) (omega arith)))

-- ---- numbers only grow
pub child_grows : (t : KernelState) (child : Option ℕ) (inside : List Request) → OnlyGrows t.machine (after_child t child inside).machine
child_grows t None inside = lists_grow t 0 []
child_grows t (Some child) inside = lists_grow t child inside

both_grow : (s : KernelState) (pid : ℕ) (first : List Request) (child : Option ℕ) (inside last : List Request) → OnlyGrows s.machine (after_both s pid first child inside last).machine
both_grow s pid first child inside last =
    let c = after_requests s pid first in
    let d = after_child c child inside in
    grows_then s.machine c.machine (after_requests d pid last).machine (lists_grow s pid first)
    (grows_then c.machine d.machine (after_requests d pid last).machine (child_grows c child inside) (lists_grow d pid last))

pub forking_grows : (s : KernelState) (pid : ℕ) (before : Option ℕ) (writes : Bool) → OnlyGrows s.machine (fork_of s pid before writes).after.machine
forking_grows s pid before writes = subst (λ (t : KernelState). OnlyGrows s.machine t.machine) (sym (after_is s pid before writes)) (both_grow s pid (with_fork before writes) (new_process s pid before writes) (in_child before writes) (behind_fork (new_process s pid before writes) (end_aside s pid writes)))

-- ---- what another process alone has
child_leaves_owned : (t : KernelState) (pid : ℕ) (child : Option ℕ) (inside : List Request) (test : ℕ → Bool) → ((n : ℕ) → child ≡ Some n → n ≢ pid) → ((k : ℕ) → test k ≡ true → k < length t.machine.descriptions) → IsOwned pid test t.machine.descriptors → IsOwned pid test (after_child t child inside).machine.descriptors
child_leaves_owned t pid None inside test n within own = own
child_leaves_owned t pid (Some child) inside test n within own = lists_leave_owned t pid child inside test (n child refl) within own

both_leave_owned : (s : KernelState) (pid maker : ℕ) (first : List Request) (child : Option ℕ) (inside last : List Request) (test : ℕ → Bool) → maker ≢ pid → ((n : ℕ) → child ≡ Some n → n ≢ pid) → ((k : ℕ) → test k ≡ true → k < length s.machine.descriptions) → IsOwned pid test s.machine.descriptors → IsOwned pid test (after_both s maker first child inside last).machine.descriptors
both_leave_owned s pid maker first child inside last test n m within own =
    let c = after_requests s maker first in
    let d = after_child c child inside in
    let grow = lists_grow s maker first in
    let more = child_grows c child inside in
    let at_c : (k : ℕ) → test k ≡ true → k < length c.machine.descriptions = λ k t. let old = within k t in omega (arith, old, grow.descriptions) in
    let at_d : (k : ℕ) → test k ≡ true → k < length d.machine.descriptions = λ k t. let old = at_c k t in omega (arith, old, more.descriptions) in
    lists_leave_owned d pid maker last test n at_d (child_leaves_owned c pid child inside test m at_c (lists_leave_owned s pid maker first test n within own))

new_is_new : (s : KernelState) (pid maker : ℕ) (before : Option ℕ) (writes : Bool) → pid < next_pid s.machine.processes → (n : ℕ) → new_process s maker before writes ≡ Some n → n ≢ pid
new_is_new s pid maker before writes born n is =
    let ready = after_requests s maker (before_fork before writes) in
    let grow = lists_grow s maker (before_fork before writes) in
    let at = (made ready maker n is).number in
    omega (arith, born, grow.processes, at)

pub forking_leaves_owned : (s : KernelState) (pid maker : ℕ) (before : Option ℕ) (writes : Bool) (test : ℕ → Bool) → maker ≢ pid → pid < next_pid s.machine.processes → ((k : ℕ) → test k ≡ true → k < length s.machine.descriptions) → IsOwned pid test s.machine.descriptors → IsOwned pid test (fork_of s maker before writes).after.machine.descriptors
forking_leaves_owned s pid maker before writes test n born within own =
    subst (λ (t : KernelState). IsOwned pid test t.machine.descriptors) (sym (after_is s maker before writes))
    (both_leave_owned s pid maker (with_fork before writes) (new_process s maker before writes) (in_child before writes) (behind_fork (new_process s maker before writes) (end_aside s maker writes)) test n (new_is_new s pid maker before writes born) within own)
