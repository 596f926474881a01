-- Processes that are still to come reach nothing.
use Rattle.std.proofs.Common.{◌≡◌, ◌≢◌, ℕ, ◌+◌, ◌<◌, Bool, true, false, cond, List, [], ◌∷◌, length, map, filter, Option, Some, None, refl, sym, ap, ◌∙◌, arith, subst, length-append}
use Rattle.sh_files.specs.Nodes.{FileMap}
use Rattle.sh_kernel_descriptors.specs.Closings.{descriptors_left}
use Rattle.sh_kernel_descriptors.specs.Machine.{MachineState, after_fork}
use Rattle.sh_kernel_descriptors.specs.Naming.{with_number, with_pipe}
use Rattle.sh_kernel_descriptors.specs.Opening.{for_reading, with_node}
use Rattle.sh_kernel_descriptors.specs.Copies.{copies, is_copied, of_process}
use Rattle.sh_kernel_processes.specs.Processes.{next_pid}
use Rattle.sh_kernel_descriptors.specs.Starting.{to_terminal}
use Rattle.sh_kernel_descriptors.specs.declared.descriptor.Closing.TheVariants.{Named}
use Rattle.sh_kernel_descriptors.specs.declared.descriptor.Descriptor.{Descriptor}
use Rattle.sh_kernel_descriptors.specs.declared.descriptor.DescriptorRef.TheVariants.{Number, Aside}
use Rattle.sh_kernel_processes.specs.declared.process.Process.{Process}
use Rattle.sh_kernel_processes.specs.Laws.{OnlyStatuses}
use Rattle.sh_kernel_machine.specs.Signals.{with_processes}
use Rattle.sh_kernel.specs.State.{KernelState, starting}
use Rattle.sh_kernel.specs.Reaching.{reaches}
use Rattle.sh_kernel.specs.Requests.{Request, Fork, after_request, after_requests}
use Rattle.sh_kernel.proofs.Growing.{requests_grow}
use Rattle.sh_kernel.proofs.Endings.{endings}
use Rattle.sh_kernel.proofs.Reached.{lists_grow}
use Rattle.sh_kernel.proofs.Requesting.{by_cases}
use Rattle.sh_exec_machine.specs.Forking as forking
use Rattle.sh_laws.specs.Forking.{UnmadeReachNothing, after_both, after_child, before_fork, behind_fork, end_aside, in_child, new_process, with_fork}
use Rattle.sh_laws.proofs.RequestChanges.{after_is, child_grows, made}
use Rattle.sh_laws.proofs.RequestLists.{after_requests-append}
use Rattle.sh_laws.proofs.Others.{of_another, reaches_append, reaches_others_left, reaches_renamed}

-- ---- the start
pub unmade_at_start : (files : FileMap) → UnmadeReachNothing (starting files).machine
unmade_at_start files p past =
    reaches_append (to_terminal 0 ∷ []) (to_terminal 1 ∷ to_terminal 2 ∷ []) p (λ k. true) (of_another (to_terminal 0) p (λ k. true) (omega (arith, past)))
    (reaches_append (to_terminal 1 ∷ []) (to_terminal 2 ∷ []) p (λ k. true) (of_another (to_terminal 1) p (λ k. true) (omega (arith, past))) (of_another (to_terminal 2) p (λ k. true) (omega (arith, past))))

-- ---- one request
copies_others : (ds : List Descriptor) (pid child p : ℕ) (test : ℕ → Bool) → child ≢ p → reaches (copies ds pid child) p test ≡ false
copies_others [] pid child p test n = refl
copies_others (d ∷ ds) pid child p test n = of_test (is_copied pid d) (copies_others ds pid child p test n)
  where
    of_test : (b : Bool) → reaches (copies ds pid child) p test ≡ false → reaches (map (of_process child) (cond b (d ∷ filter (is_copied pid) ds) (filter (is_copied pid) ds))) p test ≡ false
    of_test false rest = rest
    of_test true rest = reaches_append (of_process child d ∷ []) (copies ds pid child) p test (of_another (of_process child d) p test n) rest

unmade_signals : (m : MachineState) (ps : List Process) (pids : List ℕ) → OnlyStatuses m.processes ps → UnmadeReachNothing m → UnmadeReachNothing (with_processes m ps pids)
unmade_signals m ps pids only h p past =
    let e = endings m ps pids in
    let same : length (with_processes m ps pids).processes ≡ length m.processes = ap (λ (xs : List Process). length xs) e.processes ∙ only.count in
    e.reaches_less p (λ j. true) (h p (omega (arith, past, same)))

unmade_number : (m : MachineState) (pid number k : ℕ) → pid < next_pid m.processes → UnmadeReachNothing m → UnmadeReachNothing (with_number m pid number k)
unmade_number m pid number k born h p past =
    reaches_append (descriptors_left pid (Named (Number number)) m.descriptors) _ p (λ j. true) (reaches_others_left pid (Named (Number number)) m.descriptors p (λ j. true) (h p past))
    (of_another (record { pid = pid; number = Some number; description = k }) p (λ j. true) (omega (arith, born, past)))

unmade_fork : (m : MachineState) (pid : ℕ) → UnmadeReachNothing m → UnmadeReachNothing (after_fork m pid)
unmade_fork m pid h p past =
    let longer : length (after_fork m pid).processes ≡ length m.processes + 1 = length-append m.processes _ in
    reaches_append m.descriptors (copies m.descriptors pid (next_pid m.processes)) p (λ j. true) (h p (omega (arith, past, longer))) (copies_others m.descriptors pid (next_pid m.processes) p (λ j. true) (omega (arith, past, longer)))

pub unmade_stay : (s : KernelState) (pid : ℕ) (r : Request) → pid < next_pid s.machine.processes → UnmadeReachNothing s.machine → UnmadeReachNothing (after_request s pid r).machine
unmade_stay s pid r born h =
    let m = s.machine in
    by_cases s pid r UnmadeReachNothing (record {
      same = h;
      goes_on = λ k offset held. h;
      pipe = λ k pipe slot held end. h;
      file = λ k node start end bytes files held file written. h;
      closes = λ closing p past. reaches_others_left pid closing m.descriptors p (λ j. true) (h p past);
      signals = λ ps pids only signalled. unmade_signals m ps pids only h;
      numbers = λ number k held. unmade_number m pid number k born h;
      renames = λ name number p past. reaches_renamed m.descriptors pid name number p (λ j. true) (h p past);
      back = λ k number p past. reaches_renamed (descriptors_left pid (Named (Number number)) m.descriptors) pid (Aside k) (Some number) p (λ j. true) (reaches_others_left pid (Named (Number number)) m.descriptors p (λ j. true) (h p past));
      forks = unmade_fork m pid h;
      makes_pipe = λ from to. unmade_number (with_number (with_pipe m) pid from (length m.descriptions)) pid to (length m.descriptions + 1) born (unmade_number (with_pipe m) pid from (length m.descriptions) born h);
      opens = λ directory path how append number o is at. unmade_number (with_node m how append o.0 o.1) pid number (length m.descriptions) born h;
      heres = λ bytes number o is at. unmade_number (with_node m for_reading false o.0 o.1) pid number (length m.descriptions) born h;
    })

-- ---- more
pub unmade_stay_all : (s : KernelState) (pid : ℕ) (rs : List Request) → pid < next_pid s.machine.processes → UnmadeReachNothing s.machine → UnmadeReachNothing (after_requests s pid rs).machine
unmade_stay_all s pid [] born h = h
unmade_stay_all s pid (r ∷ rs) born h =
    let grow = requests_grow s pid r in
    unmade_stay_all (after_request s pid r) pid rs (omega (arith, born, grow.processes)) (unmade_stay s pid r born h)

child_is_made : (s : KernelState) (pid : ℕ) (before : Option ℕ) (writes : Bool) (child : ℕ) → new_process s pid before writes ≡ Some child → child < next_pid (after_requests s pid (with_fork before writes)).machine.processes
child_is_made s pid before writes child is =
    let ready = after_requests s pid (before_fork before writes) in
    let new = made ready pid child is in
    let step : after_request ready pid Fork ≡ after_requests s pid (with_fork before writes) = sym (after_requests-append s pid (before_fork before writes) (Fork ∷ [])) in
    let at = new.number in
    let longer : length (after_requests s pid (with_fork before writes)).machine.processes ≡ length ready.machine.processes + 1 =
    sym (ap (λ (t : KernelState). length t.machine.processes) step)
    ∙ ap (λ (m : MachineState). length m.processes) new.after
    ∙ length-append ready.machine.processes _ in
    omega (arith, at, longer)

unmade_child : (t : KernelState) (child : Option ℕ) (inside : List Request) → ((n : ℕ) → child ≡ Some n → n < next_pid t.machine.processes) → UnmadeReachNothing t.machine → UnmadeReachNothing (after_child t child inside).machine
unmade_child t None inside there h = h
unmade_child t (Some child) inside there h = unmade_stay_all t child inside (there child refl) h

unmade_both : (s : KernelState) (pid : ℕ) (first : List Request) (child : Option ℕ) (inside last : List Request) → pid < next_pid s.machine.processes → ((n : ℕ) → child ≡ Some n → n < next_pid (after_requests s pid first).machine.processes) → UnmadeReachNothing s.machine → UnmadeReachNothing (after_both s pid first child inside last).machine
unmade_both s pid first child inside last born there h =
    let c = after_requests s pid first in
    let grow = lists_grow s pid first in
    let more = child_grows c child inside in
    unmade_stay_all (after_child c child inside) pid last (omega (arith, born, grow.processes, more.processes)) (unmade_child c child inside there (unmade_stay_all s pid first born h))

pub unmade_stay_forking : (s : KernelState) (pid : ℕ) (before : Option ℕ) (writes : Bool) → pid < next_pid s.machine.processes → UnmadeReachNothing s.machine → UnmadeReachNothing (forking.fork_of s pid before writes).after.machine
unmade_stay_forking s pid before writes born h =
    subst (λ (t : KernelState). UnmadeReachNothing t.machine) (sym (after_is s pid before writes))
    (unmade_both s pid (with_fork before writes) (new_process s pid before writes) (in_child before writes) (behind_fork (new_process s pid before writes) (end_aside s pid writes)) born (child_is_made s pid before writes) h)
