-- A shell makes a process (XCU 2.9.2, 2.13, 2.6.3) by requests of its own, and then some of the new process.
-- While a pipe is laid, its ends are at the numbers 10 and 11, which no script can name.
use Rattle.std.specs.Prelude.{◌≡◌, ℕ, ◌≤◌, Bool, true, false, List, [], ◌∷◌, ◌++◌, Option, Some, None, is_some}
use Rattle.std.specs.Result.{result_ok}
use Rattle.sh_kernel_descriptors.specs.Machine.{MachineState}
use Rattle.sh_kernel_processes.specs.Processes.{next_pid}
use Rattle.sh_kernel_descriptors.specs.declared.descriptor.DescriptorRef.TheVariants.{Number, Aside}
use Rattle.sh_kernel.specs.State.{KernelState}
use Rattle.sh_kernel.specs.Calls.{fork_call, set_aside_call}
use Rattle.sh_kernel.specs.Reaching.{reaches}
use Rattle.sh_kernel.specs.Requests.{Request, Close, Duplicate, Fork, MakePipe, PutBack, SetAside, after_request, after_requests}

-- ---- the shell, up to the fork
-- a new pipe, where the new process is to write to one: the end to read from is set aside for the next process
abbrev pub laying : (writes : Bool) → List Request
laying false = []
laying true = MakePipe 10 11 ∷ SetAside 10 ∷ []

-- the end of the pipe before, where the new process is to read from one
abbrev pub taking_up : (before : Option ℕ) → List Request
taking_up None = []
taking_up (Some aside) = PutBack aside 10 ∷ []

abbrev pub before_fork : (before : Option ℕ) → (writes : Bool) → List Request
before_fork before writes = laying writes ++ taking_up before

abbrev pub with_fork : (before : Option ℕ) → (writes : Bool) → List Request
with_fork before writes = before_fork before writes ++ Fork ∷ []

-- the end that is set aside, if there is one
abbrev pub end_aside : KernelState → ℕ → (writes : Bool) → Option ℕ
end_aside s pid false = None
end_aside s pid true = result_ok (set_aside_call (after_request s pid (MakePipe 10 11)) pid 10).answer

-- the new process, if there could be one
abbrev pub new_process : KernelState → ℕ → (before : Option ℕ) → (writes : Bool) → Option ℕ
new_process s pid before writes = result_ok (fork_call (after_requests s pid (before_fork before writes)) pid).answer

-- ---- the new process
-- a descriptor moves from one number to another
abbrev pub moving : Bool → (from to : ℕ) → List Request
moving false from to = []
moving true from to = Duplicate (Number from) to ∷ Close (Number from) ∷ []

-- the new process reads as 0 from the pipe before, and writes as 1 to the new one
abbrev pub in_child : (before : Option ℕ) → (writes : Bool) → List Request
in_child before writes = moving (is_some before) 10 0 ++ moving writes 11 1

-- ---- the shell again
-- it closes the ends and, where no process could be made, also what is set aside
abbrev pub dropping : (child aside : Option ℕ) → List Request
dropping (Some child) aside = []
dropping None None = []
dropping None (Some aside) = Close (Aside aside) ∷ []

abbrev pub behind_fork : (child aside : Option ℕ) → List Request
behind_fork child aside = Close (Number 10) ∷ Close (Number 11) ∷ dropping child aside

-- the end that is kept for the next process
abbrev pub end_for_next : (child aside : Option ℕ) → Option ℕ
end_for_next (Some child) aside = aside
end_for_next None aside = None

-- ---- all of it
-- the state after requests of the new process, if there is one
abbrev pub after_child : KernelState → (child : Option ℕ) → List Request → KernelState
after_child s None rs = s
after_child s (Some child) rs = after_requests s child rs

-- the state after requests of a process, then of one that it made, if there could be one, and then of the first again
abbrev pub after_both : KernelState → ℕ → (first : List Request) → (child : Option ℕ) → (inside last : List Request) → KernelState
after_both s pid first child inside last = after_requests (after_child (after_requests s pid first) child inside) pid last

-- ---- processes that are still to come
-- no descriptor is of one
abbrev pub UnmadeReachNothing : MachineState → Type 0
UnmadeReachNothing m = (p : ℕ) → next_pid m.processes ≤ p → reaches m.descriptors p (λ k. true) ≡ false
