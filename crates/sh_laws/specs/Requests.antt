-- What processes do to a kernel by requests.
use Rattle.std.specs.Prelude.{◌≡◌, ℕ, List, [], ◌∷◌, ◌++◌, Bool, false, ◌||◌, Option, Some, option_map, ◌⊎◌}
use Rattle.sh_exec.specs.Tasks.{pid_of}
use Rattle.sh_exec.specs.declared.task.Task.{Task}
use Rattle.sh_exec.specs.declared.task.Task.TheVariants.{Runs, Asks}
use Rattle.sh_exec_forms.specs.Running.{InterpreterState}
use Rattle.sh_laws.specs.Forking.{UnmadeReachNothing}
use Rattle.sh_laws.specs.Rooted.{OpensFrom}
use Rattle.sh_kernel.specs.Laws.{ChangesOnlyReached, OnlyGrows, ReachesNoMore, opens, sends}
use Rattle.sh_kernel.specs.Calls.{after_key}
use Rattle.sh_kernel.specs.Requests.{Request, after_request}
use Rattle.sh_kernel.specs.State.{KernelState}
use Rattle.sh_tty.specs.Happenings.{bytes_of}

-- the paths of files go from this directory
abbrev pub IsFrom : List ℕ → Request → Type 0
IsFrom directory = OpensFrom (λ other. other ≡ directory)

-- the process that a turn made, if it made one
abbrev pub number_of : {S : Type 0} → Option (Task S) → Option ℕ
number_of child = option_map pid_of child

abbrev pub made_number : Option InterpreterState → Option ℕ
made_number child = option_map (λ made. made.shell.pid) child

-- a program opens no files
abbrev pub directory_of : {S : Type 0} → Task S → List ℕ
directory_of (Runs interpreter) = interpreter.shell.vars.directory
directory_of (Asks pid ask program) = []

-- each request is of this process, or of the one that it makes, and paths go from the directory
abbrev pub AllBy : (pid : ℕ) → (made : Option ℕ) → List ℕ → List (ℕ × Request) → Type 0
AllBy pid made directory [] = Unit {0}
AllBy pid made directory (r ∷ rs) = ((r.0 ≡ pid) ⊎ (made ≡ Some r.0)) × (IsFrom directory r.1 × AllBy pid made directory rs)

-- the state after requests, each of the process beside it
abbrev pub after_all : KernelState → List (ℕ × Request) → KernelState
after_all s [] = s
after_all s (r ∷ rs) = after_all (after_request s r.0 r.1) rs

-- the second state comes from the first by requests of this process, and of the one that it makes, alone
abbrev pub ByRequests : (pid : ℕ) → (made : Option ℕ) → List ℕ → KernelState → KernelState → Type 0
ByRequests pid made directory s t = (rs : List (ℕ × Request)) × (AllBy pid made directory rs × (t ≡ after_all s rs))

-- one of the requests opens the file of this node
abbrev pub opens_by : KernelState → List (ℕ × Request) → ℕ → Bool
opens_by s [] node = false
opens_by s (r ∷ rs) node = opens s.machine r.1 node || opens_by (after_request s r.0 r.1) rs node

-- one of the requests sends a signal
abbrev pub sends_by : KernelState → List (ℕ × Request) → Bool
sends_by s [] = false
sends_by s (r ∷ rs) = sends s r.0 r.1 || sends_by (after_request s r.0 r.1) rs

-- the same, and of what was there nothing changed but what the process reached at first or what its requests opened. Nor does it reach more
-- than that then, but for what is new; numbers only grew; and no descriptor is of a process that is still to come
pub record ChangesByRequests (pid : ℕ) (made : Option ℕ) (directory : List ℕ) (s t : KernelState) : Type 0 where
  pub requests : List (ℕ × Request)
  pub of_process : AllBy pid made directory requests
  pub after : t ≡ after_all s requests
  pub changes : ChangesOnlyReached pid (sends_by s requests) (opens_by s requests) s.machine t.machine
  pub reaches : ReachesNoMore pid (opens_by s requests) s.machine t.machine
  pub grows : OnlyGrows s.machine t.machine
  pub unmade : UnmadeReachNothing t.machine

-- what changes a kernel: a request of a process, or a key of the terminal
pub data Change : Type 0 where
  Asked : (pid : ℕ) → (request : Request) → Change
  Pressed : (byte : ℕ) → Change

abbrev pub after_change : KernelState → Change → KernelState
after_change s (Asked pid request) = after_request s pid request
after_change s (Pressed byte) = after_key s byte

abbrev pub after_changes : KernelState → List Change → KernelState
after_changes s [] = s
after_changes s (c ∷ cs) = after_changes (after_change s c) cs

-- the second state comes from the first by requests of processes, from whatever directories, and by keys
abbrev pub ComesByChanges : KernelState → KernelState → Type 0
ComesByChanges s t = (cs : List Change) × (t ≡ after_changes s cs)

-- what the terminal shows goes on
abbrev pub Shows : KernelState → KernelState → Type 0
Shows s t = (more : List ℕ) × (bytes_of t.terminal ≡ bytes_of s.terminal ++ more)
