-- Laws of one request, and of a list of requests of one process, whatever the state, the process and the
-- requests.
use Rattle.std.specs.Prelude.{◌≡◌, ◌≢◌, ℕ, ◌<◌, ◌≤◌, ◌==◌, ◌++◌, ◌||◌, List, [], ◌∷◌, length, filter, Bool, true, false, Option, Some, slice_get, Result, Ok, Err}
use Rattle.std.specs.FinMap.{get}
use Rattle.sh_tty.specs.Happenings.{bytes_of}
use Rattle.std.specs.Option.{option_map}
use Rattle.sh_files.specs.Nodes.{FileMap, nameless, opened}
use Rattle.sh_files.specs.declared.fault.FileFault.{FileFault}
use Rattle.sh_files_image.specs.declared.node.Node.TheVariants.{Terminal}
use Rattle.sh_kernel_descriptors.specs.Machine.{MachineState}
use Rattle.sh_kernel_processes.specs.Processes.{has_ended, next_pid, process_at}
use Rattle.sh_kernel_descriptors.specs.declared.descriptor.Descriptor.{Descriptor}
use Rattle.sh_kernel_descriptors.specs.declared.description.Description.{Description}
use Rattle.sh_kernel_descriptors.specs.declared.description.Target.{Target}
use Rattle.sh_kernel.specs.Calls.{after_key, is_broken, raises_input, write_call}
use Rattle.sh_kernel.specs.State.{KernelState}
use Rattle.sh_kernel.specs.Requests.{Request, Read, Write, Close, Duplicate, MakePipe, Open, Here, SetAside, PutBack, Fork, StartProgram, End, Kill, SetAction, TakeSignal, SetGroup, SetForeground, after_request, after_requests}
use Rattle.sh_kernel.specs.Reaching.{reaches, is_end, is_file, is_screen}

-- ---- what a request opens
abbrev pub is_opened : ℕ → Result (ℕ × FileMap) FileFault → Bool
is_opened node (Ok o) = o.0 == node
is_opened node (Err fault) = false

-- the request opens the file of this node; a here-document is a new one
abbrev pub opens : MachineState → Request → ℕ → Bool
opens m (Read name count) node = false
opens m (Write number bytes) node = false
opens m (Close name) node = false
opens m (Duplicate name to) node = false
opens m (MakePipe from to) node = false
opens m (Open directory path how append number) node = is_opened node (opened m.files directory path how)
opens m (Here bytes number) node = is_opened node (nameless m.files bytes)
opens m (SetAside number) node = false
opens m (PutBack aside number) node = false
opens m Fork node = false
opens m StartProgram node = false
opens m (End status) node = false
opens m (Kill to signal) node = false
opens m (SetAction signal action) node = false
opens m TakeSignal node = false
opens m (SetGroup member group) node = false
opens m (SetForeground group) node = false

-- ---- what a request signals
-- the request sends a signal, if only that of its process's end to the parent; a read does where it raises TTIN, and a write where the pipe
-- has no reader
abbrev pub sends : KernelState → ℕ → Request → Bool
sends s pid (Read name count) = raises_input s pid name
sends s pid (Write number bytes) = is_broken (write_call s pid number bytes).answer
sends s pid (Close name) = false
sends s pid (Duplicate name to) = false
sends s pid (MakePipe from to) = false
sends s pid (Open directory path how append number) = false
sends s pid (Here bytes number) = false
sends s pid (SetAside number) = false
sends s pid (PutBack aside number) = false
sends s pid Fork = false
sends s pid StartProgram = false
sends s pid (End status) = true
sends s pid (Kill to signal) = true
sends s pid (SetAction signal action) = false
sends s pid TakeSignal = false
sends s pid (SetGroup member group) = false
sends s pid (SetForeground group) = false

-- no process that has ended by now reached such a description
abbrev pub NoneEndedReached : (old new : MachineState) → (ℕ → Bool) → Type 0
NoneEndedReached old new test = (q : ℕ) → has_ended new.processes q ≡ true → reaches old.descriptors q test ≡ false

-- ---- what a process can change
-- a process changed only pipes, files and descriptions that it reached, and files that it opened; and neither
-- the descriptors nor the status of another process that was there. Where it sent signals, it may have ended others,
-- whose descriptors are closed then, and changed the status of others that lived
pub record ChangesOnlyReached (pid : ℕ) (sends : Bool) (opens : ℕ → Bool) (old new : MachineState) : Type 0 where
  pub pipes : (pipe : ℕ) → pipe < length old.pipes → reaches old.descriptors pid (is_end old.descriptions pipe) ≡ false
      → (sends ≡ true → NoneEndedReached old new (is_end old.descriptions pipe)) → slice_get new.pipes pipe ≡ slice_get old.pipes pipe
  pub files : (node : ℕ) → node < length old.files.nodes → reaches old.descriptors pid (is_file old.descriptions node) ≡ false → opens node ≡ false → slice_get new.files.nodes node ≡ slice_get old.files.nodes node
  pub descriptions : (k : ℕ) → k < length old.descriptions → reaches old.descriptors pid (λ j. j == k) ≡ false → slice_get new.descriptions k ≡ slice_get old.descriptions k
  pub descriptors : (q : ℕ) → q ≢ pid → q < next_pid old.processes → (sends ≡ true → has_ended new.processes q ≡ false)
      → filter (λ d. d.pid == q) new.descriptors ≡ filter (λ d. d.pid == q) old.descriptors
  pub processes : (q : ℕ) → q ≢ pid → q < next_pid old.processes → sends ≡ false → process_at new.processes q ≡ process_at old.processes q
  pub makers : (q : ℕ) → q < next_pid old.processes → option_map (λ p. p.maker) (process_at new.processes q) ≡ option_map (λ p. p.maker) (process_at old.processes q)
  pub ended : (q : ℕ) → has_ended old.processes q ≡ true → process_at new.processes q ≡ process_at old.processes q

-- the process comes to reach nothing that it didn't reach, but for what is new and the files that it opened; and no
-- other process comes to reach a pipe that neither of them reached
pub record ReachesNoMore (pid : ℕ) (opens : ℕ → Bool) (old new : MachineState) : Type 0 where
  pub pipes : (pipe : ℕ) → pipe < length old.pipes → reaches old.descriptors pid (is_end old.descriptions pipe) ≡ false → reaches new.descriptors pid (is_end new.descriptions pipe) ≡ false
  pub files : (node : ℕ) → reaches old.descriptors pid (is_file old.descriptions node) ≡ false → opens node ≡ false → reaches new.descriptors pid (is_file new.descriptions node) ≡ false
  pub descriptions : (k : ℕ) → k < length old.descriptions → reaches old.descriptors pid (λ j. j == k) ≡ false → reaches new.descriptors pid (λ j. j == k) ≡ false
  pub others : (q pipe : ℕ) → pipe < length old.pipes → reaches old.descriptors pid (is_end old.descriptions pipe) ≡ false → reaches old.descriptors q (is_end old.descriptions pipe) ≡ false
      → reaches new.descriptors q (is_end new.descriptions pipe) ≡ false

abbrev pub RequestsChangeOnlyReached : Type 0
RequestsChangeOnlyReached =
    (s : KernelState) (pid : ℕ) (r : Request) → ChangesOnlyReached pid (sends s pid r) (opens s.machine r) s.machine (after_request s pid r).machine

abbrev pub RequestsReachNoMore : Type 0
RequestsReachNoMore =
    (s : KernelState) (pid : ℕ) (r : Request) → ReachesNoMore pid (opens s.machine r) s.machine (after_request s pid r).machine

-- a request changes the terminal only where the process reaches it
abbrev pub TerminalIsReached : Type 0
TerminalIsReached =
    (s : KernelState) (pid : ℕ) (r : Request) → reaches s.machine.descriptors pid (is_screen s.machine.descriptions) ≡ false → (after_request s pid r).terminal ≡ s.terminal

-- ---- what one process alone has
-- each descriptor that refers to a description that passes the test is of this process
abbrev pub IsOwned : ℕ → (ℕ → Bool) → List Descriptor → Type 0
IsOwned pid test [] = Unit {0}
IsOwned pid test (d ∷ ds) = (test d.description ≡ true → d.pid ≡ pid) × IsOwned pid test ds

-- what one process alone has stays its own after a request of another process, which doesn't reach it
abbrev pub OwnedStaysOwned : Type 0
OwnedStaysOwned =
    (s : KernelState) (pid q : ℕ) (r : Request) (test : ℕ → Bool) → q ≢ pid → ((k : ℕ) → test k ≡ true → k < length s.machine.descriptions) → IsOwned pid test s.machine.descriptors
    → IsOwned pid test (after_request s q r).machine.descriptors × (reaches s.machine.descriptors q test ≡ false)

-- ---- what stays and what grows
abbrev pub target_at : List Description → ℕ → Option Target
target_at es k = option_map (λ e. e.target) (slice_get es k)

pub record OnlyGrows (old new : MachineState) : Type 0 where
  pub targets : (k : ℕ) → k < length old.descriptions → target_at new.descriptions k ≡ target_at old.descriptions k
  pub descriptions : length old.descriptions ≤ length new.descriptions
  pub pipes : length old.pipes ≤ length new.pipes
  pub processes : length old.processes ≤ length new.processes
  pub files : length old.files.nodes ≤ length new.files.nodes
  pub paths : (path : List ℕ) (node : ℕ) → get old.files.paths path ≡ Some node → get new.files.paths path ≡ Some node

-- the target of a description never changes, a path goes on to name what it names, and numbers only grow
abbrev pub RequestsOnlyGrow : Type 0
RequestsOnlyGrow = (s : KernelState) (pid : ℕ) (r : Request) → OnlyGrows s.machine (after_request s pid r).machine

-- so it is after a key, which may end processes
abbrev pub KeysOnlyGrow : Type 0
KeysOnlyGrow = (s : KernelState) (byte : ℕ) → OnlyGrows s.machine (after_key s byte).machine

-- what the terminal shows only grows
abbrev pub TerminalOnlyGrows : Type 0
TerminalOnlyGrows = (s : KernelState) (pid : ℕ) (r : Request) → (more : List ℕ) × (bytes_of (after_request s pid r).terminal ≡ bytes_of s.terminal ++ more)

abbrev pub KeysOnlyGrowTheTerminal : Type 0
KeysOnlyGrowTheTerminal = (s : KernelState) (byte : ℕ) → (more : List ℕ) × (bytes_of (after_key s byte).terminal ≡ bytes_of s.terminal ++ more)

-- ---- the requests that a process makes one after another, as in one turn
abbrev pub opens_any : KernelState → ℕ → List Request → ℕ → Bool
opens_any s pid [] node = false
opens_any s pid (r ∷ rs) node = opens s.machine r node || opens_any (after_request s pid r) pid rs node

-- one of the requests sends a signal
abbrev pub sends_any : KernelState → ℕ → List Request → Bool
sends_any s pid [] = false
sends_any s pid (r ∷ rs) = sends s pid r || sends_any (after_request s pid r) pid rs

abbrev pub ListsChangeOnlyReached : Type 0
ListsChangeOnlyReached =
    (s : KernelState) (pid : ℕ) (rs : List Request) → ChangesOnlyReached pid (sends_any s pid rs) (opens_any s pid rs) s.machine (after_requests s pid rs).machine

abbrev pub ListsReachNoMore : Type 0
ListsReachNoMore =
    (s : KernelState) (pid : ℕ) (rs : List Request) → ReachesNoMore pid (opens_any s pid rs) s.machine (after_requests s pid rs).machine

-- a list of requests changes the terminal only where the process reaches it at first, or opens a node that is
-- the terminal
abbrev pub ListsLeaveTheTerminal : Type 0
ListsLeaveTheTerminal =
    (s : KernelState) (pid : ℕ) (rs : List Request) → reaches s.machine.descriptors pid (is_screen s.machine.descriptions) ≡ false → ((node : ℕ) → slice_get s.machine.files.nodes node ≡ Some Terminal → opens_any s pid rs node ≡ false)
    → (after_requests s pid rs).terminal ≡ s.terminal

abbrev pub ListsOnlyGrow : Type 0
ListsOnlyGrow = (s : KernelState) (pid : ℕ) (rs : List Request) → OnlyGrows s.machine (after_requests s pid rs).machine

abbrev pub ListsOnlyGrowTheTerminal : Type 0
ListsOnlyGrowTheTerminal = (s : KernelState) (pid : ℕ) (rs : List Request) → (more : List ℕ) × (bytes_of (after_requests s pid rs).terminal ≡ bytes_of s.terminal ++ more)

abbrev pub ListsLeaveOwned : Type 0
ListsLeaveOwned =
    (s : KernelState) (pid q : ℕ) (rs : List Request) (test : ℕ → Bool) → q ≢ pid → ((k : ℕ) → test k ≡ true → k < length s.machine.descriptions) → IsOwned pid test s.machine.descriptors
    → IsOwned pid test (after_requests s q rs).machine.descriptors
