-- What a process may ask of the kernel. Beside these only a key of the terminal changes a kernel's state.
use Rattle.std.specs.Prelude.{ℕ, List, [], ◌∷◌, Bool}
use Rattle.sh_files.specs.declared.opening.Opening.{Opening}
use Rattle.sh_kernel_descriptors.specs.declared.descriptor.DescriptorRef.{DescriptorRef}
use Rattle.sh_kernel_processes.specs.declared.member.SignalAction.{SignalAction}
use Rattle.sh_kernel_processes.specs.declared.target.SignalTarget.{SignalTarget}
use Rattle.sh_signal.specs.declared.signal.Signal.{Signal}
use Rattle.sh_kernel.specs.State.{KernelState}
use Rattle.sh_kernel.specs.Calls.{after_set_action, after_set_foreground, after_set_group, after_take_signal, close_call, dup_call, end_call, fork_call, here_call, kill_call, open_call, pipe_call, put_back_call, read_call, set_aside_call, start_call, write_call}

pub data Request : Type 0 where
  Read : (name : DescriptorRef) → (count : ℕ) → Request
  Write : (number : ℕ) → (bytes : List ℕ) → Request
  Close : (name : DescriptorRef) → Request
  Duplicate : (name : DescriptorRef) → (to : ℕ) → Request
  MakePipe : (from to : ℕ) → Request
  Open : (directory path : List ℕ) → (how : Opening) → (append : Bool) → (number : ℕ) → Request
  Here : (bytes : List ℕ) → (number : ℕ) → Request
  SetAside : (number : ℕ) → Request
  PutBack : (aside number : ℕ) → Request
  Fork : Request
  StartProgram : Request
  End : (status : ℕ) → Request
  Kill : (to : SignalTarget) → (signal : Signal) → Request
  SetAction : (signal : Signal) → (action : SignalAction) → Request
  TakeSignal : Request
  SetGroup : (member group : ℕ) → Request
  SetForeground : (group : ℕ) → Request

-- the state after the request of a process
abbrev pub after_request : KernelState → ℕ → Request → KernelState
after_request s pid (Read name count) = (read_call s pid name count).after
after_request s pid (Write number bytes) = (write_call s pid number bytes).after
after_request s pid (Close name) = (close_call s pid name).after
after_request s pid (Duplicate name to) = (dup_call s pid name to).after
after_request s pid (MakePipe from to) = (pipe_call s pid from to).after
after_request s pid (Open directory path how append number) = (open_call s pid directory path how append number).after
after_request s pid (Here bytes number) = (here_call s pid bytes number).after
after_request s pid (SetAside number) = (set_aside_call s pid number).after
after_request s pid (PutBack aside number) = (put_back_call s pid aside number).after
after_request s pid Fork = (fork_call s pid).after
after_request s pid StartProgram = (start_call s pid).after
after_request s pid (End status) = (end_call s pid status).after
after_request s pid (Kill to signal) = (kill_call s to signal).after
after_request s pid (SetAction signal action) = after_set_action s pid signal action
after_request s pid TakeSignal = after_take_signal s pid
after_request s pid (SetGroup member group) = after_set_group s member group
after_request s pid (SetForeground group) = after_set_foreground s group

-- the state after requests of one process, one after another
abbrev pub after_requests : KernelState → ℕ → List Request → KernelState
after_requests s pid [] = s
after_requests s pid (r ∷ rs) = after_requests (after_request s pid r) pid rs
