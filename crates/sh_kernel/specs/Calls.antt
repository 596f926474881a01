-- Each call of a kernel as one change of its state.
use Rattle.std.specs.Prelude.{ℕ, List, ◌∷◌, ◌&&◌, length, Bool, true, false, Option, Some, None, Result, Ok, Err, if◌then◌else◌}
use Rattle.std.specs.List.{list_any}
use Rattle.sh_files.specs.declared.opening.Opening.{Opening}
use Rattle.sh_kernel_descriptors.specs.Outcomes.{Done, success, refusal}
use Rattle.sh_kernel_descriptors.specs.Machine.{MachineState, after_close, after_fork}
use Rattle.sh_kernel_descriptors.specs.Naming as naming
use Rattle.sh_kernel_descriptors.specs.Opening as opening
use Rattle.sh_kernel_processes.specs.Processes.{lives, may_fork, next_pid}
use Rattle.sh_kernel_descriptors.specs.Reading as reading
use Rattle.sh_kernel_descriptors.specs.Writing as writing
use Rattle.sh_kernel_descriptors.specs.Terminals.{reads_terminal, writes_terminal}
use Rattle.sh_kernel_descriptors.specs.declared.descriptor.Closing.TheVariants.{Asides}
use Rattle.sh_kernel_descriptors.specs.declared.descriptor.DescriptorRef.{DescriptorRef}
use Rattle.sh_kernel_descriptors.specs.declared.descriptor.DescriptorRef.TheVariants.{Number}
use Rattle.sh_kernel_descriptors.specs.declared.fault.KernelFault.{KernelFault}
use Rattle.sh_kernel_descriptors.specs.declared.fault.KernelFault.TheVariants.{BadDescriptor, BrokenPipe, File, InputOutput, NoMemory, NoProcess, TooManyDescriptors, TooManyProcesses, WouldWait}
use Rattle.sh_kernel_processes.specs.Changes.{after_start, after_taking, with_action, with_change, with_fork, with_group}
use Rattle.sh_kernel_processes.specs.Sending.{reaches}
use Rattle.sh_kernel_processes.specs.declared.member.SignalAction.{SignalAction}
use Rattle.sh_kernel_processes.specs.declared.target.SignalTarget.{SignalTarget}
use Rattle.sh_kernel_processes.specs.declared.target.SignalTarget.TheVariants.{Group, Process}
use Rattle.sh_signal.specs.declared.signal.Signal.{Signal}
use Rattle.sh_signal.specs.declared.signal.Signal.TheVariants.{Pipe, TerminalInput}
use Rattle.sh_tty.specs.Happenings as tty
use Rattle.sh_tty.specs.Happenings.{Took, Wrote, entries_of}
use Rattle.sh_tty.specs.Keys.{key_of, read_of, signal_of}
use Rattle.sh_kernel.specs.Access.{access_of, is_raising}
use Rattle.sh_kernel.specs.Changes.{with_start}
use Rattle.sh_kernel.specs.Signals.{after_exit, after_signal, table_of}
use Rattle.sh_kernel.specs.State.{KernelState}
use Rattle.sh_kernel.specs.declared.access.Access.{Access}
use Rattle.sh_kernel.specs.declared.access.Access.TheVariants.{Granted, Raises, Refused}

-- a call that the terminal has no part in
abbrev pub on_machine : {A : Type 0} → KernelState → Done MachineState A → Done KernelState A
on_machine s d = record { answer = d.answer; after = record s { machine = d.after } }

-- ---- read
abbrev pub read_terminal : KernelState → ℕ → Option (List ℕ) → Done KernelState (List ℕ)
read_terminal s n None = refusal s WouldWait
read_terminal s n (Some bytes) = success bytes (record s { terminal = Took n ∷ s.terminal })

-- a read from a background group: TTIN goes to the group, and the read stays to be done
abbrev pub background_read : {A : Type 0} → KernelState → (group : ℕ) → Done KernelState A
background_read s group = record { answer = Err WouldWait; after = after_signal s (Group group) TerminalInput }

-- whether there is something to read or not, who reads from the background doesn't get it (XBD 11.1.4)
abbrev pub read_by : KernelState → ℕ → Access → Done KernelState (List ℕ)
read_by s n Granted = read_terminal s n (read_of n (entries_of s.terminal))
read_by s n (Raises group) = background_read s group
read_by s n Refused = refusal s InputOutput

abbrev pub access : KernelState → (pid : ℕ) → Access
access s pid = access_of (table_of s) s.foreground pid

abbrev pub read_call : KernelState → ℕ → DescriptorRef → ℕ → Done KernelState (List ℕ)
read_call s pid name n =
    if reads_terminal s.machine pid name
    then read_by s n (access s pid)
    else on_machine s (reading.read_call s.machine pid name n)

-- the read sends TTIN
abbrev pub raises_input : KernelState → ℕ → DescriptorRef → Bool
raises_input s pid name = reads_terminal s.machine pid name && is_raising (access s pid)

-- ---- write
abbrev pub write_terminal : KernelState → List ℕ → Done KernelState ℕ
write_terminal s bytes = success (length bytes) (record s { terminal = Wrote bytes ∷ s.terminal })

abbrev pub is_broken_pipe : KernelFault → Bool
is_broken_pipe BadDescriptor = false
is_broken_pipe NoProcess = false
is_broken_pipe TooManyProcesses = false
is_broken_pipe TooManyDescriptors = false
is_broken_pipe WouldWait = false
is_broken_pipe BrokenPipe = true
is_broken_pipe InputOutput = false
is_broken_pipe (File fault) = false
is_broken_pipe (NoMemory lack) = false

abbrev pub is_broken : {A : Type 0} → Result A KernelFault → Bool
is_broken (Ok a) = false
is_broken (Err fault) = is_broken_pipe fault

-- the writer to a pipe without a reader is sent SIGPIPE
abbrev pub broken_pipe : KernelState → ℕ → Done KernelState ℕ
broken_pipe s pid = record { answer = Err BrokenPipe; after = after_signal s (Process pid) Pipe }

abbrev pub write_machine : KernelState → ℕ → Done MachineState ℕ → Done KernelState ℕ
write_machine s pid d = if is_broken d.answer then broken_pipe s pid else on_machine s d

abbrev pub write_call : KernelState → ℕ → ℕ → List ℕ → Done KernelState ℕ
write_call s pid number bytes =
    if writes_terminal s.machine pid (Number number)
    then write_terminal s bytes
    else write_machine s pid (writing.write_call s.machine pid number bytes)

-- ---- descriptors
abbrev pub close_call : KernelState → ℕ → DescriptorRef → Done KernelState (Unit {0})
close_call s pid name = on_machine s (naming.close_call s.machine pid name)

abbrev pub dup_call : KernelState → ℕ → DescriptorRef → ℕ → Done KernelState (Unit {0})
dup_call s pid name to = on_machine s (naming.dup_call s.machine pid name to)

abbrev pub pipe_call : KernelState → ℕ → ℕ → ℕ → Done KernelState (Unit {0})
pipe_call s pid from to = on_machine s (naming.pipe_call s.machine pid from to)

abbrev pub open_call : KernelState → ℕ → List ℕ → List ℕ → Opening → Bool → ℕ → Done KernelState (Unit {0})
open_call s pid directory path how append number = on_machine s (opening.open_call s.machine pid directory path how append number)

abbrev pub here_call : KernelState → ℕ → List ℕ → ℕ → Done KernelState (Unit {0})
here_call s pid bytes number = on_machine s (opening.here_call s.machine pid bytes number)

abbrev pub set_aside_call : KernelState → ℕ → ℕ → Done KernelState ℕ
set_aside_call s pid number = on_machine s (naming.set_aside_call s.machine pid number)

abbrev pub put_back_call : KernelState → ℕ → ℕ → ℕ → Done KernelState (Unit {0})
put_back_call s pid aside number = on_machine s (naming.put_back_call s.machine pid aside number)

-- ---- processes
-- a new process with this one's descriptors, in its group
abbrev pub with_new_process : KernelState → ℕ → KernelState
with_new_process s pid =
    record s { machine = after_fork s.machine pid; members = with_fork s.members pid (next_pid s.machine.processes); changes = with_start s.changes }

abbrev pub fork_call : KernelState → ℕ → Done KernelState ℕ
fork_call s pid =
    if lives s.machine.processes pid
    then (if may_fork s.machine.processes then success (next_pid s.machine.processes) (with_new_process s pid) else refusal s TooManyProcesses)
    else refusal s NoProcess

abbrev pub end_call : KernelState → ℕ → ℕ → Done KernelState (Unit {0})
end_call s pid status = if lives s.machine.processes pid then success tt (after_exit s pid status) else refusal s NoProcess

-- the process starts a program: what it has set aside is closed (XSH exec, FD_CLOEXEC), and it catches nothing
abbrev pub with_program : KernelState → ℕ → KernelState
with_program s pid = record s { machine = after_close s.machine pid Asides; members = with_change s.members pid after_start }

abbrev pub start_call : KernelState → ℕ → Done KernelState (Unit {0})
start_call s pid = if lives s.machine.processes pid then success tt (with_program s pid) else refusal s NoProcess

-- ---- signals and groups
abbrev pub kill_call : KernelState → SignalTarget → Signal → Done KernelState (Unit {0})
kill_call s to signal = if list_any (reaches to) s.members then success tt (after_signal s to signal) else refusal s NoProcess

-- where no such process lives nothing changes
abbrev pub after_set_action : KernelState → ℕ → Signal → SignalAction → KernelState
after_set_action s pid signal action = record s { members = with_change s.members pid (λ m. with_action m signal action) }

abbrev pub after_take_signal : KernelState → ℕ → KernelState
after_take_signal s pid = record s { members = after_taking s.members pid }

abbrev pub after_set_group : KernelState → ℕ → ℕ → KernelState
after_set_group s pid group = record s { members = with_change s.members pid (λ m. with_group m group) }

-- a key comes (XBD 11.1.9); where it raises a signal, the foreground group gets it
abbrev pub after_raising : KernelState → Option Signal → KernelState
after_raising s None = s
after_raising s (Some signal) = after_signal s (Group s.foreground) signal

abbrev pub after_key : KernelState → (byte : ℕ) → KernelState
after_key s byte = after_raising (record s { terminal = tty.after_key byte s.terminal }) (signal_of (key_of byte))

abbrev pub after_set_foreground : KernelState → ℕ → KernelState
after_set_foreground s group = record s { foreground = group }
