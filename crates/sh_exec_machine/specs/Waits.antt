-- Waiting for processes (2.9.2, 2.8.2).
use Rattle.std.specs.Prelude.{ℕ, ◌+◌, ◌-◌, List, length, nat_lt, Option, Some, None, Result, Ok, Err, slice_get, unwrap_or, if◌then◌else◌}
use Rattle.sh_kernel.specs.State.{KernelState}
use Rattle.sh_kernel_descriptors.specs.Machine.{wait_answer}
use Rattle.sh_kernel_processes.specs.Processes.{status_at}
use Rattle.sh_kernel_descriptors.specs.Waiting.{is_wait}
use Rattle.sh_kernel_descriptors.specs.declared.fault.KernelFault.{KernelFault}
use Rattle.sh_kernel_processes.specs.declared.process.Status.{Status}
use Rattle.sh_kernel_processes.specs.declared.process.Status.TheVariants.{Running, Stopped, Exited, Signaled}

-- a process isn't known
abbrev pub unknown : ℕ
unknown = 127

-- a process that a signal ended has this and the signal's number
abbrev pub signaled : ℕ
signaled = 128

-- the exit status by which a shell tells whether a process runs, is stopped or has ended (2.8.2); a process
-- that a signal ended has 128 and its number; signals' numbers are below 128
abbrev pub signal_status : ℕ → ℕ
signal_status signal = if nat_lt signal signaled then signaled + signal else 255

abbrev pub number_of : Option Status → ℕ
number_of None = unknown
number_of (Some Running) = 0
number_of (Some (Stopped signal)) = signal_status signal
number_of (Some (Exited status)) = status
number_of (Some (Signaled signal)) = signal_status signal

-- the last of some processes; there is one
abbrev pub last_of : List ℕ → ℕ
last_of children = unwrap_or (slice_get children (length children - 1)) 0

abbrev pub status_by : Result (Unit {0}) KernelFault → ℕ → Option ℕ
status_by (Ok _) status = Some status
status_by (Err fault) status = if is_wait fault then None else Some status

-- the status of the last of these processes, once all of them have ended
unfoldable pub wait_status : KernelState → ℕ → List ℕ → Option ℕ
wait_status s pid children =
    status_by (wait_answer s.machine.processes pid children) (number_of (status_at s.machine.processes (last_of children)))
