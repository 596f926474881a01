-- What signals come to in a kernel: processes stop, go on and end, and those that end close what they have open; it is noted when they
-- stopped or went on.
use Rattle.std.specs.Prelude.{ℕ}
use Rattle.sh_kernel_machine.specs.Signals.{with_processes}
use Rattle.sh_kernel_processes.specs.Groups.{ProcessTable}
use Rattle.sh_kernel_processes.specs.Sending.{after_end, after_send, pids_of}
use Rattle.sh_kernel_processes.specs.declared.target.SignalTarget.{SignalTarget}
use Rattle.sh_signal.specs.declared.signal.Signal.{Signal}
use Rattle.sh_kernel.specs.Changes.{changed}
use Rattle.sh_kernel.specs.State.{KernelState}

-- all processes, and those that live as members of groups
abbrev pub table_of : KernelState → ProcessTable
table_of s = record { processes = s.machine.processes; members = s.members }

abbrev pub with_table : KernelState → ProcessTable → KernelState
with_table s t =
    record s {
      machine = with_processes s.machine t.processes (pids_of s.members);
      members = t.members;
      changes = changed s.changes s.machine.processes t.processes (pids_of s.members);
    }

-- a signal is sent to each process that it reaches (XSH kill)
abbrev pub after_signal : KernelState → SignalTarget → Signal → KernelState
after_signal s to signal = with_table s (after_send (table_of s) to signal)

-- a process ends by itself (XSH _exit)
abbrev pub after_exit : KernelState → (pid : ℕ) → (status : ℕ) → KernelState
after_exit s pid status = with_table s (after_end (table_of s) pid status)
