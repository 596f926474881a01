-- What signals can change of processes: the status of those that live, and nothing else.
use Rattle.std.specs.Prelude.{◌≡◌, ℕ, List, length, true, false}
use Rattle.std.specs.Option.{option_map}
use Rattle.sh_kernel_processes.specs.Processes.{has_ended, process_at}
use Rattle.sh_kernel_processes.specs.declared.process.Process.{Process}
use Rattle.sh_kernel_processes.specs.Groups.{ProcessTable}
use Rattle.sh_kernel_processes.specs.Sending.{after_end, after_send}
use Rattle.sh_kernel_processes.specs.declared.target.SignalTarget.{SignalTarget}
use Rattle.sh_signal.specs.declared.signal.Signal.{Signal}

-- none comes or goes, each keeps its maker, and one that has ended stays as it is
pub record OnlyStatuses (old new : List Process) : Type 0 where
  pub count : length new ≡ length old
  pub makers : (pid : ℕ) → option_map (λ p. p.maker) (process_at new pid) ≡ option_map (λ p. p.maker) (process_at old pid)
  pub ended : (pid : ℕ) → has_ended old pid ≡ true → process_at new pid ≡ process_at old pid

abbrev pub SignalsChangeOnlyStatuses : Type 0
SignalsChangeOnlyStatuses =
    (t : ProcessTable) (to : SignalTarget) (signal : Signal) → OnlyStatuses t.processes (after_send t to signal).processes

abbrev pub EndsChangeOnlyStatuses : Type 0
EndsChangeOnlyStatuses =
    (t : ProcessTable) (pid status : ℕ) → has_ended t.processes pid ≡ false → OnlyStatuses t.processes (after_end t pid status).processes
