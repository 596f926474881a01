-- What signals come to in a machine: processes that have ended close what they have open.
use Rattle.std.specs.Prelude.{ℕ, List, [], ◌∷◌, if◌then◌else◌}
use Rattle.sh_kernel_descriptors.specs.Machine.{MachineState, after_close}
use Rattle.sh_kernel_processes.specs.Processes.{has_ended}
use Rattle.sh_kernel_descriptors.specs.declared.descriptor.Closing.TheVariants.{All}
use Rattle.sh_kernel_processes.specs.declared.process.Process.{Process}

-- a process that has ended closes all its descriptors (XSH _exit)
abbrev pub after_ending : MachineState → (pid : ℕ) → MachineState
after_ending m pid = if has_ended m.processes pid then after_close m pid All else m

abbrev pub after_endings : MachineState → (pids : List ℕ) → MachineState
after_endings m [] = m
after_endings m (pid ∷ pids) = after_endings (after_ending m pid) pids

-- the statuses are these now; of these processes some may have ended
abbrev pub with_processes : MachineState → List Process → (pids : List ℕ) → MachineState
with_processes m processes pids = after_endings (record m { processes = processes }) pids
