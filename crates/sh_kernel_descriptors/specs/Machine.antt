-- What a kernel keeps, but for the terminal and the signals of its processes.
use Rattle.std.specs.Prelude.{ℕ, ◌++◌, List, [], ◌∷◌, Result, Ok, Err, if◌then◌else◌}
use Rattle.sh_files.specs.Nodes.{FileMap}
use Rattle.sh_kernel_descriptors.specs.Closings.{Pipes, descriptors_left, pipes_left}
use Rattle.sh_kernel_descriptors.specs.Copies.{copies}
use Rattle.sh_kernel_processes.specs.Processes.{next_pid, all_children, all_ended}
use Rattle.sh_kernel_descriptors.specs.declared.descriptor.Descriptor.{Descriptor}
use Rattle.sh_kernel_descriptors.specs.declared.descriptor.Closing.{Closing}
use Rattle.sh_kernel_descriptors.specs.declared.description.Description.{Description}
use Rattle.sh_kernel_processes.specs.declared.process.Process.{Process}
use Rattle.sh_kernel_processes.specs.declared.process.Status.TheVariants.{Running}
use Rattle.sh_kernel_descriptors.specs.declared.fault.KernelFault.{KernelFault}
use Rattle.sh_kernel_descriptors.specs.declared.fault.KernelFault.TheVariants.{NoProcess, WouldWait}

-- processes (from 100 on), descriptions and pipes are listed by number; numbers go up by creation, and none
-- ever leaves its place
pub record MachineState : Type 0 where
  pub processes : List Process
  pub descriptors : List Descriptor
  pub descriptions : List Description
  pub pipes : Pipes
  pub files : FileMap

-- descriptors of a process are closed
abbrev pub after_close : MachineState → ℕ → Closing → MachineState
after_close s pid closing = record s {
  descriptors = descriptors_left pid closing s.descriptors;
  pipes = pipes_left pid closing s.descriptors s.descriptions s.pipes;
}

-- a new process with this one's descriptors
abbrev pub after_fork : MachineState → ℕ → MachineState
after_fork s pid = record s {
  processes = s.processes ++ record { maker = pid; status = Running } ∷ [];
  descriptors = s.descriptors ++ copies s.descriptors pid (next_pid s.processes);
}

-- the process waits until all these children have ended
abbrev pub wait_answer : List Process → ℕ → List ℕ → Result (Unit {0}) KernelFault
wait_answer ps pid awaited =
    if all_children ps pid awaited
    then (if all_ended ps awaited then Ok tt else Err WouldWait)
    else Err NoProcess
