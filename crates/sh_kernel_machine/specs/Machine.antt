-- What is kept of a machine: its processes, its files, and what its descriptors name.
use Rattle.std.specs.Prelude.{◌≡◌, ◌≢◌, ℕ, List, length, Result, Ok, Err}
use Rattle.slab.specs.Slab.{Slab}
use Rattle.sh_base.specs.Memory.{no_memory}
use Rattle.sh_files.specs.Nodes.{FileMap}
use Rattle.sh_pipe.specs.Pipe.{PipeState}
use Rattle.sh_kernel_descriptors.specs.Kept.{Linked, PipesAgree, listed}
use Rattle.sh_kernel_descriptors.specs.Machine.{MachineState}
use Rattle.sh_kernel_descriptors.specs.Outcomes.{Done, GivesTo}
use Rattle.sh_kernel_descriptors.specs.declared.fault.KernelFault.{KernelFault}
use Rattle.sh_kernel_descriptors.specs.declared.fault.KernelFault.TheVariants.{NoMemory}
use Rattle.sh_kernel_descriptors.specs.declared.kept.Entry.{Entry}
use Rattle.sh_kernel_descriptors.specs.declared.kept.Held.{Held}
use Rattle.sh_kernel_processes.specs.declared.process.Process.{Process}
use Rattle.sh_kernel_machine.specs.Tables.{SameTables}

-- a description is at a key, and its key may be used again; a pipe that is left is listed with its number. How many
-- descriptions and pipes were ever made is counted
pub record MachineKept : Type 0 where
  pub processes : List Process
  pub held : List Held
  pub entries : Slab Entry
  pub described : ℕ
  pub pipes : List (ℕ × PipeState)
  pub piped : ℕ
  pub files : FileMap

-- what is kept agrees with all that was ever made, as far as descriptors name it; the descriptors of each process are kept in their order
pub record StandsAt (kept : MachineKept) (s : MachineState) : Type 0 where
  pub processes : kept.processes ≡ s.processes
  pub descriptors : SameTables (listed kept.held) s.descriptors
  pub descriptions : Linked kept.held kept.entries s.descriptions
  pub described : kept.described ≡ length s.descriptions
  pub pipes : PipesAgree kept.pipes s.pipes
  pub piped : kept.piped ≡ length s.pipes
  pub files : kept.files ≡ s.files

-- the call gave this answer, and what is kept then agrees with the state after it; unless no memory was found: then it
-- agrees with the state before
abbrev pub GivesOrLacks : {A : Type 0} → Result A KernelFault → MachineKept → MachineState → Done MachineState A → Type 0
GivesOrLacks (Ok a) new s d = GivesTo (StandsAt new) (Ok a) d
GivesOrLacks (Err fault) new s d = (fault ≢ NoMemory no_memory → GivesTo (StandsAt new) (Err fault) d) × (fault ≡ NoMemory no_memory → StandsAt new s)
