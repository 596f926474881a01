-- The machine as the first process starts.
use Rattle.std.specs.Prelude.{ℕ, [], ◌∷◌, true, false, Some}
use Rattle.sh_files.specs.Nodes.{FileMap}
use Rattle.sh_kernel_descriptors.specs.Machine.{MachineState}
use Rattle.sh_kernel_descriptors.specs.declared.descriptor.Descriptor.{Descriptor}
use Rattle.sh_kernel_descriptors.specs.declared.description.Description.{Description}
use Rattle.sh_kernel_descriptors.specs.declared.description.Target.TheVariants.{Terminal}
use Rattle.sh_kernel_processes.specs.Processes.{first_process}

abbrev pub the_terminal : Description
the_terminal = record { target = Terminal; offset = 0; append = false; readable = true; writable = true }

abbrev pub to_terminal : ℕ → Descriptor
to_terminal number = record { pid = 100; number = Some number; description = 0 }

-- its descriptors 0, 1 and 2 refer to one description of the terminal
abbrev pub starting : FileMap → MachineState
starting files = record {
  processes = first_process ∷ [];
  descriptors = to_terminal 0 ∷ to_terminal 1 ∷ to_terminal 2 ∷ [];
  descriptions = the_terminal ∷ [];
  pipes = [];
  files = files;
}
