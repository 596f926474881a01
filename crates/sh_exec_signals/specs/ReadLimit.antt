-- Reading lines by descriptor 0.
use Rattle.std.specs.Prelude.{ℕ, if◌then◌else◌}
use Rattle.sh_kernel_descriptors.specs.Machine.{MachineState}
use Rattle.sh_kernel_descriptors.specs.Terminals.{is_terminal}
use Rattle.sh_kernel_descriptors.specs.declared.descriptor.DescriptorRef.TheVariants.{Number}

-- the most bytes that one read takes: the terminal gives one line at most; elsewhere what is behind the line is left to be read
abbrev pub most_read : MachineState → (pid : ℕ) → ℕ
most_read machine pid = if is_terminal machine pid (Number 0) then 4096 else 1
