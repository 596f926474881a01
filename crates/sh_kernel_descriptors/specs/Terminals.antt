-- Descriptors that refer to the terminal (XSH isatty), and whether it may be read or written by them.
use Rattle.std.specs.Prelude.{ℕ, ◌&&◌, Bool, true, false, Option, slice_get}
use Rattle.std.specs.Option.{option_and_then, option_map_or}
use Rattle.sh_kernel_descriptors.specs.Descriptors.{description_number}
use Rattle.sh_kernel_descriptors.specs.Machine.{MachineState}
use Rattle.sh_kernel_descriptors.specs.declared.descriptor.DescriptorRef.{DescriptorRef}
use Rattle.sh_kernel_descriptors.specs.declared.description.Description.{Description}
use Rattle.sh_kernel_descriptors.specs.declared.description.Target.{Target}
use Rattle.sh_kernel_descriptors.specs.declared.description.Target.TheVariants.{File, Terminal, Null, ReadEnd, WriteEnd}

abbrev pub is_terminal_target : Target → Bool
is_terminal_target (File node) = false
is_terminal_target Terminal = true
is_terminal_target Null = false
is_terminal_target (ReadEnd pipe) = false
is_terminal_target (WriteEnd pipe) = false

abbrev pub is_of_terminal : Description → Bool
is_of_terminal e = is_terminal_target e.target

-- the description to which a descriptor refers
abbrev pub open_description : MachineState → ℕ → DescriptorRef → Option Description
open_description s pid name = option_and_then (λ k. slice_get s.descriptions k) (description_number s.descriptors pid name)

abbrev pub is_terminal : MachineState → ℕ → DescriptorRef → Bool
is_terminal s pid name = option_map_or is_of_terminal (open_description s pid name) false

abbrev pub reads_it : Description → Bool
reads_it e = is_of_terminal e && e.readable

abbrev pub writes_it : Description → Bool
writes_it e = is_of_terminal e && e.writable

abbrev pub reads_terminal : MachineState → ℕ → DescriptorRef → Bool
reads_terminal s pid name = option_map_or reads_it (open_description s pid name) false

abbrev pub writes_terminal : MachineState → ℕ → DescriptorRef → Bool
writes_terminal s pid name = option_map_or writes_it (open_description s pid name) false
