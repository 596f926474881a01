-- What a process reaches: what its descriptors refer to, those that are set aside too.
use Rattle.std.specs.Prelude.{ℕ, ◌==◌, ◌&&◌, ◌||◌, List, Bool, false, slice_get}
use Rattle.std.specs.List.{list_any}
use Rattle.std.specs.Option.{option_map_or}
use Rattle.sh_kernel_descriptors.specs.Descriptors.{reads_from, writes_to}
use Rattle.sh_kernel_descriptors.specs.Terminals.{is_of_terminal}
use Rattle.sh_kernel_descriptors.specs.declared.descriptor.Descriptor.{Descriptor}
use Rattle.sh_kernel_descriptors.specs.declared.description.Description.{Description}
use Rattle.sh_kernel_descriptors.specs.declared.description.Target.{Target}
use Rattle.sh_kernel_descriptors.specs.declared.description.Target.TheVariants.{File, Terminal, Null, ReadEnd, WriteEnd}

-- a descriptor of the process refers to a description whose number passes the test
abbrev pub reaches : List Descriptor → ℕ → (ℕ → Bool) → Bool
reaches ds pid test = list_any (λ d. (d.pid == pid) && test d.description) ds

-- the description is an end of the pipe
abbrev pub is_end : List Description → ℕ → ℕ → Bool
is_end es pipe k = option_map_or (λ e. reads_from pipe e.target || writes_to pipe e.target) (slice_get es k) false

-- the description is of the file
abbrev pub is_node : ℕ → Target → Bool
is_node node (File n) = n == node
is_node node Terminal = false
is_node node Null = false
is_node node (ReadEnd pipe) = false
is_node node (WriteEnd pipe) = false

abbrev pub is_file : List Description → ℕ → ℕ → Bool
is_file es node k = option_map_or (λ e. is_node node e.target) (slice_get es k) false

-- the description is of the terminal
abbrev pub is_screen : List Description → ℕ → Bool
is_screen es k = option_map_or is_of_terminal (slice_get es k) false
