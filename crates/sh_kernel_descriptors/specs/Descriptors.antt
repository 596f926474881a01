-- The descriptors of all processes (XSH 2.14), and the open file descriptions to which they refer.
use Rattle.std.specs.Prelude.{ℕ, ◌==◌, ◌&&◌, List, find, Bool, false, Option, Some, None, is_none, slice_get}
use Rattle.std.specs.List.{list_any}
use Rattle.std.specs.Option.{option_map, option_map_or}
use Rattle.sh_kernel_descriptors.specs.declared.descriptor.Descriptor.{Descriptor}
use Rattle.sh_kernel_descriptors.specs.declared.descriptor.DescriptorRef.{DescriptorRef}
use Rattle.sh_kernel_descriptors.specs.declared.descriptor.DescriptorRef.TheVariants.{Number, Aside}
use Rattle.sh_kernel_descriptors.specs.declared.description.Description.{Description}
use Rattle.sh_kernel_descriptors.specs.declared.description.Target.{Target}
use Rattle.sh_kernel_descriptors.specs.declared.description.Target.TheVariants.{File, Terminal, Null, ReadEnd, WriteEnd}

abbrev pub is_number : ℕ → Option ℕ → Bool
is_number number None = false
is_number number (Some n) = n == number

-- a descriptor is called by its number, or, where it is set aside, by its description
abbrev pub is_called : DescriptorRef → Descriptor → Bool
is_called (Number number) d = is_number number d.number
is_called (Aside description) d = is_none d.number && (d.description == description)

abbrev pub is_named : ℕ → DescriptorRef → Descriptor → Bool
is_named pid name d = (d.pid == pid) && is_called name d

-- the number of the description to which the process's descriptor of this name refers
abbrev pub description_number : List Descriptor → ℕ → DescriptorRef → Option ℕ
description_number ds pid name = option_map (λ d. d.description) (find (is_named pid name) ds)

-- an end of this pipe: one to read from, one to write to
abbrev pub reads_from : ℕ → Target → Bool
reads_from pipe (File node) = false
reads_from pipe Terminal = false
reads_from pipe Null = false
reads_from pipe (ReadEnd p) = p == pipe
reads_from pipe (WriteEnd p) = false

abbrev pub writes_to : ℕ → Target → Bool
writes_to pipe (File node) = false
writes_to pipe Terminal = false
writes_to pipe Null = false
writes_to pipe (ReadEnd p) = false
writes_to pipe (WriteEnd p) = p == pipe

-- the descriptor refers to such an end
abbrev pub is_reader : List Description → ℕ → Descriptor → Bool
is_reader es pipe d = option_map_or (λ e. reads_from pipe e.target) (slice_get es d.description) false

abbrev pub is_writer : List Description → ℕ → Descriptor → Bool
is_writer es pipe d = option_map_or (λ e. writes_to pipe e.target) (slice_get es d.description) false

-- the pipe has a reader where some descriptor of any process refers to an end to read from; and a writer likewise
abbrev pub has_reader : List Descriptor → List Description → ℕ → Bool
has_reader ds es pipe = list_any (is_reader es pipe) ds

abbrev pub has_writer : List Descriptor → List Description → ℕ → Bool
has_writer ds es pipe = list_any (is_writer es pipe) ds
