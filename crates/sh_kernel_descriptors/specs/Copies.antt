-- What a fork copies of a process's descriptors (XSH fork).
use Rattle.std.specs.Prelude.{ℕ, ◌==◌, ◌&&◌, List, map, filter, Bool, is_some}
use Rattle.sh_kernel_descriptors.specs.declared.descriptor.Descriptor.{Descriptor}

abbrev pub is_copied : ℕ → Descriptor → Bool
is_copied pid d = (d.pid == pid) && is_some d.number

-- the descriptor, as one of another process; both refer to the same description
abbrev pub of_process : ℕ → Descriptor → Descriptor
of_process pid d = record d { pid = pid }

-- a process's descriptors, but for those that are set aside, as descriptors of another process
abbrev pub copies : List Descriptor → ℕ → ℕ → List Descriptor
copies ds pid child = map (of_process child) (filter (is_copied pid) ds)
