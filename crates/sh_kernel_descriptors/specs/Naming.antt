-- Descriptors of a process get and lose their numbers (XSH close, dup2, pipe), and are set aside.
use Rattle.std.specs.Prelude.{ℕ, ◌+◌, ◌==◌, ◌&&◌, ◌++◌, List, [], ◌∷◌, length, position, Bool, true, false, Option, Some, None, if◌then◌else◌, nat_lt, slice_get, slice_set}
use Rattle.sh_kernel_descriptors.specs.Outcomes.{Done, success, refusal}
use Rattle.sh_kernel_descriptors.specs.Descriptors.{description_number, is_named}
use Rattle.sh_kernel_processes.specs.Processes.{lives}
use Rattle.sh_kernel_descriptors.specs.Machine.{MachineState, after_close}
use Rattle.sh_kernel_descriptors.specs.declared.descriptor.Descriptor.{Descriptor}
use Rattle.sh_kernel_descriptors.specs.declared.descriptor.DescriptorRef.{DescriptorRef}
use Rattle.sh_kernel_descriptors.specs.declared.descriptor.DescriptorRef.TheVariants.{Number, Aside}
use Rattle.sh_kernel_descriptors.specs.declared.descriptor.Closing.TheVariants.{Named}
use Rattle.sh_kernel_descriptors.specs.declared.description.Description.{Description}
use Rattle.sh_kernel_descriptors.specs.declared.description.Target.{Target}
use Rattle.sh_kernel_descriptors.specs.declared.description.Target.TheVariants.{ReadEnd, WriteEnd}
use Rattle.sh_kernel_descriptors.specs.declared.fault.KernelFault.TheVariants.{BadDescriptor, NoProcess, TooManyDescriptors}

-- numbers go from 0 to 31
abbrev pub is_allowed : ℕ → Bool
is_allowed number = nat_lt number 32

-- the number refers to this description now; what it referred to is closed first
abbrev pub with_number : MachineState → ℕ → ℕ → ℕ → MachineState
with_number s pid number k =
    let s' = after_close s pid (Named (Number number)) in
    record s' { descriptors = s'.descriptors ++ record { pid = pid; number = Some number; description = k } ∷ [] }

-- ---- close
abbrev pub close_found : MachineState → ℕ → DescriptorRef → Option ℕ → Done MachineState (Unit {0})
close_found s pid name None = refusal s BadDescriptor
close_found s pid name (Some k) = success tt (after_close s pid (Named name))

abbrev pub close_call : MachineState → ℕ → DescriptorRef → Done MachineState (Unit {0})
close_call s pid name = close_found s pid name (description_number s.descriptors pid name)

-- ---- dup2
abbrev pub is_description : ℕ → Option ℕ → Bool
is_description k None = false
is_description k (Some j) = j == k

-- a number that refers to it already stays as it is
abbrev pub after_duplication : MachineState → ℕ → ℕ → ℕ → MachineState
after_duplication s pid to k = if is_description k (description_number s.descriptors pid (Number to)) then s else with_number s pid to k

abbrev pub dup_found : MachineState → ℕ → ℕ → Option ℕ → Done MachineState (Unit {0})
dup_found s pid to None = refusal s BadDescriptor
dup_found s pid to (Some k) = if is_allowed to then success tt (after_duplication s pid to k) else refusal s TooManyDescriptors

abbrev pub dup_call : MachineState → ℕ → DescriptorRef → ℕ → Done MachineState (Unit {0})
dup_call s pid name to = dup_found s pid to (description_number s.descriptors pid name)

-- ---- pipe
abbrev pub end_of : Target → Bool → Description
end_of target reading = record { target = target; offset = 0; append = false; readable = reading; writable = if reading then false else true }

-- a new pipe with room for 4096 bytes, and its two ends; no descriptor refers to them yet
abbrev pub with_pipe : MachineState → MachineState
with_pipe s = record s {
  pipes = s.pipes ++ Some (record { bytes = []; capacity = 4096 }) ∷ [];
  descriptions = s.descriptions ++ end_of (ReadEnd (length s.pipes)) true ∷ end_of (WriteEnd (length s.pipes)) false ∷ [];
}

-- one number of the process refers to the end to read from, the other to the end to write to
abbrev pub pipe_call : MachineState → ℕ → ℕ → ℕ → Done MachineState (Unit {0})
pipe_call s pid from to =
    if lives s.processes pid
    then (if is_allowed from && is_allowed to
    then success tt (with_number (with_number (with_pipe s) pid from (length s.descriptions)) pid to (length s.descriptions + 1))
    else refusal s TooManyDescriptors)
    else refusal s NoProcess

-- ---- what is set aside
-- the first descriptor of this name gets another number, or none
abbrev pub after_renumbering : List Descriptor → Option ℕ → ℕ → Option Descriptor → List Descriptor
after_renumbering ds number i None = ds
after_renumbering ds number i (Some d) = slice_set ds i (record d { number = number })

abbrev pub renamed_at : List Descriptor → Option ℕ → Option ℕ → List Descriptor
renamed_at ds number None = ds
renamed_at ds number (Some i) = after_renumbering ds number i (slice_get ds i)

abbrev pub after_renaming : List Descriptor → ℕ → DescriptorRef → Option ℕ → List Descriptor
after_renaming ds pid name number = renamed_at ds number (position (is_named pid name) ds)

abbrev pub aside_found : MachineState → ℕ → ℕ → Option ℕ → Done MachineState ℕ
aside_found s pid number None = refusal s BadDescriptor
aside_found s pid number (Some k) = success k (record s { descriptors = after_renaming s.descriptors pid (Number number) None })

-- a descriptor loses its number; it is called by its description from then on
abbrev pub set_aside_call : MachineState → ℕ → ℕ → Done MachineState ℕ
set_aside_call s pid number = aside_found s pid number (description_number s.descriptors pid (Number number))

-- the descriptor of this name gets the number; what the number referred to is closed
abbrev pub put_back : MachineState → ℕ → ℕ → ℕ → MachineState
put_back s pid k number =
    let s' = after_close s pid (Named (Number number)) in
    record s' { descriptors = after_renaming s'.descriptors pid (Aside k) (Some number) }

abbrev pub back_found : MachineState → ℕ → ℕ → ℕ → Option ℕ → Done MachineState (Unit {0})
back_found s pid k number None = refusal s BadDescriptor
back_found s pid k number (Some _) = if is_allowed number then success tt (put_back s pid k number) else refusal s TooManyDescriptors

abbrev pub put_back_call : MachineState → ℕ → ℕ → ℕ → Done MachineState (Unit {0})
put_back_call s pid k number = back_found s pid k number (description_number s.descriptors pid (Aside k))
