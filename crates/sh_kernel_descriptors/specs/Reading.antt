-- Reading (XSH read).
use Rattle.std.specs.Prelude.{ℕ, ◌+◌, List, [], length, take, Bool, Option, Some, None, if◌then◌else◌, slice_get, slice_set, Result, Ok, Err}
use Rattle.sh_files.specs.Nodes.{FileMap, read_at}
use Rattle.sh_files.specs.declared.fault.FileFault.{FileFault}
use Rattle.sh_pipe.specs.Pipe.{PipeState, read_result, after_read}
use Rattle.sh_pipe.specs.declared.PipeFault.{PipeFault}
use Rattle.sh_kernel_descriptors.specs.Outcomes.{Done, success, refusal, fault_of_file, fault_of_pipe}
use Rattle.sh_kernel_descriptors.specs.Descriptors.{description_number, has_writer}
use Rattle.sh_kernel_descriptors.specs.Closings.{Pipes}
use Rattle.sh_kernel_descriptors.specs.Machine.{MachineState}
use Rattle.sh_kernel_descriptors.specs.declared.descriptor.DescriptorRef.{DescriptorRef}
use Rattle.sh_kernel_descriptors.specs.declared.description.Description.{Description}
use Rattle.sh_kernel_descriptors.specs.declared.description.Target.{Target}
use Rattle.sh_kernel_descriptors.specs.declared.description.Target.TheVariants.{File, Terminal, Null, ReadEnd, WriteEnd}
use Rattle.sh_kernel_descriptors.specs.declared.fault.KernelFault.{KernelFault}
use Rattle.sh_kernel_descriptors.specs.declared.fault.KernelFault.TheVariants.{BadDescriptor}

-- ---- a file
-- the description has this offset now
abbrev pub moved_of : List Description → ℕ → ℕ → Option Description → List Description
moved_of es k offset None = es
moved_of es k offset (Some e) = slice_set es k (record e { offset = offset })

abbrev pub with_offset : List Description → ℕ → ℕ → List Description
with_offset es k offset = moved_of es k offset (slice_get es k)

-- the bytes from an offset on, and the offset after them
abbrev pub content_read : ℕ → Result (List ℕ) FileFault → Done ℕ (List ℕ)
content_read offset (Ok bytes) = success bytes (offset + length bytes)
content_read offset (Err fault) = refusal offset (fault_of_file fault)

abbrev pub read_node : FileMap → ℕ → ℕ → ℕ → Done ℕ (List ℕ)
read_node files node offset n = content_read offset (read_at files node offset n)

abbrev pub on_offset : {A : Type 0} → List Description → ℕ → Done ℕ A → Done (List Description) A
on_offset es k d = record { answer = d.answer; after = with_offset es k d.after }

abbrev pub read_file : FileMap → List Description → ℕ → ℕ → ℕ → ℕ → Done (List Description) (List ℕ)
read_file files es k node offset n = on_offset es k (read_node files node offset n)

-- ---- a pipe
abbrev pub pipe_bytes : PipeState → Result ℕ PipeFault → Result (List ℕ) KernelFault
pipe_bytes p (Ok n) = Ok (take n p.bytes)
pipe_bytes p (Err fault) = Err (fault_of_pipe fault)

abbrev pub read_slot : Bool → ℕ → Option PipeState → Done (Option PipeState) (List ℕ)
read_slot writer n None = refusal None BadDescriptor
read_slot writer n (Some p) = record { answer = pipe_bytes p (read_result p n writer); after = Some (after_read p n writer) }

-- the list with what a change of its k-th element leaves there
abbrev pub at_place : {X A : Type 0} → List X → ℕ → Done X A → Done (List X) A
at_place xs k d = record { answer = d.answer; after = slice_set xs k d.after }

abbrev pub read_pipe_of : Pipes → ℕ → Bool → ℕ → Option (Option PipeState) → Done Pipes (List ℕ)
read_pipe_of ps pipe writer n None = refusal ps BadDescriptor
read_pipe_of ps pipe writer n (Some slot) = at_place ps pipe (read_slot writer n slot)

abbrev pub read_pipe : Pipes → ℕ → Bool → ℕ → Done Pipes (List ℕ)
read_pipe ps pipe writer n = read_pipe_of ps pipe writer n (slice_get ps pipe)

-- ---- the call
abbrev pub on_descriptions : {A : Type 0} → MachineState → Done (List Description) A → Done MachineState A
on_descriptions s d = record { answer = d.answer; after = record s { descriptions = d.after } }

abbrev pub on_pipes : {A : Type 0} → MachineState → Done Pipes A → Done MachineState A
on_pipes s d = record { answer = d.answer; after = record s { pipes = d.after } }

-- the terminal is no part of this state
abbrev pub read_target : MachineState → ℕ → ℕ → ℕ → Target → Done MachineState (List ℕ)
read_target s n k offset (File node) = on_descriptions s (read_file s.files s.descriptions k node offset n)
read_target s n k offset Terminal = refusal s BadDescriptor
read_target s n k offset Null = success [] s
read_target s n k offset (ReadEnd pipe) = on_pipes s (read_pipe s.pipes pipe (has_writer s.descriptors s.descriptions pipe) n)
read_target s n k offset (WriteEnd pipe) = refusal s BadDescriptor

abbrev pub read_described : MachineState → ℕ → ℕ → Option Description → Done MachineState (List ℕ)
read_described s n k None = refusal s BadDescriptor
read_described s n k (Some e) = if e.readable then read_target s n k e.offset e.target else refusal s BadDescriptor

abbrev pub read_found : MachineState → ℕ → Option ℕ → Done MachineState (List ℕ)
read_found s n None = refusal s BadDescriptor
read_found s n (Some k) = read_described s n k (slice_get s.descriptions k)

-- the process reads up to n bytes by its descriptor
abbrev pub read_call : MachineState → ℕ → DescriptorRef → ℕ → Done MachineState (List ℕ)
read_call s pid name n = read_found s n (description_number s.descriptors pid name)
