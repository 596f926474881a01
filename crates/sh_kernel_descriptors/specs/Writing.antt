-- Writing (XSH write).
use Rattle.std.specs.Prelude.{ℕ, ◌+◌, List, length, Bool, true, Option, Some, None, if◌then◌else◌, slice_get, Result, Ok, Err}
use Rattle.sh_files.specs.Nodes.{FileMap, is_empty, write_at, write_fits}
use Rattle.sh_files.specs.declared.fault.FileFault.{FileFault}
use Rattle.sh_files.specs.declared.fault.FileFault.TheVariants.{TooLarge}
use Rattle.sh_files.specs.Node.{Node}
use Rattle.sh_files.specs.Node.TheVariants as node
use Rattle.sh_pipe.specs.Pipe.{PipeState, write_result, after_write}
use Rattle.sh_pipe.specs.declared.PipeFault.{PipeFault}
use Rattle.sh_kernel_descriptors.specs.Outcomes.{Done, success, refusal, fault_of_file, fault_of_pipe}
use Rattle.sh_kernel_descriptors.specs.Descriptors.{description_number, has_reader}
use Rattle.sh_kernel_descriptors.specs.Closings.{Pipes}
use Rattle.sh_kernel_descriptors.specs.Machine.{MachineState}
use Rattle.sh_kernel_descriptors.specs.Reading.{at_place, with_offset, on_pipes}
use Rattle.sh_kernel_descriptors.specs.declared.descriptor.DescriptorRef.TheVariants.{Number}
use Rattle.sh_kernel_descriptors.specs.declared.description.Description.{Description}
use Rattle.sh_kernel_descriptors.specs.declared.description.Target.{Target}
use Rattle.sh_kernel_descriptors.specs.declared.description.Target.TheVariants.{File, Terminal, Null, ReadEnd, WriteEnd}
use Rattle.sh_kernel_descriptors.specs.declared.fault.KernelFault.{KernelFault}
use Rattle.sh_kernel_descriptors.specs.declared.fault.KernelFault.TheVariants.{BadDescriptor, BrokenPipe}

-- ---- a file
abbrev pub size_of : Option Node → ℕ
size_of None = 0
size_of (Some node.Directory) = 0
size_of (Some (node.File file)) = length file.bytes
size_of (Some node.Null) = 0
size_of (Some node.Terminal) = 0

-- where a write begins: at the offset, or, where it appends, at the file's end
abbrev pub write_start : FileMap → ℕ → Bool → ℕ → ℕ
write_start files node append offset = if append then size_of (slice_get files.nodes node) else offset

-- no write passes the greatest length of a file
abbrev pub write_limited : FileMap → ℕ → ℕ → List ℕ → Result FileMap FileFault
write_limited files node start bytes = if write_fits start bytes then write_at files node start bytes else Err TooLarge

-- the files and the offset after what was written
abbrev pub content_written : FileMap → ℕ → Result FileMap FileFault → Done FileMap ℕ
content_written files end (Ok files') = success end files'
content_written files end (Err fault) = refusal files (fault_of_file fault)

abbrev pub write_node : FileMap → ℕ → ℕ → List ℕ → Done FileMap ℕ
write_node files node start bytes = content_written files (start + length bytes) (write_limited files node start bytes)

abbrev pub on_files : MachineState → ℕ → ℕ → FileMap → Result ℕ KernelFault → Done MachineState ℕ
on_files s k count files (Ok end) = success count (record s { files = files; descriptions = with_offset s.descriptions k end })
on_files s k count files (Err fault) = record { answer = Err fault; after = record s { files = files } }

abbrev pub write_file : MachineState → ℕ → ℕ → List ℕ → Done FileMap ℕ → Done MachineState ℕ
write_file s k node bytes d = on_files s k (length bytes) d.after d.answer

-- ---- a pipe
abbrev pub pipe_count : Result ℕ PipeFault → Result ℕ KernelFault
pipe_count (Ok n) = Ok n
pipe_count (Err fault) = Err (fault_of_pipe fault)

abbrev pub write_slot : List ℕ → Option PipeState → Done (Option PipeState) ℕ
write_slot bytes None = refusal None BadDescriptor
write_slot bytes (Some p) = record { answer = pipe_count (write_result p bytes true); after = Some (after_write p bytes true) }

abbrev pub write_pipe_of : Pipes → ℕ → List ℕ → Option (Option PipeState) → Done Pipes ℕ
write_pipe_of ps pipe bytes None = refusal ps BadDescriptor
write_pipe_of ps pipe bytes (Some slot) = at_place ps pipe (write_slot bytes slot)

abbrev pub write_pipe : Pipes → ℕ → List ℕ → Done Pipes ℕ
write_pipe ps pipe bytes = write_pipe_of ps pipe bytes (slice_get ps pipe)

-- a pipe without a reader refuses; the writer is also sent SIGPIPE, which is the kernel's part
abbrev pub write_end : MachineState → ℕ → List ℕ → Done MachineState ℕ
write_end s pipe bytes =
    if has_reader s.descriptors s.descriptions pipe then on_pipes s (write_pipe s.pipes pipe bytes) else refusal s BrokenPipe

-- ---- the call
abbrev pub write_target : MachineState → List ℕ → ℕ → Description → Target → Done MachineState ℕ
write_target s bytes k e (File node) =
    write_file s k node bytes (write_node s.files node (write_start s.files node e.append e.offset) bytes)
write_target s bytes k e Terminal = refusal s BadDescriptor
write_target s bytes k e Null = success (length bytes) s
write_target s bytes k e (ReadEnd pipe) = refusal s BadDescriptor
write_target s bytes k e (WriteEnd pipe) = write_end s pipe bytes

-- a write of no bytes has no other result
abbrev pub write_described : MachineState → List ℕ → ℕ → Option Description → Done MachineState ℕ
write_described s bytes k None = refusal s BadDescriptor
write_described s bytes k (Some e) =
    if e.writable
    then (if is_empty bytes then success 0 s else write_target s bytes k e e.target)
    else refusal s BadDescriptor

abbrev pub write_found : MachineState → List ℕ → Option ℕ → Done MachineState ℕ
write_found s bytes None = refusal s BadDescriptor
write_found s bytes (Some k) = write_described s bytes k (slice_get s.descriptions k)

-- the process writes by its descriptor what can be written at once
abbrev pub write_call : MachineState → ℕ → ℕ → List ℕ → Done MachineState ℕ
write_call s pid number bytes = write_found s bytes (description_number s.descriptors pid (Number number))
