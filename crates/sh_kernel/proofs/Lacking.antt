-- A read from what isn't the terminal takes no memory.
use Rattle.sh_base.specs.Memory.{no_memory}
use Rattle.std.proofs.Common.{◌≡◌, ◌≢◌, ℕ, List, length, Bool, true, false, cond, ◌==◌, Option, Some, None, slice_get, refl, ap, ◌∙◌, Result, Ok, Err, min}
use Rattle.sh_files.specs.Nodes.{content_of}
use Rattle.sh_files_image.specs.declared.node.Node.{Node}
use Rattle.sh_files_image.specs.declared.node.Node.TheVariants as node
use Rattle.sh_pipe.specs.Pipe.{PipeState}
use Rattle.sh_pipe.specs.declared.PipeFault.TheVariants as pipe_fault
use Rattle.sh_kernel_descriptors.specs.Descriptors.{description_number, has_writer}
use Rattle.sh_kernel_descriptors.specs.Machine.{MachineState}
use Rattle.sh_kernel_descriptors.specs.Outcomes.{refusal}
use Rattle.sh_kernel_descriptors.specs.Reading.{content_read, pipe_bytes, read_call, read_described, read_found, read_pipe_of, read_slot, read_target}
use Rattle.sh_kernel_descriptors.specs.declared.descriptor.DescriptorRef.{DescriptorRef}
use Rattle.sh_kernel_descriptors.specs.declared.description.Description.{Description}
use Rattle.sh_kernel_descriptors.specs.declared.description.Target.{Target}
use Rattle.sh_kernel_descriptors.specs.declared.description.Target.TheVariants.{File, Terminal, Null, ReadEnd, WriteEnd}
use Rattle.sh_kernel_descriptors.specs.declared.fault.KernelFault.{KernelFault}
use Rattle.sh_kernel_descriptors.specs.declared.fault.KernelFault.TheVariants as fault

abbrev lacks : Result (List ℕ) KernelFault → Bool
lacks (Ok bytes) = false
lacks (Err fault.BadDescriptor) = false
lacks (Err fault.NoProcess) = false
lacks (Err fault.TooManyProcesses) = false
lacks (Err fault.TooManyDescriptors) = false
lacks (Err fault.WouldWait) = false
lacks (Err fault.BrokenPipe) = false
lacks (Err fault.InputOutput) = false
lacks (Err (fault.File refused)) = false
lacks (Err (fault.NoMemory lack)) = true

node_lacks : (o : Option Node) (offset n : ℕ) → lacks (content_read offset (content_of o offset n)).answer ≡ false
node_lacks None offset n = refl
node_lacks (Some node.Directory) offset n = refl
node_lacks (Some (node.File file)) offset n = refl
node_lacks (Some node.Null) offset n = refl
node_lacks (Some node.Terminal) offset n = refl

bytes_lack : (p : PipeState) (n : ℕ) (empty writer : Bool) → lacks (pipe_bytes p (cond empty (cond writer (Err pipe_fault.WouldWait) (Ok 0)) (Ok (min n (length p.bytes))))) ≡ false
bytes_lack p n true true = refl
bytes_lack p n true false = refl
bytes_lack p n false writer = refl

slot_lacks : (writer : Bool) (n : ℕ) (o : Option PipeState) → lacks (read_slot writer n o).answer ≡ false
slot_lacks writer n None = refl
slot_lacks writer n (Some p) = bytes_lack p n (length p.bytes == 0) writer

module _ (m : MachineState) (n : ℕ) where
  pipe_lacks : (pipe : ℕ) (writer : Bool) (o : Option (Option PipeState)) → lacks (read_pipe_of m.pipes pipe writer n o).answer ≡ false
  pipe_lacks pipe writer None = refl
  pipe_lacks pipe writer (Some slot) = slot_lacks writer n slot

  target_lacks : (k offset : ℕ) (t : Target) → lacks (read_target m n k offset t).answer ≡ false
  target_lacks k offset (File number) = node_lacks (slice_get m.files.nodes number) offset n
  target_lacks k offset Terminal = refl
  target_lacks k offset Null = refl
  target_lacks k offset (ReadEnd pipe) = pipe_lacks pipe (has_writer m.descriptors m.descriptions pipe) (slice_get m.pipes pipe)
  target_lacks k offset (WriteEnd pipe) = refl

  described_lacks : (k : ℕ) (o : Option Description) → lacks (read_described m n k o).answer ≡ false
  described_lacks k None = refl
  described_lacks k (Some e) =
      elim e.readable as (λ b. lacks (cond b (read_target m n k e.offset e.target) (refusal m fault.BadDescriptor)).answer ≡ false) [
        | true ↦ target_lacks k e.offset e.target
        | false ↦ refl
      ]

  found_lacks : (o : Option ℕ) → lacks (read_found m n o).answer ≡ false
  found_lacks None = refl
  found_lacks (Some k) = described_lacks k (slice_get m.descriptions k)

pub read_takes_no_memory : (m : MachineState) (pid : ℕ) (name : DescriptorRef) (n : ℕ) (refused : KernelFault) → (read_call m pid name n).answer ≡ Err refused → refused ≢ fault.NoMemory no_memory
read_takes_no_memory m pid name n refused is lack =
    let yes : lacks (read_call m pid name n).answer ≡ true = ap (λ (r : Result (List ℕ) KernelFault). lacks r) (is ∙ ap (λ (f : KernelFault). Err f) lack) in
    let no : lacks (read_call m pid name n).answer ≡ false = found_lacks m n (description_number m.descriptors pid name) in
    absurd (cc)
