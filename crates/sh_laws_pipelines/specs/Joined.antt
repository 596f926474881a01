-- What a process that runs a stage of a pipeline reads from and writes to (2.9.2): a pipe or a regular file.
use Rattle.std.specs.Prelude.{◌≡◌, ℕ, List, ◌++◌, length, Bool, true, false, Some, slice_get, slice_set}
use Rattle.sh_files_image.specs.Contents.{Regular}
use Rattle.sh_files_image.specs.declared.node.Node.TheVariants as node
use Rattle.sh_kernel.specs.State.{KernelState}
use Rattle.sh_kernel_descriptors.specs.Descriptors.{description_number, has_reader, has_writer}
use Rattle.sh_kernel_descriptors.specs.Machine.{MachineState}
use Rattle.sh_kernel_descriptors.specs.declared.descriptor.DescriptorRef.TheVariants.{Number}
use Rattle.sh_kernel_descriptors.specs.declared.description.Description.{Description}
use Rattle.sh_kernel_descriptors.specs.declared.description.Target.{Target}
use Rattle.sh_kernel_descriptors.specs.declared.description.Target.TheVariants.{File, ReadEnd, WriteEnd}
use Rattle.sh_pipe.specs.Pipe.{PipeState}
use Rattle.sh_stock.specs.Filtering.{Begins}

-- the process's descriptor of this number leads to this open file description
pub record Opened (m : MachineState) (pid number : ℕ) (target : Target) : Type 0 where
  pub place : ℕ
  pub description : Description
  pub refers : description_number m.descriptors pid (Number number) ≡ Some place
  pub described : slice_get m.descriptions place ≡ Some description
  pub leads : description.target ≡ target

-- descriptor 0 leads to a pipe: what was read, and then what is in the pipe, are what was given. Where it has no writer no more is to come
pub record ReadsPipe (m : MachineState) (pid : ℕ) (given : List ℕ) (complete : Bool) (read : List ℕ) : Type 0 where
  pub pipe : ℕ
  pub opened : Opened m pid 0 (ReadEnd pipe)
  pub readable : opened.description.readable ≡ true
  pub state : PipeState
  pub slot : slice_get m.pipes pipe ≡ Some (Some state)
  pub bytes : read ++ state.bytes ≡ given
  pub end : has_writer m.descriptors m.descriptions pipe ≡ false → complete ≡ true

-- descriptor 0 leads to a regular file, which holds what was given, and was read up to its offset
pub record ReadsFile (m : MachineState) (pid : ℕ) (given : List ℕ) (complete : Bool) (read : List ℕ) : Type 0 where
  pub number : ℕ
  pub opened : Opened m pid 0 (File number)
  pub readable : opened.description.readable ≡ true
  pub file : Regular
  pub holds : slice_get m.files.nodes number ≡ Some (node.File file)
  pub content : file.bytes ≡ given
  pub begun : Begins read given
  pub offset : opened.description.offset ≡ length read
  pub whole : complete ≡ true

-- descriptor 1 leads to a pipe, which has a reader
pub record WritesPipe (m : MachineState) (pid pipe : ℕ) (state : PipeState) : Type 0 where
  pub opened : Opened m pid 1 (WriteEnd pipe)
  pub writable : opened.description.writable ≡ true
  pub slot : slice_get m.pipes pipe ≡ Some (Some state)
  pub reader : has_reader m.descriptors m.descriptions pipe ≡ true

-- descriptor 1 leads to a regular file, which holds what was written
pub record WritesFile (m : MachineState) (pid number : ℕ) (written : List ℕ) : Type 0 where
  pub opened : Opened m pid 1 (File number)
  pub writable : opened.description.writable ≡ true
  pub file : Regular
  pub holds : slice_get m.files.nodes number ≡ Some (node.File file)
  pub content : file.bytes ≡ written
  pub offset : opened.description.append ≡ false → opened.description.offset ≡ length written

-- ---- what changes by a read and by a write
-- the pipe holds this, and nothing else changes
abbrev pub with_pipe : KernelState → ℕ → PipeState → KernelState
with_pipe s pipe state = record s { machine = record s.machine { pipes = slice_set s.machine.pipes pipe (Some state) } }

-- the description has this offset
abbrev pub with_offset : KernelState → ℕ → Description → ℕ → KernelState
with_offset s place description offset = record s { machine = record s.machine { descriptions = slice_set s.machine.descriptions place (record description { offset = offset }) } }

-- the file holds these bytes, and the description has this offset
abbrev pub with_content : KernelState → (place : ℕ) → Description → (number : ℕ) → Regular → (bytes : List ℕ) → KernelState
with_content s place description number file bytes =
    record s {
      machine = record s.machine {
        files = record s.machine.files { nodes = slice_set s.machine.files.nodes number (node.File (record file { bytes = bytes })) };
        descriptions = slice_set s.machine.descriptions place (record description { offset = length bytes });
      };
    }
