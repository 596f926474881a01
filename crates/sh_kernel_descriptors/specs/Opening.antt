-- Opening a file (XSH open), or a here-document (XCU 2.7.4), at a number.
use Rattle.std.specs.Prelude.{ℕ, ◌++◌, List, [], ◌∷◌, length, Bool, true, false, Option, Some, None, if◌then◌else◌, slice_get, Result, Ok, Err}
use Rattle.sh_files.specs.Nodes.{FileMap, nameless, opened}
use Rattle.sh_files.specs.declared.fault.FileFault.{FileFault}
use Rattle.sh_files.specs.declared.opening.Opening.{Opening}
use Rattle.sh_files.specs.Node.{Node}
use Rattle.sh_files.specs.Node.TheVariants as node
use Rattle.sh_kernel_descriptors.specs.Outcomes.{Done, success, refusal, fault_of_file}
use Rattle.sh_kernel_processes.specs.Processes.{lives}
use Rattle.sh_kernel_descriptors.specs.Machine.{MachineState}
use Rattle.sh_kernel_descriptors.specs.Naming.{is_allowed, with_number}
use Rattle.sh_kernel_descriptors.specs.declared.description.Description.{Description}
use Rattle.sh_kernel_descriptors.specs.declared.description.Target.{Target}
use Rattle.sh_kernel_descriptors.specs.declared.description.Target.TheVariants.{File, Terminal, Null}
use Rattle.sh_kernel_descriptors.specs.declared.fault.KernelFault.TheVariants.{NoProcess, TooManyDescriptors}

-- what is open where a path names this node
abbrev pub target_of : ℕ → Option Node → Target
target_of n None = File n
target_of n (Some node.Directory) = File n
target_of n (Some (node.File file)) = File n
target_of n (Some node.Null) = Null
target_of n (Some node.Terminal) = Terminal

abbrev pub description_of : Target → Opening → Bool → Description
description_of target how append = record { target = target; offset = 0; append = append; readable = how.read; writable = how.write }

-- one more description, of the node of this number
abbrev pub with_node : MachineState → Opening → Bool → ℕ → FileMap → MachineState
with_node s how append n files = record s {
  files = files;
  descriptions = s.descriptions ++ description_of (target_of n (slice_get files.nodes n)) how append ∷ [];
}

abbrev pub open_result : MachineState → ℕ → Opening → Bool → ℕ → Result (ℕ × FileMap) FileFault → Done MachineState (Unit {0})
open_result s pid how append number (Err fault) = refusal s (fault_of_file fault)
open_result s pid how append number (Ok o) = success tt (with_number (with_node s how append o.0 o.1) pid number (length s.descriptions))

-- the number of the process refers to what the path names; what it referred to is closed
abbrev pub open_call : MachineState → ℕ → List ℕ → List ℕ → Opening → Bool → ℕ → Done MachineState (Unit {0})
open_call s pid directory path how append number =
    if lives s.processes pid
    then (if is_allowed number
    then open_result s pid how append number (opened s.files directory path how)
    else refusal s TooManyDescriptors)
    else refusal s NoProcess

-- ---- here-documents
abbrev pub for_reading : Opening
for_reading = record { read = true; write = false; create = false; exclusive = false; truncate = false }

-- the number of the process refers to a new file of these bytes, which no path names; it is open for reading alone, and
-- what the number referred to is closed
abbrev pub here_call : MachineState → ℕ → List ℕ → ℕ → Done MachineState (Unit {0})
here_call s pid bytes number =
    if lives s.processes pid
    then (if is_allowed number
    then open_result s pid for_reading false number (nameless s.files bytes)
    else refusal s TooManyDescriptors)
    else refusal s NoProcess
