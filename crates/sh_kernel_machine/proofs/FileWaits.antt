-- No call on a file waits.
use Rattle.std.proofs.Common.{◌≡◌, ℕ, ◌+◌, List, length, false, Result, Ok, Err, refl}
use Rattle.sh_files.specs.Nodes.{FileMap, read_at}
use Rattle.sh_files.specs.declared.fault.FileFault.{FileFault}
use Rattle.sh_files.specs.declared.fault.FileFault.TheVariants.{NoEntry, NoAccess, IsDirectory, NotDirectory, Exists, BadNumber, TooLarge, NoMemory}
use Rattle.sh_kernel_descriptors.specs.Outcomes.{fault_of_file}
use Rattle.sh_kernel_descriptors.specs.Waiting.{is_wait, waits}
use Rattle.sh_kernel_descriptors.specs.Machine.{MachineState}
use Rattle.sh_kernel_descriptors.specs.Reading.{content_read, read_file}
use Rattle.sh_kernel_descriptors.specs.Writing.{content_written, on_files, write_file, write_limited, write_node}
use Rattle.sh_kernel_descriptors.specs.declared.description.Description.{Description}

fault_waits : (fault : FileFault) → is_wait (fault_of_file fault) ≡ false
fault_waits NoEntry = refl
fault_waits NoAccess = refl
fault_waits IsDirectory = refl
fault_waits NotDirectory = refl
fault_waits Exists = refl
fault_waits BadNumber = refl
fault_waits TooLarge = refl
fault_waits (NoMemory _) = refl

content_waits : (offset : ℕ) (r : Result (List ℕ) FileFault) → waits (content_read offset r).answer ≡ false
content_waits offset (Ok bytes) = refl
content_waits offset (Err fault) = fault_waits fault

pub read_waits : (files : FileMap) (es : List Description) (k node offset n : ℕ) → waits (read_file files es k node offset n).answer ≡ false
read_waits files es k node offset n = content_waits offset (read_at files node offset n)

written_waits : (s : MachineState) (k end count : ℕ) (r : Result FileMap FileFault) → waits (on_files s k count (content_written s.files end r).after (content_written s.files end r).answer).answer ≡ false
written_waits s k end count (Ok files) = refl
written_waits s k end count (Err fault) = fault_waits fault

pub write_waits : (s : MachineState) (k node start : ℕ) (bytes : List ℕ) → waits (write_file s k node bytes (write_node s.files node start bytes)).answer ≡ false
write_waits s k node start bytes = written_waits s k (start + length bytes) (length bytes) (write_limited s.files node start bytes)
