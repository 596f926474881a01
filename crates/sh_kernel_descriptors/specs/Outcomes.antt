-- What a call of a kernel answers, and the state after it.
use Rattle.sh_base.specs.Memory.{no_memory}
use Rattle.std.specs.Prelude.{◌≡◌, ◌≢◌, ℕ, List, take, drop, Result, Ok, Err, IfErr, IsOk}
use Rattle.sh_files.specs.declared.fault.FileFault.{FileFault}
use Rattle.sh_files.specs.declared.fault.FileFault.TheVariants as file
use Rattle.sh_pipe.specs.declared.PipeFault.{PipeFault}
use Rattle.sh_pipe.specs.declared.PipeFault.TheVariants as pipe
use Rattle.sh_kernel_descriptors.specs.declared.fault.KernelFault.{KernelFault}
use Rattle.sh_kernel_descriptors.specs.declared.fault.KernelFault.TheVariants.{BadDescriptor, WouldWait, BrokenPipe, File, NoMemory}

-- the answer of a call, and the state, or the part of it that the call may change, after it
pub record Done (S A : Type 0) : Type 0 where
  pub answer : Result A KernelFault
  pub after : S

abbrev pub success : {S A : Type 0} → A → S → Done S A
success a s = record { answer = Ok a; after = s }

-- a refusal changes nothing
abbrev pub refusal : {S A : Type 0} → S → KernelFault → Done S A
refusal s fault = record { answer = Err fault; after = s }

-- the refusal of a kernel for a refusal of its files, and for one of a pipe
abbrev pub fault_of_file : FileFault → KernelFault
fault_of_file file.NoEntry = File file.NoEntry
fault_of_file file.NoAccess = File file.NoAccess
fault_of_file file.IsDirectory = File file.IsDirectory
fault_of_file file.NotDirectory = File file.NotDirectory
fault_of_file file.Exists = File file.Exists
fault_of_file file.BadNumber = BadDescriptor
fault_of_file file.TooLarge = File file.TooLarge
fault_of_file (file.NoMemory lack) = NoMemory lack

abbrev pub fault_of_pipe : PipeFault → KernelFault
fault_of_pipe pipe.WouldWait = WouldWait
fault_of_pipe pipe.NoReader = BrokenPipe

-- the call gave this answer and left this state
abbrev pub Gives : {S A : Type 0} → Result A KernelFault → S → Done S A → Type 0
Gives result new d = d ≡ record { answer = result; after = new }

-- the same, unless no memory was found: then nothing has changed
abbrev pub GivesOrLacks : {S A : Type 0} → Result A KernelFault → S → S → Done S A → Type 0
GivesOrLacks (Ok a) old new d = Gives (Ok a) new d
GivesOrLacks (Err fault) old new d = (fault ≢ NoMemory no_memory → Gives (Err fault) new d) × (fault ≡ NoMemory no_memory → new ≡ old)

-- memory may be wanting only where the call isn't refused
abbrev pub LacksWhereGiven : {S A : Type 0} → Result A KernelFault → Done S A → Type 0
LacksWhereGiven result d = IfErr result (λ fault. fault ≡ NoMemory no_memory → IsOk d.answer)

-- the same of a read: its bytes are at the front of the buffer, and the rest of the buffer is as it was
abbrev pub GivesRead : {S : Type 0} → Result ℕ KernelFault → List ℕ → List ℕ → S → Done S (List ℕ) → Type 0
GivesRead (Ok n) buf buf' new d = (d ≡ record { answer = Ok (take n buf'); after = new }) × (drop n buf' ≡ drop n buf)
GivesRead (Err fault) buf buf' new d = (d ≡ record { answer = Err fault; after = new }) × (buf' ≡ buf)

-- ---- where what is kept is no part of the state, but agrees with it
-- the call gave this answer, and what is kept now agrees with the state after it
abbrev pub GivesTo : {S A : Type 0} → (S → Type 0) → Result A KernelFault → Done S A → Type 0
GivesTo agrees result d = (d.answer ≡ result) × agrees d.after

-- the same of a read
abbrev pub GivesReadTo : {S : Type 0} → (S → Type 0) → Result ℕ KernelFault → List ℕ → List ℕ → Done S (List ℕ) → Type 0
GivesReadTo agrees (Ok n) buf buf' d = (d.answer ≡ Ok (take n buf')) × (drop n buf' ≡ drop n buf) × agrees d.after
GivesReadTo agrees (Err fault) buf buf' d = (d.answer ≡ Err fault) × (buf' ≡ buf) × agrees d.after
