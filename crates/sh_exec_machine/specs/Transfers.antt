-- What a process reads and writes in one turn (XSH read, write), as far as the shell and programs tell the
-- outcomes apart.
use Rattle.std.specs.Prelude.{◌≡◌, ℕ, List, length, nat_lt, Result, Ok, Err, if◌then◌else◌}
use Rattle.sh_exec_machine.specs.declared.transfer.ReadOutcome.{ReadOutcome}
use Rattle.sh_exec_machine.specs.declared.transfer.ReadOutcome.TheVariants as taken
use Rattle.sh_exec_machine.specs.declared.transfer.WriteOutcome.{WriteOutcome}
use Rattle.sh_exec_machine.specs.declared.transfer.WriteOutcome.TheVariants as given
use Rattle.sh_kernel.specs.Calls.{read_call, write_call}
use Rattle.sh_kernel.specs.State.{KernelKept, KernelState, StandsAt}
use Rattle.sh_kernel_descriptors.specs.Waiting.{is_wait}
use Rattle.sh_kernel_descriptors.specs.declared.descriptor.DescriptorRef.{DescriptorRef}
use Rattle.sh_kernel_descriptors.specs.declared.fault.KernelFault.{KernelFault}
use Rattle.sh_kernel_descriptors.specs.declared.fault.KernelFault.TheVariants as fault

-- a read that would wait is to be made again; another refusal is a failure
abbrev pub taken_by : Result (List ℕ) KernelFault → ReadOutcome
taken_by (Ok bytes) = taken.Bytes bytes
taken_by (Err f) = if is_wait f then taken.Wait else taken.Failed

pub record Taking : Type 0 where
  pub told : ReadOutcome
  pub after : KernelState

unfoldable pub take_bytes : KernelState → ℕ → DescriptorRef → ℕ → Taking
take_bytes s pid name count = let d = read_call s pid name count in record { told = taken_by d.answer; after = d.after }

-- a write to a pipe without a reader fails; the kernel also sends SIGPIPE, which ends the process that neither ignores nor catches it (XSH
-- write, EPIPE)
abbrev pub refused_by : KernelFault → WriteOutcome
refused_by fault.BadDescriptor = given.Failed
refused_by fault.NoProcess = given.Failed
refused_by fault.TooManyProcesses = given.Failed
refused_by fault.TooManyDescriptors = given.Failed
refused_by fault.WouldWait = given.Wait
refused_by fault.BrokenPipe = given.Failed
refused_by fault.InputOutput = given.Failed
refused_by (fault.File f) = given.Failed
refused_by (fault.NoMemory _) = given.Failed

-- of so many bytes all went, or only a part
abbrev pub given_by : ℕ → Result ℕ KernelFault → WriteOutcome
given_by total (Ok count) = if nat_lt count total then given.Part count else given.Whole
given_by total (Err f) = refused_by f

pub record Giving : Type 0 where
  pub told : WriteOutcome
  pub after : KernelState

unfoldable pub give_bytes : KernelState → ℕ → ℕ → List ℕ → Giving
give_bytes s pid number bytes =
    let d = write_call s pid number bytes in record { told = given_by (length bytes) d.answer; after = d.after }

-- the kernel stands at the state after a read, and this is told of it; and so of a write
pub record HasTaken (kernel : KernelKept) (told : ReadOutcome) (t : Taking) : Type 0 where
  pub state : StandsAt kernel t.after
  pub answer : told ≡ t.told

pub record HasGiven (kernel : KernelKept) (told : WriteOutcome) (g : Giving) : Type 0 where
  pub state : StandsAt kernel g.after
  pub answer : told ≡ g.told
