-- Whether a call would wait.
use Rattle.std.specs.Prelude.{ℕ, Bool, true, false, Result, Ok, Err}
use Rattle.sh_pipe.specs.declared.PipeFault.{PipeFault}
use Rattle.sh_pipe.specs.declared.PipeFault.TheVariants as pipe
use Rattle.sh_kernel_descriptors.specs.declared.fault.KernelFault.{KernelFault}
use Rattle.sh_kernel_descriptors.specs.declared.fault.KernelFault.TheVariants.{BadDescriptor, NoProcess, TooManyProcesses, TooManyDescriptors, WouldWait, BrokenPipe, InputOutput, File, NoMemory}

abbrev pub pipe_waits : Result ℕ PipeFault → Bool
pipe_waits (Ok n) = false
pipe_waits (Err pipe.WouldWait) = true
pipe_waits (Err pipe.NoReader) = false

abbrev pub is_wait : KernelFault → Bool
is_wait BadDescriptor = false
is_wait NoProcess = false
is_wait TooManyProcesses = false
is_wait TooManyDescriptors = false
is_wait WouldWait = true
is_wait BrokenPipe = false
is_wait InputOutput = false
is_wait (File fault) = false
is_wait (NoMemory _) = false

-- the call would wait
abbrev pub waits : {A : Type 0} → Result A KernelFault → Bool
waits (Ok a) = false
waits (Err fault) = is_wait fault
