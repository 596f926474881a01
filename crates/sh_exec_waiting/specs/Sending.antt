-- What `kill` sends (XCU kill): a signal is sent to what an operand names, if it names anything; signal 0 is sent to nothing.
use Rattle.std.specs.Prelude.{Bool, false, Option, Some, None, Result, Ok, Err}
use Rattle.std.specs.List.{list_any}
use Rattle.sh_jobs.specs.declared.fault.JobFault.{JobFault}
use Rattle.sh_kernel.specs.Calls.{kill_call}
use Rattle.sh_kernel.specs.State.{KernelState}
use Rattle.sh_kernel_processes.specs.Sending.{reaches}
use Rattle.sh_kernel_processes.specs.declared.target.SignalTarget.{SignalTarget}
use Rattle.sh_signal.specs.declared.signal.Signal.{Signal}

abbrev pub is_reached : KernelState → Result SignalTarget JobFault → Bool
is_reached s (Err fault) = false
is_reached s (Ok target) = list_any (reaches target) s.members

abbrev pub after_sending : KernelState → Option Signal → Result SignalTarget JobFault → KernelState
after_sending s None target = s
after_sending s (Some signal) (Err fault) = s
after_sending s (Some signal) (Ok target) = (kill_call s target signal).after
