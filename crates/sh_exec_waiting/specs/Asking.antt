-- What a shell asks of the kernel for a built-in (XCU read, wait, kill, bg, fg), and what follows the answer.
use Rattle.std.specs.Prelude.{ℕ, List, [], ◌∷◌, Ok, Option, Some, None, option_map}
use Rattle.sh_builtin_asking.specs.declared.answer.Answer.{Answer}
use Rattle.sh_builtin_asking.specs.declared.answer.Answer.TheVariants.{Bytes, Ended, Caught, Sent, Continued}
use Rattle.sh_builtin_asking.specs.BuiltIns.{BuiltIn}
use Rattle.sh_builtin_asking.specs.Resuming.{resumed}
use Rattle.sh_builtin_outcome.specs.Rests.{asker_of}
use Rattle.sh_builtin_outcome.specs.declared.builtin.Builtin.{Builtin}
use Rattle.sh_builtin_outcome.specs.declared.rest.BuiltinRest.{BuiltinRest}
use Rattle.sh_builtin_outcome.specs.declared.rest.BuiltinRest.TheVariants.{Reads, Waits, Kills, Continues}
use Rattle.sh_builtin_outcome.specs.declared.rest.Continuation.{Continuation}
use Rattle.sh_builtin_outcome.specs.declared.rest.Continuation.TheVariants.{Background, Foreground}
use Rattle.sh_builtin_jobs.specs.declared.continuing.ContinuedJob.{ContinuedJob}
use Rattle.sh_builtin_shell.specs.declared.shell.Shell.{Shell}
use Rattle.sh_builtin_wait.specs.Waits.{processes_of}
use Rattle.sh_builtin_wait.specs.declared.run.Awaited.{Awaited}
use Rattle.sh_builtin_wait.specs.declared.run.Awaited.TheVariants.{All, Operand}
use Rattle.sh_exec_actions.specs.declared.action.Action.TheVariants.{Asking}
use Rattle.sh_exec_actions.specs.declared.action.Active.TheVariants.{Next}
use Rattle.sh_exec_machine.specs.Transfers.{take_bytes}
use Rattle.sh_exec_machine.specs.Waits.{wait_status}
use Rattle.sh_exec_machine.specs.declared.transfer.ReadOutcome.{ReadOutcome}
use Rattle.sh_exec_machine.specs.declared.transfer.ReadOutcome.TheVariants as taken
use Rattle.sh_exec_signals.specs.ReadLimit.{most_read}
use Rattle.sh_exec_signals.specs.Placed.{Placed, at_place}
use Rattle.sh_exec_signals.specs.Reporting.{behind}
use Rattle.sh_exec_signals.specs.Signals.{pending_signal}
use Rattle.sh_exec_waiting.specs.Sending.{after_sending, is_reached}
use Rattle.sh_kernel.specs.Calls.{after_set_foreground}
use Rattle.sh_kernel.specs.State.{KernelState}
use Rattle.sh_kernel_descriptors.specs.declared.descriptor.DescriptorRef.TheVariants.{Number}
use Rattle.sh_kernel_processes.specs.declared.target.SignalTarget.TheVariants.{Group}
use Rattle.sh_signal.specs.declared.signal.Signal.{Signal}
use Rattle.sh_signal.specs.declared.signal.Signal.TheVariants.{Continue}

-- the machine behind what is asked, and the answer, as soon as there is one
pub record Asked : Type 0 where
  pub after : KernelState
  pub answer : Option Answer

-- ---- read: one read by descriptor 0; one that fails gives no byte
abbrev pub read_answer : ReadOutcome → Option Answer
read_answer (taken.Bytes bytes) = Some (Bytes bytes)
read_answer taken.Wait = None
read_answer taken.Failed = Some (Bytes [])

abbrev pub asked_bytes : KernelState → Shell → Asked
asked_bytes s shell =
    let t = take_bytes s shell.pid (Number 0) (most_read s.machine shell.pid) in record { after = t.after; answer = read_answer t.told }

-- ---- wait: a signal that the shell has caught comes first, also where the processes have ended (2.12)
abbrev pub awaited_processes : Shell → Awaited → List ℕ
awaited_processes shell All = shell.background
awaited_processes shell (Operand wait) = processes_of wait.target

abbrev pub wait_answer : KernelState → Shell → Awaited → Option Signal → Option Answer
wait_answer s shell awaited None = option_map Ended (wait_status s shell.pid (awaited_processes shell awaited))
wait_answer s shell awaited (Some signal) = Some (Caught signal)

-- ---- bg and fg: the group of a job is sent CONT; that of fg is the foreground group before
abbrev pub after_continue : KernelState → (group : ℕ) → KernelState
after_continue s group = after_sending s (Some Continue) (Ok (Group group))

abbrev pub after_first : KernelState → List ContinuedJob → KernelState
after_first s [] = s
after_first s (job ∷ jobs) = after_continue s job.group

abbrev pub after_continuation : KernelState → Continuation → KernelState
after_continuation s (Background jobs messages status) = after_first s jobs
after_continuation s (Foreground job) = after_continue (after_set_foreground s job.group) job.group

-- ---- for a built-in
abbrev pub asked : KernelState → Shell → BuiltinRest → Asked
asked s shell (Reads reader) = asked_bytes s shell
asked s shell (Waits awaited) = record { after = s; answer = wait_answer s shell awaited (pending_signal s shell) }
asked s shell (Kills kill) = record { after = after_sending s kill.send.signal kill.target; answer = Some (Sent (is_reached s kill.target)) }
asked s shell (Continues continuation) = record { after = after_continuation s continuation; answer = Some Continued }

-- ---- behind the answer the built-in does what is left of it; without one the same is asked in the next turn
abbrev pub ran_on : KernelState → Builtin → BuiltIn → Placed
ran_on s builtin b = at_place s b.shell (behind builtin b.outcome)

abbrev pub ask_by : KernelState → Shell → BuiltinRest → Option Answer → Placed
ask_by s shell rest None = at_place s shell (Next (Asking rest))
ask_by s shell rest (Some answer) = ran_on s (asker_of rest) (resumed s shell rest answer)

unfoldable pub ask_turn : KernelState → Shell → BuiltinRest → Placed
ask_turn s shell rest = let a = asked s shell rest in ask_by a.after shell rest a.answer
