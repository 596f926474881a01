-- What follows a write of a shell.
use Rattle.std.specs.Prelude.{ℕ, drop}
use Rattle.sh_builtin_outcome.specs.Builtins.{name_of}
use Rattle.sh_builtin_outcome.specs.declared.outcome.Completion.{Completion}
use Rattle.sh_builtin_outcome.specs.declared.outcome.Completion.TheVariants as completion
use Rattle.sh_builtin_outcome.specs.declared.rest.Continuation.{Continuation}
use Rattle.sh_builtin_outcome.specs.declared.rest.Continuation.TheVariants.{Background, Foreground}
use Rattle.sh_builtin_outcome.specs.declared.outcome.Leave.TheVariants as leave
use Rattle.sh_builtin_outcome.specs.declared.rest.BuiltinRest.{BuiltinRest}
use Rattle.sh_builtin_outcome.specs.declared.rest.BuiltinRest.TheVariants.{Reads, Waits, Kills, Continues}
use Rattle.sh_exec_actions.specs.Statuses.{unexcused}
use Rattle.sh_exec_actions.specs.declared.action.Action.TheVariants.{Writing}
use Rattle.sh_exec_actions.specs.declared.action.Active.{Active}
use Rattle.sh_exec_actions.specs.declared.action.Active.TheVariants.{Next, Done, Leaving}
use Rattle.sh_exec_actions.specs.declared.action.Finish.{Finish}
use Rattle.sh_exec_actions.specs.declared.action.Finish.TheVariants.{Status, Fault, Messages, Output}
use Rattle.sh_exec_signals.specs.Reporting.{reported}
use Rattle.sh_exec_machine.specs.declared.transfer.WriteOutcome.{WriteOutcome}
use Rattle.sh_exec_machine.specs.declared.transfer.WriteOutcome.TheVariants as given
use Rattle.sh_exec_parts.specs.Messages.{message, write_error}
use Rattle.sh_exec_parts.specs.declared.message.Piece.{Piece}

abbrev pub after_writing : Finish → Active
after_writing (Status status) = Done (unexcused status)
after_writing (Fault status) = Leaving (leave.Fault status)
after_writing (Messages report) = reported report
after_writing (Output builtin report) = reported report

-- ---- a built-in whose output can't be written has 1; bg and fg continue their jobs nevertheless, and fg has the status of its job
abbrev pub continued_with : (status : ℕ) → Continuation → Continuation
continued_with status (Background jobs messages before) = Background jobs messages status
continued_with status (Foreground job) = Foreground job

abbrev pub failed_asking : BuiltinRest → Completion
failed_asking (Reads reader) = completion.Done 1
failed_asking (Waits awaited) = completion.Done 1
failed_asking (Kills ask) = completion.Done 1
failed_asking (Continues continuation) = completion.Asks (Continues (continued_with 1 continuation))

abbrev pub failed : Completion → Completion
failed (completion.Done status) = completion.Done 1
failed (completion.Left leave) = completion.Done 1
failed (completion.Runs how text) = completion.Done 1
failed (completion.Asks rest) = failed_asking rest
failed (completion.Foreground wait) = completion.Foreground wait

-- a message that can't be written is dropped; that the output couldn't be written is told before the other messages
abbrev pub unwritten : Finish → Active
unwritten (Status status) = Done (unexcused status)
unwritten (Fault status) = Leaving (leave.Fault status)
unwritten (Messages report) = reported report
unwritten (Output builtin report) =
    Next (Writing (message (write_error (name_of builtin))) (Messages (record report { status = failed report.status })))

-- what is left is still to be written; a process that a signal ended acts no more
abbrev pub written_by : Piece → Finish → WriteOutcome → Active
written_by piece finish given.Whole = after_writing finish
written_by piece finish (given.Part count) = Next (Writing (record piece { bytes = drop count piece.bytes }) finish)
written_by piece finish given.Wait = Next (Writing piece finish)
written_by piece finish given.Failed = unwritten finish
