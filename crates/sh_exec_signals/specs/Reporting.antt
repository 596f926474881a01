-- What a built-in says behind its act, and how it ends then.
use Rattle.std.specs.Prelude.{ℕ, List, [], ◌∷◌}
use Rattle.sh_builtin_outcome.specs.declared.builtin.Builtin.{Builtin}
use Rattle.sh_builtin_outcome.specs.declared.outcome.Completion.{Completion}
use Rattle.sh_builtin_outcome.specs.declared.outcome.Completion.TheVariants as completion
use Rattle.sh_builtin_outcome.specs.declared.outcome.Outcome.{Outcome}
use Rattle.sh_exec_actions.specs.Statuses.{unexcused}
use Rattle.sh_exec_actions.specs.declared.action.Action.TheVariants.{Asking, WaitForJob, Writing}
use Rattle.sh_exec_actions.specs.declared.action.Active.{Active}
use Rattle.sh_exec_actions.specs.declared.action.Active.TheVariants.{Evaluating, Next, Done, Leaving}
use Rattle.sh_exec_actions.specs.declared.action.Finish.TheVariants.{Messages, Output}
use Rattle.sh_exec_actions.specs.declared.action.Report.{Report}

abbrev pub at_completion : Completion → Active
at_completion (completion.Done status) = Done (unexcused status)
at_completion (completion.Left leave) = Leaving leave
at_completion (completion.Runs how text) = Evaluating how text
at_completion (completion.Asks rest) = Next (Asking rest)
at_completion (completion.Foreground wait) = Next (WaitForJob wait)

-- ---- its messages are written to descriptor 2, each in a turn of its own, and then it ends
abbrev pub said : List (List ℕ) → Completion → Active
said [] status = at_completion status
said (message ∷ messages) status =
    Next (Writing (record { descriptor = 2; bytes = message }) (Messages (record { messages = messages; status = status })))

abbrev pub reported : Report → Active
reported report = said report.messages report.status

-- ---- before them its output is written to descriptor 1; where there is none, this takes no turn
abbrev pub output_of : Builtin → List ℕ → Report → Active
output_of builtin [] report = reported report
output_of builtin (byte ∷ bytes) report = Next (Writing (record { descriptor = 1; bytes = byte ∷ bytes }) (Output builtin report))

-- ---- what follows its outcome
abbrev pub behind : Builtin → Outcome → Active
behind builtin outcome = output_of builtin outcome.out (record { messages = outcome.err; status = outcome.status })
