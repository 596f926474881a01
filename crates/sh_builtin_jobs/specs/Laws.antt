-- Laws of `kill`: whatever is answered, each operand is served; and the names and numbers that it lists are those that it takes.
use Rattle.std.specs.Prelude.{◌≡◌, ℕ, ◌+◌, List, [], ◌∷◌, ◌++◌, Bool, Some, Ok, length}
use Rattle.sh_builtin_jobs.specs.KillRuns.{kill_next, kill_start, kill_status, said_of, with_message}
use Rattle.sh_builtin_jobs.specs.KillTargets.{kill_target}
use Rattle.sh_builtin_jobs.specs.SignalWords.{sent_by_name, sent_by_option, signal_of_status}
use Rattle.sh_builtin_jobs.specs.declared.command.KillSend.{KillSend}
use Rattle.sh_builtin_jobs.specs.declared.run.KillReport.{KillReport}
use Rattle.sh_builtin_jobs.specs.declared.run.KillStep.{KillStep}
use Rattle.sh_builtin_jobs.specs.declared.run.KillStep.TheVariants.{Asks, Over}
use Rattle.sh_builtin_jobs.specs.declared.target.JobControl.{JobControl}
use Rattle.sh_jobs.specs.declared.job.Job.{Job}
use Rattle.sh_kernel_processes.specs.declared.process.Process.{Process}
use Rattle.sh_signal.specs.Signals.{name_of, number_of}
use Rattle.sh_signal.specs.declared.signal.Signal.{Signal}

-- ---- an answer, and what there is by then: the next operand is looked up in that
pub record Answer : Type 0 where
  pub is_reached : Bool
  pub processes : List Process
  pub jobs : List Job

-- one answer after the other is given
abbrev pub run_on : JobControl → KillStep → List Answer → KillStep
run_on control step [] = step
run_on control (Over report) (answer ∷ answers) = Over report
run_on control (Asks ask) (answer ∷ answers) =
    run_on control (kill_next control answer.processes answer.jobs ask answer.is_reached) answers

-- what is said of the operands, from the left
abbrev pub said_of_each : JobControl → List Process → List Job → (operands : List (List ℕ)) → List Answer → List (List ℕ)
said_of_each control ps jobs [] answers = []
said_of_each control ps jobs (word ∷ words) [] = []
said_of_each control ps jobs (word ∷ words) (answer ∷ answers) =
    with_message [] word (said_of (kill_target control ps jobs word) answer.is_reached)
    ++ said_of_each control answer.processes answer.jobs words answers

abbrev pub report_with : (messages : List (List ℕ)) → KillReport
report_with messages = record { messages = messages; status = kill_status messages }

-- once there was an answer for each operand, it is over, with the messages about those that reached nothing
abbrev pub EachIsServed : Type 0
EachIsServed =
    (control : JobControl) (ps : List Process) (jobs : List Job) (send : KillSend) (answers : List Answer)
    → length answers ≡ length send.operands
    → run_on control (kill_start control ps jobs send) answers ≡ Over (report_with (said_of_each control ps jobs send.operands answers))

-- ---- the name of a signal names it, behind -s and behind a hyphen
abbrev pub NamesAreTaken : Type 0
NamesAreTaken =
    (word : List ℕ) (signal : Signal)
    → (sent_by_name word (name_of signal) ≡ Ok (Some signal)) × (sent_by_option word (name_of signal) ≡ Ok (Some signal))

-- ---- its number, and the exit status of a process that it ended, give its name
abbrev pub StatusesAreRead : Type 0
StatusesAreRead =
    (signal : Signal) → (signal_of_status (number_of signal) ≡ Some signal) × (signal_of_status (128 + number_of signal) ≡ Some signal)
