-- What a built-in leaves, and how those begin that ask the kernel something.
use Rattle.std.specs.Prelude.{ℕ, List, [], ◌∷◌, Result, Ok, Err}
use Rattle.sh_builtin_environment.specs.declared.outcome.BuiltinFault.{BuiltinFault}
use Rattle.sh_builtin_jobs.specs.Continuing.{bg_of, fg_of}
use Rattle.sh_builtin_jobs.specs.KillRuns.{kill_start}
use Rattle.sh_builtin_jobs.specs.KillWords.{kill_of}
use Rattle.sh_builtin_jobs.specs.SignalWords.{signal_line, signal_lines}
use Rattle.sh_builtin_jobs.specs.declared.command.KillCommand.{KillCommand}
use Rattle.sh_builtin_jobs.specs.declared.command.KillCommand.TheVariants as command
use Rattle.sh_builtin_jobs.specs.declared.continuing.BackgroundJobs.{BackgroundJobs}
use Rattle.sh_builtin_jobs.specs.declared.continuing.ContinuedJob.{ContinuedJob}
use Rattle.sh_builtin_jobs.specs.declared.continuing.ForegroundJob.{ForegroundJob}
use Rattle.sh_builtin_jobs.specs.declared.run.KillStep.{KillStep}
use Rattle.sh_builtin_jobs.specs.declared.run.KillStep.TheVariants as kill
use Rattle.sh_builtin_jobs.specs.declared.target.JobControl.{JobControl}
use Rattle.sh_builtin_wait.specs.declared.run.Awaited.TheVariants as awaited
use Rattle.sh_builtin_outcome.specs.Outcomes.{continuing, killing, output, reading, refusal, refused_with, saying, waiting}
use Rattle.sh_builtin_wait.specs.declared.command.WaitStart.{WaitStart}
use Rattle.sh_builtin_wait.specs.declared.command.WaitStart.TheVariants as start
use Rattle.sh_builtin_wait.specs.declared.run.WaitStep.{WaitStep}
use Rattle.sh_builtin_wait.specs.declared.run.WaitStep.TheVariants as step
use Rattle.sh_builtin_wait.specs.Waits.{wait_of}
use Rattle.sh_builtin_outcome.specs.declared.builtin.Builtin.TheVariants.{Kill, Read, Wait}
use Rattle.sh_builtin_outcome.specs.declared.outcome.Outcome.{Outcome}
use Rattle.sh_builtin_outcome.specs.declared.rest.Continuation.TheVariants.{Background, Foreground}
use Rattle.sh_builtin_regular.specs.declared.reader.LineReader.{LineReader}
use Rattle.sh_builtin_shell.specs.Shells.{has_job_control, own_group}
use Rattle.sh_builtin_shell.specs.declared.shell.Shell.{Shell}
use Rattle.sh_kernel.specs.State.{KernelState}
use Rattle.sh_vars.specs.Environment.{Environment}

-- the shell after a built-in, and what that comes to
pub record BuiltIn : Type 0 where
  pub shell : Shell
  pub outcome : Outcome

abbrev pub with_outcome : Shell → Outcome → BuiltIn
with_outcome shell outcome = record { shell = shell; outcome = outcome }

-- a shell with these variables
abbrev pub with_vars : Shell → Environment → Shell
with_vars shell env = record shell { vars = env }

-- ---- read has the line read that its arguments ask for
abbrev pub read_outcome : Result LineReader BuiltinFault → Outcome
read_outcome (Ok reader) = reading reader
read_outcome (Err why) = refusal Read why

-- ---- bg writes a line for each job that its operands name, and then these go on; where they name none nothing does (XCU bg)
abbrev pub background_by : BackgroundJobs → (jobs : List ContinuedJob) → Outcome
background_by background [] = saying background.out background.messages background.status
background_by background (job ∷ jobs) = continuing background.out (Background (job ∷ jobs) background.messages background.status)

abbrev pub background_outcome : Result BackgroundJobs (List ℕ) → Outcome
background_outcome (Ok background) = background_by background background.continued
background_outcome (Err line) = refused_with line

abbrev pub bg_ran : KernelState → Shell → List (List ℕ) → BuiltIn
bg_ran s shell arguments =
    with_outcome shell (background_outcome (bg_of (has_job_control shell) s.machine.processes shell.jobs arguments))

-- ---- fg writes the text of the job that its operand names, and then that goes on (XCU fg)
abbrev pub foreground_outcome : Result ForegroundJob (List ℕ) → Outcome
foreground_outcome (Ok job) = continuing job.out (Foreground job.continued)
foreground_outcome (Err line) = refused_with line

abbrev pub fg_ran : KernelState → Shell → List (List ℕ) → BuiltIn
fg_ran s shell arguments =
    with_outcome shell (foreground_outcome (fg_of (has_job_control shell) s.machine.processes shell.jobs arguments))

-- ---- wait waits for what its operands name, or for all processes that the shell knows
abbrev pub wait_step : WaitStep → Outcome
wait_step (step.Over report) = saying [] report.messages report.status
wait_step (step.Waits operand) = waiting (awaited.Operand operand)

abbrev pub wait_start : WaitStart → Outcome
wait_start start.All = waiting awaited.All
wait_start (start.Step next) = wait_step next

abbrev pub wait_outcome : Result WaitStart BuiltinFault → Outcome
wait_outcome (Ok start) = wait_start start
wait_outcome (Err why) = refusal Wait why

abbrev pub wait_ran : KernelState → Shell → List (List ℕ) → BuiltIn
wait_ran s shell arguments = with_outcome shell (wait_outcome (wait_of s.machine.processes shell.jobs shell.known arguments))

-- ---- kill writes names, or has signals sent (XCU kill)
abbrev pub control_of : KernelState → Shell → JobControl
control_of s shell = record { is_on = has_job_control shell; own_group = own_group s shell.pid }

abbrev pub kill_step : KillStep → Outcome
kill_step (kill.Asks ask) = killing ask
kill_step (kill.Over report) = saying [] report.messages report.status

abbrev pub kill_does : KernelState → Shell → KillCommand → Outcome
kill_does s shell command.Names = output signal_lines
kill_does s shell (command.Name signal) = output (signal_line signal)
kill_does s shell (command.Send send) = kill_step (kill_start (control_of s shell) s.machine.processes shell.jobs send)

abbrev pub kill_outcome : KernelState → Shell → Result KillCommand BuiltinFault → Outcome
kill_outcome s shell (Ok asked) = kill_does s shell asked
kill_outcome s shell (Err why) = refusal Kill why

abbrev pub kill_ran : KernelState → Shell → List (List ℕ) → BuiltIn
kill_ran s shell arguments = with_outcome shell (kill_outcome s shell (kill_of arguments))
