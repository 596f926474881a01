-- Processes: their numbers, the first shell, and the running forms of a shell.
use Rattle.std.specs.Prelude.{◌≡◌, ℕ, List, [], reverse, true, Option, Some, None, if◌then◌else◌}
use Rattle.sh_aliases.specs.Aliases.{no_aliases}
use Rattle.sh_builtin_environment.specs.TrapMaps.{none_set}
use Rattle.sh_exec.specs.Scripts.{script_place}
use Rattle.sh_exec.specs.declared.settings.Settings.{Settings}
use Rattle.sh_exec.specs.declared.settings.Source.{Source}
use Rattle.sh_exec.specs.declared.settings.Source.TheVariants.{Text, Script, Terminal}
use Rattle.sh_exec.specs.declared.task.Task.{Task}
use Rattle.sh_exec.specs.declared.task.Task.TheVariants.{Runs, Asks}
use Rattle.sh_exec_actions.specs.declared.action.Active.TheVariants.{Next}
use Rattle.sh_exec_actions.specs.declared.action.Action.{Action}
use Rattle.sh_exec_actions.specs.Beginnings.{not_begun}
use Rattle.sh_exec_actions.specs.declared.action.Action.TheVariants.{Prompting, Reading}
use Rattle.sh_builtin_shell.specs.Shells.{is_interactive}
use Rattle.sh_builtin_shell.specs.declared.shell.Shell.{Shell}
use Rattle.sh_exec_shell.specs.Signals.{after_start_of}
use Rattle.sh_exec_shell.specs.Frames.{forms_in}
use Rattle.sh_exec_shell.specs.Stacks as shell
use Rattle.sh_exec_shell.specs.Stacks.{run_of}
use Rattle.sh_exec_shell.specs.Running.{At, active_of}
use Rattle.sh_exec_actions.specs.declared.form.Frame.{Frame}
use Rattle.sh_files.specs.Nodes.{FileMap}
use Rattle.sh_jobs.specs.declared.job.Job.{Job}
use Rattle.sh_kernel.specs.State.{KernelState}
use Rattle.sh_kernel_processes.specs.Sets.{no_signals}
use Rattle.sh_vars.specs.Environment.{Environment, with_options, with_positional, with_zero}
use Rattle.sh_vars.specs.Starting.{starting}
use Rattle.sh_vars.specs.declared.shell_options.Options.{Options}

-- the number of a process
abbrev pub pid_of : {S : Type 0} → Task S → ℕ
pid_of (Runs interpreter) = interpreter.shell.pid
pid_of (Asks pid ask program) = pid

-- ---- the first shell
abbrev pub first_pid : ℕ
first_pid = 100

-- a shell that reads the terminal is interactive
abbrev pub options_of : Source → Options → Options
options_of (Text bytes) options = options
options_of (Script path) options = options
options_of Terminal options = record options { interactive = true }

-- its environment: its `$0`, positional parameters and options are the settings'
abbrev pub environment_of : Settings → Environment
environment_of settings =
    with_options (with_positional (with_zero starting settings.zero) settings.args) (options_of settings.source settings.options)

-- it begins to read its text, or its script in the image
abbrev pub first_place : FileMap → Source → Action
first_place image (Text bytes) = Reading bytes 0
first_place image (Script path) = script_place image path
first_place image Terminal = Prompting (not_begun [])

-- it is before its first action
abbrev pub first_task : {S : Type 0} → FileMap → Settings → Task S
first_task image settings = Runs (record {
  shell = record { pid = first_pid; vars = environment_of settings; functions = []; aliases = no_aliases; traps = none_set; known = []; background = []; jobs = []; is_first = true; fixed = no_signals };
  run = At (Next (first_place image settings.source));
})

-- what its process does with signals: an interactive shell catches INT, and ignores others (2.11)
abbrev pub signals_of_shell : KernelState → Shell → KernelState
signals_of_shell s shell = if is_interactive shell then after_start_of s shell else s

abbrev pub with_signals_of : {S : Type 0} → KernelState → Task S → KernelState
with_signals_of s (Runs interpreter) = signals_of_shell s interpreter.shell
with_signals_of s (Asks pid ask program) = s

-- ---- the jobs of the first shell
abbrev pub jobs_of_first : Shell → Option (List Job)
jobs_of_first shell = if shell.is_first then Some shell.jobs else None

abbrev pub first_jobs : {S : Type 0} → Task S → Option (List Job)
first_jobs (Runs interpreter) = jobs_of_first interpreter.shell
first_jobs (Asks pid ask program) = None

-- ---- the running forms of a shell, the outermost first
abbrev pub frames_of : {S : Type 0} → Task S → List Frame
frames_of (Runs interpreter) = shell.frames_of interpreter.run
frames_of (Asks pid ask program) = []

-- forms, the outermost first, are those round the place of a shell: with that place they are the whole of what it runs. None are round a program
abbrev pub AreRound : {S : Type 0} → List Frame → Task S → Type 0
AreRound frames (Runs interpreter) = run_of (forms_in (reverse frames)) (active_of interpreter.run) ≡ interpreter.run
AreRound frames (Asks pid ask program) = frames ≡ []
