-- The shell machine: its states, one event, a list of events, and what can be seen of a state.
use Rattle.std.specs.Prelude.{ℕ, ◌==◌, List, [], ◌∷◌, Option, Some, None, find, if◌then◌else◌}
use Rattle.std.specs.Option.{option_and_then, unwrap_or}
use Rattle.sh_builtin_jobs.specs.Listing.{job_lines}
use Rattle.sh_files.specs.Nodes.{FileMap}
use Rattle.sh_jobs.specs.Moments.{brought_up}
use Rattle.sh_jobs.specs.Table.{numbers_of}
use Rattle.sh_jobs.specs.declared.job.Job.{Job}
use Rattle.sh_jobs.specs.declared.line.JobForm.TheVariants.{Long}
use Rattle.sh_kernel.specs.State as kernel
use Rattle.sh_kernel.specs.Calls.{after_key}
use Rattle.sh_kernel.specs.State.{KernelState}
use Rattle.sh_kernel_processes.specs.Processes.{lives, status_at}
use Rattle.sh_kernel_processes.specs.declared.process.Status.{Status}
use Rattle.sh_kernel_processes.specs.declared.process.Status.TheVariants.{Running, Stopped, Exited, Signaled}
use Rattle.sh_stock.specs.Asking.{Meaning}
use Rattle.sh_tty.specs.Happenings.{bytes_of}
use Rattle.sh_exec.specs.Choice.{choice}
use Rattle.sh_exec.specs.Processes.{TasksTurned, living, runnable_pids, turn_among, with_child}
use Rattle.sh_exec.specs.declared.event.Event.{Event}
use Rattle.sh_exec.specs.declared.event.Event.TheVariants.{Run, Next, Key}
use Rattle.sh_exec.specs.Tasks.{first_jobs, first_pid, first_task, pid_of, with_signals_of}
use Rattle.sh_exec.specs.declared.settings.Settings.{Settings}
use Rattle.sh_exec.specs.declared.task.Task.{Task}

-- the machine with its files and its terminal, the processes that live, and which process took a turn last
pub record State (S : Type 0) : Type 0 where
  pub machine : KernelState
  pub tasks : List (Task S)
  pub last : Option ℕ

-- the first process, and what it does with signals
abbrev pub start_of : {S : Type 0} → KernelState → Task S → State S
start_of s task = record { machine = with_signals_of s task; tasks = task ∷ []; last = None }

abbrev pub start : {S : Type 0} → FileMap → Settings → State S
start image settings = start_of (kernel.starting image) (first_task image settings)

-- the process of this pid, as long as it lives
abbrev pub task_of : {S : Type 0} → State S → ℕ → Option (Task S)
task_of s pid = find (λ task. pid_of task == pid) s.tasks

abbrev pub status_of : {S : Type 0} → State S → ℕ → Option Status
status_of s pid = status_at s.machine.machine.processes pid

-- after the first shell's end no process takes a turn; while it is stopped others go on
abbrev pub runnables : {S : Type 0} → State S → List ℕ
runnables s = if lives s.machine.machine.processes first_pid then runnable_pids s.machine s.tasks else []

-- the processes that live after a turn
abbrev pub with_tasks : {S : Type 0} → State S → ℕ → TasksTurned S → State S
with_tasks s pid t = record s {
  machine = t.machine;
  tasks = living t.machine (with_child t.tasks t.child);
  last = Some pid;
}

abbrev pub after_turn : {S : Type 0} → Meaning S → State S → ℕ → State S
after_turn m s pid = with_tasks s pid (turn_among m s.machine pid s.tasks)

abbrev pub turn_of : {S : Type 0} → Meaning S → State S → Option ℕ → State S
turn_of m s None = s
turn_of m s (Some pid) = after_turn m s pid

-- a turn of the process that the event chooses, and nothing where none is runnable
abbrev pub chosen_turn : {S : Type 0} → Meaning S → State S → Event → State S
chosen_turn m s event = turn_of m s (choice event s.last (runnables s))

-- a key comes to the terminal, and may end processes; after the first shell's end it changes nothing
abbrev pub with_key : {S : Type 0} → State S → ℕ → State S
with_key s byte = let machine = after_key s.machine byte in record s { machine = machine; tasks = living machine s.tasks }

abbrev pub typed : {S : Type 0} → State S → ℕ → State S
typed s byte = if lives s.machine.machine.processes first_pid then with_key s byte else s

-- one event
abbrev pub step : {S : Type 0} → Meaning S → State S → Event → State S
step m s (Run place) = chosen_turn m s (Run place)
step m s Next = chosen_turn m s Next
step m s (Key byte) = typed s byte

-- events in order
abbrev pub run : {S : Type 0} → Meaning S → State S → List Event → State S
run m s [] = s
run m s (event ∷ events) = run m (step m s event) events

-- what is seen of a state: the terminal's bytes, the files, the jobs, each process's status, and how the first shell ended
abbrev pub terminal_of : {S : Type 0} → State S → List ℕ
terminal_of s = bytes_of s.machine.terminal

abbrev pub files_of : {S : Type 0} → State S → FileMap
files_of s = s.machine.machine.files

-- the first shell's jobs; none where its process has ended, or runs another program
abbrev pub jobs_of : {S : Type 0} → State S → List Job
jobs_of s = unwrap_or (option_and_then first_jobs (task_of s first_pid)) []

-- their lines, as `jobs -l` writes them
abbrev pub lines_of : KernelState → List Job → List ℕ
lines_of s jobs = job_lines s.machine.processes jobs Long (numbers_of jobs)

abbrev pub job_lines_of : {S : Type 0} → State S → List ℕ
job_lines_of s = lines_of s.machine (brought_up s.machine.changes (jobs_of s))

abbrev pub end_of : Option Status → Option Status
end_of None = None
end_of (Some Running) = None
end_of (Some (Stopped signal)) = None
end_of (Some (Exited status)) = Some (Exited status)
end_of (Some (Signaled signal)) = Some (Signaled signal)

abbrev pub ended_of : {S : Type 0} → State S → Option Status
ended_of s = end_of (status_of s first_pid)
