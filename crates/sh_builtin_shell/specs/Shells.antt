-- A shell, the process in which it is, and the processes and jobs of its asynchronous lists.
use Rattle.std.specs.Prelude.{ℕ, List, [], ◌++◌, ◌==◌, ◌-◌, ◌&&◌, Bool, true, false, not, Option, Some, None, filter, length, slice_get, unwrap_or}
use Rattle.std.specs.List.{list_any}
use Rattle.std.specs.Option.{option_map_or}
use Rattle.sh_builtin_environment.specs.TrapMaps.{in_subshell}
use Rattle.sh_builtin_shell.specs.declared.shell.Shell.{Shell}
use Rattle.sh_jobs.specs.Moments.{brought_up, latest}
use Rattle.sh_jobs.specs.Table.{with_launch, without}
use Rattle.sh_jobs.specs.declared.state.JobState.{JobState}
use Rattle.sh_jobs.specs.declared.state.JobState.TheVariants.{Running}
use Rattle.sh_jobs.specs.State.{KernelState}
use Rattle.sh_kernel_processes.specs.Groups.{member_at}
use Rattle.sh_vars.specs.Environment.{Environment, with_background}

-- ---- the shell of a process that another one made
-- it has the same environment, but of the traps only those that ignore signals (XCU 2.13); it knows no processes, and has no jobs
abbrev pub forked_shell : ℕ → Shell → Shell
forked_shell pid shell = record shell { pid = pid; traps = in_subshell shell.traps; known = []; background = []; jobs = []; is_first = false }

-- ---- an asynchronous list was started (XCU 2.9.3.1)
abbrev pub last_of : List ℕ → Option ℕ
last_of pids = slice_get pids (length pids - 1)

-- `$!` is the last process of the list (2.5.2)
abbrev pub with_last : Environment → Option ℕ → Environment
with_last env None = env
with_last env (Some pid) = with_background env pid

-- the group of a shell's process
abbrev pub own_group : KernelState → (pid : ℕ) → ℕ
own_group s pid = option_map_or (λ m. m.group) (member_at s.members pid) 0

-- ---- interactive shells (2.1, sh -i): the first shell alone, while the option is on
abbrev pub is_interactive : Shell → Bool
is_interactive shell = shell.is_first && shell.vars.options.interactive

-- ---- job control (XCU 2.11): the first shell has it, while `-m` is on
abbrev pub has_job_control : Shell → Bool
has_job_control shell = shell.is_first && shell.vars.options.monitor

-- with it the first of a job's processes names their group; without it they are in the shell's
abbrev pub group_by : (control : Bool) → KernelState → (pid : ℕ) → (pids : List ℕ) → ℕ
group_by true s pid pids = unwrap_or (slice_get pids 0) 0
group_by false s pid pids = own_group s pid

abbrev pub job_group : KernelState → Shell → (pids : List ℕ) → ℕ
job_group s shell pids = group_by (has_job_control shell) s shell.pid pids

-- the shell knows the processes of the list until it has waited for them (XCU wait), and the list is a job with this text (XBD chapter 3, Job)
abbrev pub after_launch : KernelState → Shell → (text : List ℕ) → (pids : List ℕ) → Shell
after_launch s shell text pids = record shell {
  vars = with_last shell.vars (last_of pids);
  known = shell.known ++ pids;
  background = shell.background ++ pids;
  jobs = with_launch shell.jobs (job_group s shell pids) pids text (Some Running) (latest s.changes pids);
}

-- ---- a pipeline for which it waited was suspended (XCU 2.11): it becomes a job, of which this state is told at once, and `wait` knows its
-- processes by their numbers
abbrev pub after_suspension : KernelState → Shell → (text : List ℕ) → (pids : List ℕ) → JobState → Shell
after_suspension s shell text pids state = record shell {
  known = shell.known ++ pids;
  jobs = with_launch shell.jobs (job_group s shell pids) pids text (Some state) (latest s.changes pids);
}

-- ---- when its jobs last changed is read off the kernel
abbrev pub up_to_date : KernelState → Shell → Shell
up_to_date s shell = record shell { jobs = brought_up s.changes shell.jobs }

-- ---- it has waited for a process, for a job, or for all processes that it knows (XCU wait)
abbrev pub all_but : ℕ → List ℕ → List ℕ
all_but pid known = filter (λ process. not (process == pid)) known

abbrev pub without_process : Shell → ℕ → Shell
without_process shell pid = record shell { known = all_but pid shell.known; background = all_but pid shell.background }

abbrev pub all_but_those : (pids : List ℕ) → List ℕ → List ℕ
all_but_those pids known = filter (λ process. not (list_any (λ pid. process == pid) pids)) known

-- ---- a job goes on in the background (XCU bg): its processes are known as if it had been started as an asynchronous list
abbrev pub in_background : Shell → (pids : List ℕ) → Shell
in_background shell pids = record shell {
  known = all_but_those pids shell.known ++ pids;
  background = all_but_those pids shell.background ++ pids;
}

-- ---- a job goes on in the foreground (XCU fg): its processes aren't known any more
abbrev pub in_foreground : Shell → (pids : List ℕ) → Shell
in_foreground shell pids = record shell {
  known = all_but_those pids shell.known;
  background = all_but_those pids shell.background;
}

-- ---- a job goes with its processes
abbrev pub without_job : Shell → (number : ℕ) → (pids : List ℕ) → Shell
without_job shell number pids = record shell {
  known = all_but_those pids shell.known;
  background = all_but_those pids shell.background;
  jobs = without shell.jobs number;
}

-- all of its asynchronous lists; the jobs stay, to be told
abbrev pub without_background : Shell → Shell
without_background shell = record shell { known = all_but_those shell.background shell.known; background = [] }
