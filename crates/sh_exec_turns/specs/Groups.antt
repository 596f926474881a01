-- What becomes of a process that a shell has made: its group, the foreground group of the terminal, and the signals that it ignores.
use Rattle.std.specs.Prelude.{ℕ, List, [], ◌∷◌, Bool, true, false, Option, Some, None}
use Rattle.sh_builtin_shell.specs.Shells.{has_job_control}
use Rattle.sh_builtin_shell.specs.declared.shell.Shell.{Shell}
use Rattle.sh_exec_machine.specs.Forking.{Forked}
use Rattle.sh_exec_settling.specs.Signals.{after_own_signals}
use Rattle.sh_exec_waiting.specs.Waiting.{terminal_back}
use Rattle.sh_kernel.specs.Calls.{after_set_action, after_set_foreground, after_set_group}
use Rattle.sh_kernel.specs.State.{KernelState}
use Rattle.sh_kernel_processes.specs.declared.member.SignalAction.TheVariants.{Ignored}
use Rattle.sh_signal.specs.declared.signal.Signal.TheVariants.{Interrupt, Quit}

-- ---- groups (2.11): with job control the processes of a pipeline are a group, which the first of them names; that is the foreground group
-- of the terminal where the shell waits for them
abbrev pub leader : (before : List ℕ) → (child : ℕ) → ℕ
leader [] child = child
leader (first ∷ others) child = first

abbrev pub given_terminal : (is_foreground : Bool) → (before : List ℕ) → (child : ℕ) → KernelState → KernelState
given_terminal true [] child s = after_set_foreground s child
given_terminal true (first ∷ others) child s = s
given_terminal false before child s = s

abbrev pub in_group : (is_foreground : Bool) → (before : List ℕ) → (child : ℕ) → KernelState → KernelState
in_group is_foreground before child s = given_terminal is_foreground before child (after_set_group s child (leader before child))

-- where none could be made the terminal is the shell's again
abbrev pub with_control : (pid : ℕ) → (is_foreground : Bool) → (before : List ℕ) → Option ℕ → KernelState → KernelState
with_control pid is_foreground before None s = terminal_back s pid
with_control pid is_foreground before (Some child) s = in_group is_foreground before child s

-- where there is no job control the processes of an asynchronous list ignore INT and QUIT (2.12)
abbrev pub ignoring_keys : KernelState → (pid : ℕ) → KernelState
ignoring_keys s pid = after_set_action (after_set_action s pid Interrupt Ignored) pid Quit Ignored

abbrev pub without_control : (is_foreground : Bool) → Option ℕ → KernelState → KernelState
without_control true child s = s
without_control false None s = s
without_control false (Some child) s = ignoring_keys s child

-- behind the fork of a process, after those of the same pipeline
abbrev pub behind_fork_by : (control : Bool) → (pid : ℕ) → (is_foreground : Bool) → (before : List ℕ) → Option ℕ → KernelState → KernelState
behind_fork_by true pid is_foreground before child s = with_control pid is_foreground before child s
behind_fork_by false pid is_foreground before child s = without_control is_foreground child s

-- a process doesn't ignore what an interactive shell ignores by itself (2.11)
abbrev pub released : Shell → Option ℕ → KernelState → KernelState
released shell None s = s
released shell (Some child) s = after_own_signals s shell child

abbrev pub released_fork : Shell → Forked → Forked
released_fork shell f = record f { after = released shell f.child f.after }

abbrev pub behind_fork : Shell → (is_foreground : Bool) → (before : List ℕ) → Option ℕ → KernelState → KernelState
behind_fork shell is_foreground before child s = behind_fork_by (has_job_control shell) shell.pid is_foreground before child (released shell child s)
