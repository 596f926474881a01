-- The signals of a shell's process: what it does with those whose traps are set (XCU 2.15 trap), and the trap that is taken next.
use Rattle.std.specs.Prelude.{ℕ, List, [], ◌∷◌, ◌&&◌, Bool, true, false, nat_eq, not, Option, Some, None, if◌then◌else◌}
use Rattle.std.specs.Option.{is_some, option_and_then, option_map_or}
use Rattle.sh_builtin_shell.specs.Shells.{has_job_control, is_interactive}
use Rattle.sh_builtin_shell.specs.declared.shell.Shell.{Shell}
use Rattle.sh_builtin_environment.specs.TrapMaps.{action_of}
use Rattle.sh_kernel.specs.Calls.{after_set_action}
use Rattle.sh_kernel.specs.State.{KernelState}
use Rattle.sh_kernel_processes.specs.Changes.{next_pending}
use Rattle.sh_kernel_processes.specs.Groups.{member_at}
use Rattle.sh_kernel_processes.specs.Sets.{has, no_signals, with_signal}
use Rattle.sh_kernel_processes.specs.declared.member.SignalAction.{SignalAction}
use Rattle.sh_kernel_processes.specs.declared.member.SignalAction.TheVariants.{Default, Ignored, Caught}
use Rattle.sh_kernel_processes.specs.declared.set.SignalSet.{SignalSet}
use Rattle.sh_signal.specs.Signals.{number_of, signals}
use Rattle.sh_signal.specs.declared.condition.Condition.TheVariants as condition
use Rattle.sh_signal.specs.declared.signal.Signal.{Signal}
use Rattle.sh_signal.specs.declared.signal.Signal.TheVariants.{Hangup, Interrupt, Quit, Abort, Kill, User1, User2, Pipe, Alarm, Terminate, Child, Continue, Stop, TerminalStop, TerminalInput, TerminalOutput}

-- ---- what a shell does by itself with a signal on which it has no trap. An interactive one catches INT, and ignores QUIT and TERM (sh, ASYNCHRONOUS
-- EVENTS), and with job control those by which the terminal would stop it (2.11)
abbrev pub stop_action : (control : Bool) → SignalAction
stop_action true = Ignored
stop_action false = Default

abbrev pub interactive_action : (control : Bool) → Signal → SignalAction
interactive_action control Hangup = Default
interactive_action control Interrupt = Caught
interactive_action control Quit = Ignored
interactive_action control Abort = Default
interactive_action control Kill = Default
interactive_action control User1 = Default
interactive_action control User2 = Default
interactive_action control Pipe = Default
interactive_action control Alarm = Default
interactive_action control Terminate = Ignored
interactive_action control Child = Default
interactive_action control Continue = Default
interactive_action control Stop = Default
interactive_action control TerminalStop = stop_action control
interactive_action control TerminalInput = stop_action control
interactive_action control TerminalOutput = stop_action control

abbrev pub own_action : Shell → Signal → SignalAction
own_action shell signal = if is_interactive shell then interactive_action (has_job_control shell) signal else Default

-- ---- traps
-- a signal with an action is caught, one with an empty action is ignored
abbrev pub signal_action : SignalAction → Option (List ℕ) → SignalAction
signal_action own None = own
signal_action own (Some []) = Ignored
signal_action own (Some (byte ∷ bytes)) = Caught

abbrev pub after_trap_set : KernelState → Shell → Signal → KernelState
after_trap_set s shell signal =
    after_set_action s shell.pid signal (signal_action (own_action shell signal) (action_of shell.traps (condition.Caught signal)))

abbrev pub after_trap_in : (set : SignalSet) → KernelState → Shell → Signal → KernelState
after_trap_in set s shell signal = if has set signal then after_trap_set s shell signal else s

abbrev pub after_traps_in : (set : SignalSet) → KernelState → Shell → List Signal → KernelState
after_traps_in set s shell [] = s
after_traps_in set s shell (signal ∷ others) = after_traps_in set (after_trap_in set s shell signal) shell others

-- the traps of these signals were set in a shell
unfoldable pub after_traps : KernelState → Shell → (set : SignalSet) → KernelState
after_traps s shell set = after_traps_in set s shell signals

-- what a shell does with signals as it starts
abbrev pub own_signals : SignalSet
own_signals =
    with_signal (with_signal (with_signal (with_signal (with_signal (with_signal no_signals Interrupt) Quit) Terminate) TerminalStop) TerminalInput) TerminalOutput

abbrev pub after_start_of : KernelState → Shell → KernelState
after_start_of s shell = after_traps s shell own_signals

-- ---- what an interactive shell ignores by itself, the processes that it makes and the program that takes its place don't; what it ignores by a
-- trap they do
abbrev pub own_ignored : List Signal
own_ignored = Quit ∷ Terminate ∷ TerminalStop ∷ TerminalInput ∷ TerminalOutput ∷ []

abbrev pub released_action : Option (List ℕ) → SignalAction
released_action None = Default
released_action (Some []) = Ignored
released_action (Some (byte ∷ bytes)) = Default

abbrev pub after_release : KernelState → Shell → (pid : ℕ) → Signal → KernelState
after_release s shell pid signal = after_set_action s pid signal (released_action (action_of shell.traps (condition.Caught signal)))

abbrev pub after_releases : KernelState → Shell → (pid : ℕ) → List Signal → KernelState
after_releases s shell pid [] = s
after_releases s shell pid (signal ∷ others) = after_releases (after_release s shell pid signal) shell pid others

abbrev pub after_own_signals : KernelState → Shell → (pid : ℕ) → KernelState
after_own_signals s shell pid = if is_interactive shell then after_releases s shell pid own_ignored else s

-- ---- a signal that the shell has caught, and for which it hasn't done its action: the one with the lowest number
abbrev pub pending_signal : KernelState → Shell → Option Signal
pending_signal s shell = next_pending s.members shell.pid

-- the action that it does for that signal
unfoldable pub pending_action : KernelState → Shell → Option (List ℕ)
pending_action s shell = option_and_then (λ signal. action_of shell.traps (condition.Caught signal)) (pending_signal s shell)

-- ---- INT without a trap: an interactive shell drops what it does (sh, ASYNCHRONOUS EVENTS)
abbrev pub is_interrupt_pending : KernelState → Shell → Bool
is_interrupt_pending s shell = option_map_or (λ m. has m.pending Interrupt) (member_at s.members shell.pid) false

abbrev pub is_dropping : KernelState → Shell → Bool
is_dropping s shell = is_interactive shell && is_interrupt_pending s shell && not (is_some (action_of shell.traps (condition.Caught Interrupt)))

-- whether no signal with a lower number comes before it
abbrev pub is_interrupt : Option Signal → Bool
is_interrupt None = false
is_interrupt (Some signal) = nat_eq (number_of signal) (number_of Interrupt)

abbrev pub is_interrupt_next : KernelState → Shell → Bool
is_interrupt_next s shell = is_interrupt (pending_signal s shell)

-- by that it is done with: a signal whose action is set anew isn't pending any more
unfoldable pub after_drop : KernelState → Shell → KernelState
after_drop s shell = after_set_action (after_set_action s shell.pid Interrupt Default) shell.pid Interrupt Caught
