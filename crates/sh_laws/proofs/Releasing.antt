-- What a process that an interactive shell makes does with signals is set by requests of that process.
use Rattle.std.proofs.Common.{◌≡◌, ℕ, List, [], ◌∷◌, Bool, true, false, Option, Some, None, refl}
use Rattle.std.specs.Prelude.{if◌then◌else◌}
use Rattle.sh_builtin_environment.specs.TrapMaps.{action_of}
use Rattle.sh_builtin_shell.specs.Shells.{is_interactive}
use Rattle.sh_builtin_shell.specs.declared.shell.Shell.{Shell}
use Rattle.sh_exec_signals.specs.Signals.{after_release, after_releases, own_ignored, released_action}
use Rattle.sh_exec_turns.specs.Groups.{released}
use Rattle.sh_kernel.specs.Requests.{after_requests}
use Rattle.sh_kernel.specs.State.{KernelState}
use Rattle.sh_kernel_processes.specs.declared.member.SignalAction.{SignalAction}
use Rattle.sh_laws.proofs.TurnRequests.{set_requests}
use Rattle.sh_laws.specs.Forking.{after_child}
use Rattle.sh_signal.specs.declared.condition.Condition.TheVariants.{Caught}
use Rattle.sh_signal.specs.declared.signal.Signal.{Signal}

-- a process that a shell makes ignores these signals only where the shell does so by a trap
abbrev settings_of : Shell → List Signal → List (Signal × SignalAction)
settings_of shell [] = []
settings_of shell (signal ∷ others) = (signal, released_action (action_of shell.traps (Caught signal))) ∷ settings_of shell others

abbrev settings_by : (is_interactive : Bool) → Shell → List (Signal × SignalAction)
settings_by true shell = settings_of shell own_ignored
settings_by false shell = []

abbrev pub own_settings : Shell → List (Signal × SignalAction)
own_settings shell = settings_by (is_interactive shell) shell

releases_are : (shell : Shell) (pid : ℕ) (those : List Signal) (s : KernelState)
    → after_releases s shell pid those ≡ after_requests s pid (set_requests (settings_of shell those))
releases_are shell pid [] s = refl
releases_are shell pid (signal ∷ others) s = releases_are shell pid others (after_release s shell pid signal)

own_are : (b : Bool) (shell : Shell) (pid : ℕ) (s : KernelState)
    → (if b then after_releases s shell pid own_ignored else s) ≡ after_requests s pid (set_requests (settings_by b shell))
own_are true shell pid s = releases_are shell pid own_ignored s
own_are false shell pid s = refl

pub released_is : (shell : Shell) (child : Option ℕ) (s : KernelState) → released shell child s ≡ after_child s child (set_requests (own_settings shell))
released_is shell None s = refl
released_is shell (Some child) s = own_are (is_interactive shell) shell child s
