-- Which processes may read the terminal: it belongs to the foreground process group (XBD 11.1.4).
use Rattle.std.specs.Prelude.{ℕ, ◌==◌, ◌||◌, Bool, true, false, not, Option, Some, None, if◌then◌else◌}
use Rattle.sh_kernel_processes.specs.Delivery.{action_of}
use Rattle.sh_kernel_processes.specs.Groups.{ProcessTable, is_orphaned, member_at}
use Rattle.sh_kernel_processes.specs.declared.member.Member.{Member}
use Rattle.sh_kernel_processes.specs.declared.member.SignalAction.{SignalAction}
use Rattle.sh_kernel_processes.specs.declared.member.SignalAction.TheVariants.{Default, Ignored, Caught}
use Rattle.sh_signal.specs.declared.signal.Signal.TheVariants.{TerminalInput}
use Rattle.sh_kernel.specs.declared.access.Access.{Access}
use Rattle.sh_kernel.specs.declared.access.Access.TheVariants.{Granted, Raises, Refused}

-- its group isn't the foreground group
abbrev pub is_in_background : (foreground : ℕ) → Member → Bool
is_in_background foreground m = not (m.group == foreground)

abbrev pub is_ignored : SignalAction → Bool
is_ignored Default = false
is_ignored Ignored = true
is_ignored Caught = false

-- a process of a background group fails to read where it ignores TTIN, or its group is orphaned
abbrev pub may_not_read : ProcessTable → Member → Bool
may_not_read t m = is_ignored (action_of m TerminalInput) || is_orphaned t m.group

-- else its read raises TTIN for its group
abbrev pub background_access : ProcessTable → Member → Access
background_access t m = if may_not_read t m then Refused else Raises m.group

abbrev pub member_access : ProcessTable → (foreground : ℕ) → Option Member → Access
member_access t foreground None = Granted
member_access t foreground (Some m) = if is_in_background foreground m then background_access t m else Granted

-- what the terminal does where this process reads from it
unfoldable pub access_of : ProcessTable → (foreground : ℕ) → (pid : ℕ) → Access
access_of t foreground pid = member_access t foreground (member_at t.members pid)

abbrev pub is_raising : Access → Bool
is_raising Granted = false
is_raising (Raises group) = true
is_raising Refused = false
