-- What one signal does to one process (XSH 2.4).
use Rattle.std.specs.Prelude.{List, [], ◌∷◌, ◌||◌, Bool, true, false, not, if◌then◌else◌, nat_eq}
use Rattle.sh_kernel_processes.specs.declared.process.Status.{Status}
use Rattle.sh_kernel_processes.specs.declared.process.Status.TheVariants.{Running, Stopped, Exited, Signaled}
use Rattle.sh_kernel_processes.specs.Sets.{has, no_signals, with_signal}
use Rattle.sh_kernel_processes.specs.declared.delivery.Recipient.{Recipient}
use Rattle.sh_kernel_processes.specs.declared.member.Member.{Member}
use Rattle.sh_kernel_processes.specs.declared.member.SignalAction.{SignalAction}
use Rattle.sh_kernel_processes.specs.declared.member.SignalAction.TheVariants.{Default, Ignored, Caught}
use Rattle.sh_kernel_processes.specs.declared.set.SignalSet.{SignalSet}
use Rattle.sh_signal.specs.Signals.{default_of, number_of, signals}
use Rattle.sh_signal.specs.declared.signal.DefaultAction.{DefaultAction}
use Rattle.sh_signal.specs.declared.signal.DefaultAction.TheVariants as default
use Rattle.sh_signal.specs.declared.signal.Signal.{Signal}
use Rattle.sh_signal.specs.declared.signal.Signal.TheVariants.{Continue, Kill, Stop}

abbrev pub is_same : Signal → Signal → Bool
is_same one other = nat_eq (number_of one) (number_of other)

-- ---- the action of a signal
abbrev pub action_by : (ignored : Bool) → (caught : Bool) → SignalAction
action_by true caught = Ignored
action_by false true = Caught
action_by false false = Default

abbrev pub action_of : Member → Signal → SignalAction
action_of m signal = action_by (has m.ignored signal) (has m.caught signal)

-- ---- a process that runs: the signal is delivered at once
-- what is caught is pending until the process takes it
abbrev pub with_pending : Recipient → Signal → Recipient
with_pending r signal = record r { member = record r.member { pending = with_signal r.member.pending signal } }

-- a stop by TSTP, TTIN or TTOU has no effect in an orphaned process group (2.4.3)
abbrev pub may_stop : (orphaned : Bool) → Signal → Bool
may_stop orphaned signal = not orphaned || is_same signal Stop

abbrev pub after_default : (orphaned : Bool) → Recipient → Signal → DefaultAction → Recipient
after_default orphaned r signal default.End = record r { status = Signaled (number_of signal) }
after_default orphaned r signal default.Ignore = r
after_default orphaned r signal default.Continue = r
after_default orphaned r signal default.Stop = if may_stop orphaned signal then record r { status = Stopped (number_of signal) } else r

abbrev pub after_action : (orphaned : Bool) → Recipient → Signal → SignalAction → Recipient
after_action orphaned r signal Default = after_default orphaned r signal (default_of signal)
after_action orphaned r signal Ignored = r
after_action orphaned r signal Caught = with_pending r signal

abbrev pub after_delivery : (orphaned : Bool) → Recipient → Signal → Recipient
after_delivery orphaned r signal = after_action orphaned r signal (action_of r.member signal)

-- ---- a process that is stopped: signals are kept until it is continued
abbrev pub with_kept : Recipient → Signal → Recipient
with_kept r signal = record r { member = record r.member { kept = with_signal r.member.kept signal } }

abbrev pub after_kept_by : (orphaned : Bool) → Recipient → Signal → Status → Recipient
after_kept_by orphaned r signal Running = after_delivery orphaned r signal
after_kept_by orphaned r signal (Stopped by_signal) = r
after_kept_by orphaned r signal (Exited status) = r
after_kept_by orphaned r signal (Signaled by_signal) = r

-- a kept signal is delivered, unless one before it has ended the process
abbrev pub after_kept : (orphaned : Bool) → (kept : SignalSet) → Recipient → Signal → Recipient
after_kept orphaned kept r signal = if has kept signal then after_kept_by orphaned r signal r.status else r

abbrev pub after_each_kept : (orphaned : Bool) → (kept : SignalSet) → List Signal → Recipient → Recipient
after_each_kept orphaned kept [] r = r
after_each_kept orphaned kept (signal ∷ others) r = after_each_kept orphaned kept others (after_kept orphaned kept r signal)

abbrev pub running_again : Recipient → Recipient
running_again r = record { status = Running; member = record r.member { kept = no_signals } }

-- CONT continues it whatever its action is; then what was kept is delivered, the lowest number first
abbrev pub after_continuing : (orphaned : Bool) → Recipient → Recipient
after_continuing orphaned r = after_each_kept orphaned r.member.kept signals (after_delivery orphaned (running_again r) Continue)

-- KILL ends it; a further stop has no effect
abbrev pub after_keeping : (orphaned : Bool) → Recipient → Signal → DefaultAction → Recipient
after_keeping orphaned r signal default.End =
    if is_same signal Kill then record r { status = Signaled (number_of Kill) } else with_kept r signal
after_keeping orphaned r signal default.Ignore = with_kept r signal
after_keeping orphaned r signal default.Continue = after_continuing orphaned r
after_keeping orphaned r signal default.Stop = r

-- ---- any process; one that has ended is none
abbrev pub after_signal_by : (orphaned : Bool) → Recipient → Signal → Status → Recipient
after_signal_by orphaned r signal Running = after_delivery orphaned r signal
after_signal_by orphaned r signal (Stopped by_signal) = after_keeping orphaned r signal (default_of signal)
after_signal_by orphaned r signal (Exited status) = r
after_signal_by orphaned r signal (Signaled by_signal) = r

abbrev pub after_signal : (orphaned : Bool) → Recipient → Signal → Recipient
after_signal orphaned r signal = after_signal_by orphaned r signal r.status
