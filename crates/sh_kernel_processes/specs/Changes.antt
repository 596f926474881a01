-- What a process changes of its signals and its group: sigaction, fork, exec, setpgid of XSH.
use Rattle.std.specs.Prelude.{ℕ, List, [], ◌∷◌, ◌++◌, ◌||◌, Bool, Option, Some, None, if◌then◌else◌}
use Rattle.std.specs.Option.{option_and_then}
use Rattle.sh_kernel_processes.specs.Delivery.{is_same}
use Rattle.sh_kernel_processes.specs.Groups.{member_at}
use Rattle.sh_kernel_processes.specs.Sending.{with_member}
use Rattle.sh_kernel_processes.specs.Sets.{lowest, no_signals, with_signal, without_signal}
use Rattle.sh_kernel_processes.specs.declared.member.Member.{Member}
use Rattle.sh_kernel_processes.specs.declared.member.SignalAction.{SignalAction}
use Rattle.sh_kernel_processes.specs.declared.member.SignalAction.TheVariants.{Default, Ignored, Caught}
use Rattle.sh_signal.specs.declared.signal.Signal.{Signal}
use Rattle.sh_signal.specs.declared.signal.Signal.TheVariants.{Kill, Stop}

-- ---- the action of a signal; what isn't caught any more isn't pending
abbrev pub with_action_by : Member → Signal → SignalAction → Member
with_action_by m signal Default = record m {
  ignored = without_signal m.ignored signal;
  caught = without_signal m.caught signal;
  pending = without_signal m.pending signal;
}
with_action_by m signal Ignored = record m {
  ignored = with_signal m.ignored signal;
  caught = without_signal m.caught signal;
  pending = without_signal m.pending signal;
}
with_action_by m signal Caught = record m {
  ignored = without_signal m.ignored signal;
  caught = with_signal m.caught signal;
}

-- KILL and STOP can't be caught or ignored
abbrev pub is_fixed : Signal → Bool
is_fixed signal = is_same signal Kill || is_same signal Stop

abbrev pub with_action : Member → Signal → SignalAction → Member
with_action m signal action = if is_fixed signal then m else with_action_by m signal action

-- ---- the next pending signal is taken, the lowest number first
abbrev pub next_pending : List Member → (pid : ℕ) → Option Signal
next_pending members pid = option_and_then (λ m. lowest m.pending) (member_at members pid)

abbrev pub without_pending : List Member → Member → Option Signal → List Member
without_pending members m None = members
without_pending members m (Some signal) = with_member members (record m { pending = without_signal m.pending signal })

abbrev pub after_taking_by : List Member → Option Member → List Member
after_taking_by members None = members
after_taking_by members (Some m) = without_pending members m (lowest m.pending)

abbrev pub after_taking : List Member → (pid : ℕ) → List Member
after_taking members pid = after_taking_by members (member_at members pid)

-- ---- the first process has a group of its own; it ignores and catches nothing, and no signal has been sent to it
abbrev pub first_member : (pid : ℕ) → Member
first_member pid = record { pid = pid; group = pid; ignored = no_signals; caught = no_signals; pending = no_signals; kept = no_signals }

-- ---- a new process is in its maker's group and ignores what that ignores; it catches nothing, and no signal has been sent to it
abbrev pub new_member : Member → (child : ℕ) → Member
new_member m child = record { pid = child; group = m.group; ignored = m.ignored; caught = no_signals; pending = no_signals; kept = no_signals }

-- ---- a program that is started ignores what was ignored, and catches nothing
abbrev pub after_start : Member → Member
after_start m = record m { caught = no_signals; pending = no_signals }

abbrev pub with_group : Member → (group : ℕ) → Member
with_group m group = record m { group = group }

-- ---- one member of many
abbrev pub with_change_by : List Member → Option Member → (Member → Member) → List Member
with_change_by members None change = members
with_change_by members (Some m) change = with_member members (change m)

abbrev pub with_change : List Member → (pid : ℕ) → (Member → Member) → List Member
with_change members pid change = with_change_by members (member_at members pid) change

abbrev pub with_fork_by : List Member → Option Member → (child : ℕ) → List Member
with_fork_by members None child = members
with_fork_by members (Some m) child = members ++ new_member m child ∷ []

abbrev pub with_fork : List Member → (pid : ℕ) → (child : ℕ) → List Member
with_fork members pid child = with_fork_by members (member_at members pid) child
