-- Signals that are sent to processes and groups (XSH kill), and what the end of a process comes to (XSH _exit).
use Rattle.std.specs.Prelude.{ℕ, List, [], ◌∷◌, ◌==◌, ◌&&◌, ◌||◌, Bool, false, not, Option, Some, None, filter, find, if◌then◌else◌, map, position, slice_set}
use Rattle.std.specs.List.{list_any}
use Rattle.std.specs.Option.{option_map_or}
use Rattle.sh_kernel_processes.specs.Processes.{is_live, lives, parent_at, status_at, with_status, is_running}
use Rattle.sh_kernel_processes.specs.declared.process.Process.{Process}
use Rattle.sh_kernel_processes.specs.declared.process.Status.{Status}
use Rattle.sh_kernel_processes.specs.declared.process.Status.TheVariants.{Exited}
use Rattle.sh_kernel_processes.specs.Delivery.{after_signal}
use Rattle.sh_kernel_processes.specs.Groups.{ProcessTable, has_pid, has_stopped, is_orphaned, is_stopped, member_at}
use Rattle.sh_kernel_processes.specs.declared.delivery.Recipient.{Recipient}
use Rattle.sh_kernel_processes.specs.declared.member.Member.{Member}
use Rattle.sh_kernel_processes.specs.declared.target.SignalTarget.{SignalTarget}
use Rattle.sh_kernel_processes.specs.declared.target.SignalTarget.TheVariants as target
use Rattle.sh_signal.specs.declared.signal.Signal.{Signal}
use Rattle.sh_signal.specs.declared.signal.Signal.TheVariants.{Child, Continue, Hangup}

-- ---- one process
abbrev pub with_member_at : List Member → Member → Option ℕ → List Member
with_member_at members m None = members
with_member_at members m (Some place) = slice_set members place m

abbrev pub with_member : List Member → Member → List Member
with_member members m = with_member_at members m (position (has_pid m.pid) members)

abbrev pub with_recipient : ProcessTable → Recipient → ProcessTable
with_recipient t r = record { processes = with_status t.processes r.member.pid r.status; members = with_member t.members r.member }

abbrev pub after_receipt_by : ProcessTable → Signal → Option Status → Option Member → ProcessTable
after_receipt_by t signal None m = t
after_receipt_by t signal (Some status) None = t
after_receipt_by t signal (Some status) (Some m) =
    with_recipient t (after_signal (is_orphaned t m.group) (record { status = status; member = m }) signal)

unfoldable pub after_receipt : ProcessTable → Signal → (pid : ℕ) → ProcessTable
after_receipt t signal pid = after_receipt_by t signal (status_at t.processes pid) (member_at t.members pid)

-- a process has ended or stopped since it had this status
abbrev pub is_alive : Option Status → Bool
is_alive status = option_map_or is_live status false

abbrev pub is_news : (before : Option Status) → (after : Option Status) → Bool
is_news before after = is_alive before && not (is_alive after) || is_running before && not (is_running after)

-- its parent is told by CHLD
abbrev pub after_notice_to : ProcessTable → Option ℕ → ProcessTable
after_notice_to t None = t
after_notice_to t (Some parent) = after_receipt t Child parent

unfoldable pub after_notice : ProcessTable → (pid : ℕ) → (before : Option Status) → ProcessTable
after_notice t pid before = if is_news before (status_at t.processes pid) then after_notice_to t (parent_at t.processes pid) else t

unfoldable pub after_signal_to : ProcessTable → Signal → (pid : ℕ) → ProcessTable
after_signal_to t signal pid = after_notice (after_receipt t signal pid) pid (status_at t.processes pid)

-- ---- several processes, in the order of the members (add_fork puts a new one behind the others, so that is the order of their numbers)
abbrev pub reaches : SignalTarget → Member → Bool
reaches (target.Process pid) m = m.pid == pid
reaches (target.Group group) m = m.group == group
reaches (target.Processes pids) m = list_any (λ pid. m.pid == pid) pids

abbrev pub is_reached : SignalTarget → Option Member → Bool
is_reached to None = false
is_reached to (Some m) = reaches to m

abbrev pub after_signal_to_each : ProcessTable → SignalTarget → Signal → List ℕ → ProcessTable
after_signal_to_each t to signal [] = t
after_signal_to_each t to signal (pid ∷ pids) =
    after_signal_to_each (if is_reached to (member_at t.members pid) then after_signal_to t signal pid else t) to signal pids

abbrev pub pids_of : List Member → List ℕ
pids_of members = map (λ m. m.pid) members

-- ---- groups that an end orphans: where one has a stopped member, all members get HUP and then CONT
-- only a group that isn't orphaned yet can be orphaned
abbrev pub is_at_risk : ProcessTable → Member → Bool
is_at_risk t m = is_stopped (status_at t.processes m.pid) && not (is_orphaned t m.group)

abbrev pub groups_at_risk : ProcessTable → List ℕ
groups_at_risk t = map (λ m. m.group) (filter (is_at_risk t) t.members)

abbrev pub is_abandoned : ProcessTable → (group : ℕ) → Bool
is_abandoned t group = is_orphaned t group && has_stopped t group

unfoldable pub after_hang_up : ProcessTable → (pids : List ℕ) → (group : ℕ) → ProcessTable
after_hang_up t pids group = after_signal_to_each (after_signal_to_each t (target.Group group) Hangup pids) (target.Group group) Continue pids

-- HUP may end processes, and so orphan further groups; each group is hung up once at most
abbrev pub after_hang_up_by : ProcessTable → Option ℕ → (ℕ → ProcessTable) → ProcessTable
after_hang_up_by t None next = t
after_hang_up_by t (Some group) next = next group

abbrev pub after_hang_ups : ProcessTable → (pids : List ℕ) → (at_risk : List ℕ) → (at_most : List ℕ) → ProcessTable
after_hang_ups t pids at_risk [] = t
after_hang_ups t pids at_risk (one ∷ at_most) =
    after_hang_up_by t (find (is_abandoned t) at_risk) (λ group. after_hang_ups (after_hang_up t pids group) pids at_risk at_most)

-- what has ended is no member any more
abbrev pub stays : List Process → Member → Bool
stays processes m = lives processes m.pid

abbrev pub members_left : ProcessTable → List Member
members_left t = filter (stays t.processes) t.members

unfoldable pub after_orphaning : ProcessTable → (pids : List ℕ) → (at_risk : List ℕ) → ProcessTable
after_orphaning t pids at_risk =
    let after = after_hang_ups t pids at_risk at_risk in record { processes = after.processes; members = members_left after }

-- ---- the calls
unfoldable pub after_send : ProcessTable → SignalTarget → Signal → ProcessTable
after_send t to signal =
    let pids = pids_of t.members in after_orphaning (after_signal_to_each t to signal pids) pids (groups_at_risk t)

abbrev pub with_exit : ProcessTable → (pid : ℕ) → (status : ℕ) → ProcessTable
with_exit t pid status = after_notice (record t { processes = with_status t.processes pid (Exited status) }) pid (status_at t.processes pid)

unfoldable pub after_end : ProcessTable → (pid : ℕ) → (status : ℕ) → ProcessTable
after_end t pid status = after_orphaning (with_exit t pid status) (pids_of t.members) (groups_at_risk t)
