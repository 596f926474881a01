-- Process groups (XBD chapter 3, Process Group and Orphaned Process Group): their members, and which are orphaned.
use Rattle.std.specs.Prelude.{ℕ, List, ◌==◌, ◌&&◌, Bool, true, false, not, Option, Some, None, find}
use Rattle.std.specs.List.{list_any}
use Rattle.std.specs.Option.{option_and_then}
use Rattle.sh_kernel_processes.specs.Processes.{lives, parent_at, status_at}
use Rattle.sh_kernel_processes.specs.declared.process.Process.{Process}
use Rattle.sh_kernel_processes.specs.declared.process.Status.{Status}
use Rattle.sh_kernel_processes.specs.declared.process.Status.TheVariants.{Running, Stopped, Exited, Signaled}
use Rattle.sh_kernel_processes.specs.declared.member.Member.{Member}

-- all processes that ever were, and those that live as members of groups, by their numbers
pub record ProcessTable : Type 0 where
  pub processes : List Process
  pub members : List Member

abbrev pub has_pid : (pid : ℕ) → Member → Bool
has_pid pid m = m.pid == pid

abbrev pub member_at : List Member → ℕ → Option Member
member_at members pid = find (has_pid pid) members

abbrev pub is_outside : (group : ℕ) → Option Member → Bool
is_outside group None = false
is_outside group (Some m) = not (m.group == group)

-- the parent is a process of the session, and in another group; the parent of the first process is in another session
abbrev pub has_parent_outside : ProcessTable → (group : ℕ) → (pid : ℕ) → Bool
has_parent_outside t group pid = is_outside group (option_and_then (member_at t.members) (parent_at t.processes pid))

abbrev pub ties : ProcessTable → (group : ℕ) → Member → Bool
ties t group m = m.group == group && (lives t.processes m.pid && has_parent_outside t group m.pid)

-- a group is orphaned where the parent of each member is in it too, or isn't of the session
unfoldable pub is_orphaned : ProcessTable → (group : ℕ) → Bool
is_orphaned t group = not (list_any (ties t group) t.members)

abbrev pub is_stopped : Option Status → Bool
is_stopped None = false
is_stopped (Some Running) = false
is_stopped (Some (Stopped signal)) = true
is_stopped (Some (Exited status)) = false
is_stopped (Some (Signaled signal)) = false

abbrev pub is_stopped_in : List Process → (group : ℕ) → Member → Bool
is_stopped_in processes group m = m.group == group && is_stopped (status_at processes m.pid)

unfoldable pub has_stopped : ProcessTable → (group : ℕ) → Bool
has_stopped t group = list_any (is_stopped_in t.processes group) t.members
