-- Processes (XSH fork, _exit, waitpid): their numbers go up from 100 by creation, and none is used again.
use Rattle.std.specs.Prelude.{ℕ, ◌+◌, ◌-◌, ◌==◌, ◌&&◌, List, length, filter, Bool, true, false, not, Option, Some, None, if◌then◌else◌, nat_le, nat_lt, slice_get, slice_set}
use Rattle.std.specs.List.{list_all}
use Rattle.std.specs.Option.{option_map, option_map_or}
use Rattle.sh_kernel_processes.specs.declared.process.Process.{Process}
use Rattle.sh_kernel_processes.specs.declared.process.Status.{Status}
use Rattle.sh_kernel_processes.specs.declared.process.Status.TheVariants.{Running, Stopped, Exited, Signaled}

-- the process of this number, of all that ever were
abbrev pub process_at : List Process → ℕ → Option Process
process_at ps pid = if nat_le 100 pid then slice_get ps (pid - 100) else None

abbrev pub status_at : List Process → ℕ → Option Status
status_at ps pid = option_map (λ p. p.status) (process_at ps pid)

-- a process lives until it ends; a stopped one lives
abbrev pub is_live : Status → Bool
is_live Running = true
is_live (Stopped signal) = true
is_live (Exited status) = false
is_live (Signaled signal) = false

abbrev pub is_living : Process → Bool
is_living p = is_live p.status

abbrev pub lives : List Process → ℕ → Bool
lives ps pid = option_map_or is_living (process_at ps pid) false

abbrev pub live_count : List Process → ℕ
live_count ps = length (filter is_living ps)

abbrev pub next_pid : List Process → ℕ
next_pid ps = 100 + length ps

-- at most 1000 processes live at a time, and no number is above 2147483647
abbrev pub may_fork : List Process → Bool
may_fork ps = nat_lt (live_count ps) 1000 && nat_le (next_pid ps) 2147483647

-- the parent of a process whose maker has ended is 1
abbrev pub parent_by : List Process → Process → ℕ
parent_by ps p = if lives ps p.maker then p.maker else 1

abbrev pub parent_at : List Process → ℕ → Option ℕ
parent_at ps pid = option_map (parent_by ps) (process_at ps pid)

-- the processes, where the one of this number has this status now
abbrev pub with_status_of : List Process → ℕ → Status → Option Process → List Process
with_status_of ps pid status None = ps
with_status_of ps pid status (Some p) = slice_set ps (pid - 100) (record p { status = status })

abbrev pub with_status : List Process → ℕ → Status → List Process
with_status ps pid status = with_status_of ps pid status (process_at ps pid)

-- ---- what a process may wait for
abbrev pub is_child_of : ℕ → Option Process → Bool
is_child_of pid None = false
is_child_of pid (Some p) = p.maker == pid

abbrev pub is_child : List Process → ℕ → ℕ → Bool
is_child ps pid child = is_child_of pid (process_at ps child)

abbrev pub is_ended : Option Process → Bool
is_ended None = false
is_ended (Some p) = not (is_living p)

abbrev pub has_ended : List Process → ℕ → Bool
has_ended ps pid = is_ended (process_at ps pid)

abbrev pub all_children : List Process → ℕ → List ℕ → Bool
all_children ps pid awaited = list_all (is_child ps pid) awaited

abbrev pub all_ended : List Process → List ℕ → Bool
all_ended ps awaited = list_all (has_ended ps) awaited

-- neither stopped nor ended
abbrev pub is_running : Option Status → Bool
is_running None = false
is_running (Some Running) = true
is_running (Some (Stopped signal)) = false
is_running (Some (Exited status)) = false
is_running (Some (Signaled signal)) = false

-- ---- the first process is 100, and 1 is its parent, of which nothing is known here
abbrev pub first_process : Process
first_process = record { maker = 1; status = Running }
