-- Which process an event gives a turn to, of those that are runnable.
use Rattle.std.specs.Prelude.{ℕ, List, [], ◌∷◌, Option, Some, None, length, ◌%◌, slice_get, nat_lt, find}
use Rattle.sh_exec.specs.declared.event.Event.{Event}
use Rattle.sh_exec.specs.declared.event.Event.TheVariants.{Run, Next, Key}

-- the first, where no process above the last one was found
abbrev pub else_first : Option ℕ → List ℕ → Option ℕ
else_first (Some pid) runnable = Some pid
else_first None runnable = slice_get runnable 0

-- the least pid above that of the last process that took a turn, or the least of all
abbrev pub next_above : Option ℕ → List ℕ → Option ℕ
next_above None runnable = slice_get runnable 0
next_above (Some last) runnable = else_first (find (λ pid. nat_lt last pid) runnable) runnable

-- the runnable processes are given in order of pid, and there is one at least
abbrev pub chosen_of : Event → Option ℕ → List ℕ → Option ℕ
chosen_of (Run k) last runnable = slice_get runnable (k % length runnable)
chosen_of Next last runnable = next_above last runnable
-- a key gives no process a turn
chosen_of (Key byte) last runnable = None

abbrev pub choice : Event → Option ℕ → List ℕ → Option ℕ
choice event last [] = None
choice event last (pid ∷ pids) = chosen_of event last (pid ∷ pids)
