-- The variables as they were before a command's assignments (XCU 2.9.1.2): the newest is undone first.
use Rattle.std.specs.Prelude.{ℕ, List, [], ◌∷◌, Option, Some, None}
use Rattle.sh_exec_parts.specs.declared.saved.Saved.{Saved}
use Rattle.sh_exec_parts.specs.declared.saved.Saved.TheVariants as saved
use Rattle.sh_vars.specs.Environment.{Environment, Variable, variable_of, with_variable, without}

abbrev pub saved_by : List ℕ → Option Variable → Saved
saved_by name (Some variable) = saved.Variable (name, variable)
saved_by name None = saved.Absent name

-- a variable as it is
unfoldable pub saved_of : Environment → List ℕ → Saved
saved_of env name = saved_by name (variable_of env name)

abbrev pub with_saved : Saved → Environment → Environment
with_saved (saved.Variable entry) env = with_variable env entry.0 entry.1
with_saved (saved.Absent name) env = without env name

-- the list is in the order in which they were saved; the last is restored first
abbrev pub all_restored : List Saved → Environment → Environment
all_restored [] env = env
all_restored (s ∷ ss) env = with_saved s (all_restored ss env)
