-- Variables that a command gives a value (XCU 2.8.1).
use Rattle.std.specs.Prelude.{ℕ, List, ◌&&◌, Bool, not}
use Rattle.sh_base.specs.Names.{is_name}
use Rattle.sh_vars.specs.Environment.{Environment, is_read_only}

-- an assignment to a read-only variable is refused
abbrev pub may_set : Environment → List ℕ → Bool
may_set env name = is_name name && not (is_read_only env name)
