-- When a change of a variable is refused.
use Rattle.std.specs.Prelude.{ℕ, List, if◌then◌else◌, Result, Ok, Err}
use Rattle.sh_vars.specs.Environment.{Environment, is_read_only}
use Rattle.sh_base.specs.Names.{is_name}
use Rattle.sh_vars.specs.declared.faults.VarsFault.{VarsFault}
use Rattle.sh_vars.specs.declared.faults.VarsFault.TheVariants.{BadName, ReadOnly}

-- what is no name is refused first, then the name of a read-only variable
abbrev pub refusal : Environment → List ℕ → Result (Unit {0}) VarsFault
refusal env name = if is_name name then (if is_read_only env name then Err ReadOnly else Ok tt) else Err BadName
