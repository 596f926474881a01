-- The outcome of an evaluation.
use Rattle.std.specs.Prelude.{ℤ}
use Rattle.sh_vars.specs.Environment.{Environment}
use Rattle.sh_arith.specs.declared.faults.ArithFault.{ArithFault}

-- a value or a fault, and the shell's environment after it
pub data Outcome : Type 0 where
  Gives : (value : ℤ) → (env : Environment) → Outcome
  Stops : (fault : ArithFault) → (env : Environment) → Outcome

abbrev pub and_then : Outcome → (ℤ → Environment → Outcome) → Outcome
and_then (Gives v env) f = f v env
and_then (Stops fault env) f = Stops fault env
