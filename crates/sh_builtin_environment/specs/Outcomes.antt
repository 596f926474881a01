-- What a built-in that may change a shell's environment leaves.
use Rattle.std.specs.Prelude.{Option, Some, None}
use Rattle.sh_builtin_environment.specs.declared.outcome.BuiltinFault.{BuiltinFault}
use Rattle.sh_builtin_environment.specs.declared.outcome.BuiltinFault.TheVariants as fault
use Rattle.sh_builtin_environment.specs.declared.outcome.Outcome.{Outcome}
use Rattle.sh_builtin_environment.specs.declared.outcome.Outcome.TheVariants.{Fault}
use Rattle.sh_vars.specs.Environment.{Environment}

-- the shell's environment after it, and its outcome
pub record Ran : Type 0 where
  pub environment : Environment
  pub outcome : Outcome

abbrev pub with_outcome : Environment → Outcome → Ran
with_outcome env outcome = record { environment = env; outcome = outcome }

abbrev pub refusal : Environment → BuiltinFault → Ran
refusal env why = with_outcome env (Fault why)

abbrev pub misuse : Environment → Ran
misuse env = refusal env fault.Usage

-- what one operand leaves, and why it is refused if it is
pub record Stepped : Type 0 where
  pub environment : Environment
  pub fault : Option BuiltinFault

abbrev pub with_fault : Environment → Option BuiltinFault → Stepped
with_fault env why = record { environment = env; fault = why }

-- what follows an operand, unless that is refused
abbrev pub behind : Environment → Option BuiltinFault → (Environment → Ran) → Ran
behind env None next = next env
behind env (Some why) next = refusal env why
