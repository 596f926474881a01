-- The value of an expression, as the function has it.
use Rattle.sh_base.specs.Memory.{no_memory}
use Rattle.std.proofs.Common.{◌≡◌, ◌≢◌, ℕ, ℤ, List, Result, Ok, Err, ◌∙◌}
use Rattle.std.specs.Prelude.{IfOk, IfErr}
use Rattle.sh_vars.specs.Environment.{Environment}
use Rattle.sh_arith.specs.declared.faults.ArithFault.{ArithFault}
use Rattle.sh_arith.specs.declared.faults.ArithFault.TheVariants.{NoMemory}
use Rattle.sh_arith.specs.Evaluated.{evaluation}
use Rattle.sh_arith.specs.Evaluation.{HasFault, Says}
use Rattle.sh_arith.specs.Expression.{Expression}
use Rattle.sh_arith.specs.Outcome.{Gives, Stops}
use Rattle.sh_arith.specs.Value.{value}
use Rattle.sh_arith.proofs.Computing.{computes, computes_fault}

pub has_value : (text : List ℕ) (before after : Environment) (r : Result ℤ ArithFault) → IfOk r (λ v. (e : Expression) × Says text e × (value text e before ≡ Gives v after)) → IfOk r (λ v. evaluation text before ≡ Gives v after)
has_value text before after (Ok v) h = computes text h.0 before h.1 ∙ h.2
has_value text before after (Err f) h = h

pub has_fault : (text : List ℕ) (before after : Environment) (r : Result ℤ ArithFault) → IfErr r (λ f. f ≢ NoMemory no_memory → HasFault text before f after) → IfErr r (λ f. f ≢ NoMemory no_memory → evaluation text before ≡ Stops f after)
has_fault text before after (Ok v) h = h
has_fault text before after (Err f) h = λ n. computes_fault text f before after (h n)
