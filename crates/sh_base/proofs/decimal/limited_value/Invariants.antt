use Rattle.std.proofs.Common.{◌≡◌, ◌≤◌, drop}
use Rattle.sh_base.specs.Decimals.{value_behind}
use Rattle.sh_base.proofs.decimal.limited_value.Given as goal

abbrev pub invariant-digits : goal.invariant-digits
invariant-digits l = record { small : l.value ≤ l.limit; same : value_behind 0 l.digits ≡ value_behind l.value (drop l.digit-index l.digits) }
