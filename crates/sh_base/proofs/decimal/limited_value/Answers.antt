use Rattle.std.proofs.Common.{◌<◌, ◌+◌, ◌*◌, ◌-◌, arith, get_or}
use Rattle.sh_base.proofs.Digits.{beyond, over_limit}
use Rattle.sh_base.specs.Decimals.{value_behind}
use Rattle.sh_base.proofs.decimal.limited_value.Goals as goal

pub returns-then-next-from : goal.returns-then-next-from
returns-then-next-from c =
    let more : c.args.limit < 10 * c.digits.value + (get_or c.args.digits.now c.digits.digit-index 0 - 48) = omega arith in
    let past = beyond c.digits.value c.digits.digit-index 0 c.args.limit c.args.digits.now c.digits-test.true more in
    let over : c.args.limit < value_behind 0 c.args.digits.now = omega (arith, c.digits.invariant.same) in
    over_limit _ _ over
