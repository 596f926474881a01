use Rattle.std.proofs.Common.{◌≡◌, true}
use Rattle.sh_base.specs.Decimals.{is_number}
use Rattle.sh_base.proofs.Digits.{at_most-is}
use Rattle.sh_base.proofs.decimal.number_of.Goals as goal

pub returns : goal.returns
returns c =
    let whole : is_number c.args.operand.now ≡ true = cc in
    let same = at_most-is c.args.operand.now whole in
    cc
