use Rattle.std.proofs.Common.{sym, ◌∙◌, take, drop}
use Rattle.sh_stock.proofs.Prefixes.{nothing_missing}
use Rattle.sh_stock.proofs.lines.find_end.Goals as goal

pub returns-then-missing-eq0-clause-prefix : goal.returns-then-missing-eq0-clause-prefix
returns-then-missing-eq0-clause-prefix c =
    sym (nothing_missing (take c.bytes.len c.args.bytes.now) c.bytes.missing (drop c.bytes.len c.args.bytes.now) c.if-missing-eq0.true) ∙ c.bytes.invariant.prefix
