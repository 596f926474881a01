use Rattle.sh_builtin_regular.proofs.Prefixes.{operands_closed, operands_open}
use Rattle.sh_builtin_regular.proofs.bracket.bracket_operands.Goals as goal

pub returns-then-eq : goal.returns-then-eq
returns-then-eq c =
    operands_closed c.in-Some.operands.now c.args.arguments.now c.in-Some.last.now c.in-Some.ensures.cases.0 (cc)

pub returns-else-eq : goal.returns-else-eq
returns-else-eq c =
    operands_open c.in-Some.operands.now c.args.arguments.now c.in-Some.last.now c.in-Some.ensures.cases.0 (cc)
