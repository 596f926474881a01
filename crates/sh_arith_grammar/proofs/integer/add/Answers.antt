use Rattle.std.proofs.Common.{rules}
use Rattle.std.proofs.lemmas.Int.{wraps}
use Rattle.sh_arith_grammar.proofs.integer.add.Goals as goal

pub returns : goal.returns
returns c = search (rules, wraps)
