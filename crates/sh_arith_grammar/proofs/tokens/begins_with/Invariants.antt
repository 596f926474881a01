use Rattle.std.proofs.Common.{◌≡◌, length}
use Rattle.sh_arith_grammar.specs.Lexical.{begins_with}
use Rattle.sh_arith_grammar.proofs.tokens.begins_with.Given as goal

abbrev pub invariant-loop-first : goal.invariant-loop-first
invariant-loop-first l = begins_with l.spelled l.left ≡ begins_with l.spelling l.text

abbrev pub decreases-loop-first : goal.decreases-loop-first
decreases-loop-first l = length l.spelled
