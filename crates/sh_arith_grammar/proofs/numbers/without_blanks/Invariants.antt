use Rattle.std.proofs.Common.{◌≡◌, length}
use Rattle.sh_arith_grammar.specs.Numbers.{without_blanks}
use Rattle.sh_arith_grammar.proofs.numbers.without_blanks.Given as goal

abbrev pub invariant-loop-first : goal.invariant-loop-first
invariant-loop-first l = without_blanks l.left ≡ without_blanks l.bytes

abbrev pub decreases-loop-first : goal.decreases-loop-first
decreases-loop-first l = length l.left
