use Rattle.std.proofs.Common.{◌≡◌, ◌≤◌, ◌^◌, length}
use Rattle.sh_arith_grammar.specs.Constants.{number_after}
use Rattle.sh_arith_grammar.proofs.constants.number_of.Given as goal

abbrev pub invariant-loop-first : goal.invariant-loop-first
invariant-loop-first l = record {
  same : number_after l.radix l.number l.left ≡ number_after l.radix 0 l.digits;
  few : l.number ≤ 2 ^ 63;
}

abbrev pub decreases-loop-first : goal.decreases-loop-first
decreases-loop-first l = length l.left
