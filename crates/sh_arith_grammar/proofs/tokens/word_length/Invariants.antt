use Rattle.std.proofs.Common.{◌≡◌, ◌+◌, length}
use Rattle.sh_arith_grammar.specs.Lexical.{word_length}
use Rattle.sh_arith_grammar.proofs.tokens.word_length.Given as goal

abbrev pub invariant-loop-first : goal.invariant-loop-first
invariant-loop-first l = record {
  same : l.count + word_length l.left ≡ word_length l.text;
  few : l.count + length l.left ≡ length l.text;
}

abbrev pub decreases-loop-first : goal.decreases-loop-first
decreases-loop-first l = length l.left
