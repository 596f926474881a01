use Rattle.std.proofs.Common.{◌≡◌, ◌+◌, ◌++◌, false, length}
use Rattle.sh_arith_grammar.specs.Grammar.{arithmetic}
use Rattle.sh_arith_grammar.specs.Levels.{is_deep}
use Rattle.sh_arith_grammar.specs.Lexical.{tokens_from, tokens_of}
use Rattle.sh_arith.specs.Taking.{Reached}
use Rattle.sh_arith.proofs.read.take_all.Given as goal

abbrev pub invariant-loop-others : goal.invariant-loop-others
invariant-loop-others l = record {
  grammar : l.recognizer.grammar ≡ arithmetic;
  tokens : l.recognizer.tokens ++ tokens_from l.place l.skipped l.rest ≡ tokens_of l.fn.text;
  reached : Reached l.recognizer.grammar l.recognizer.tokens l.levels;
  shallow : is_deep l.levels ≡ false;
  few : l.place + length l.rest ≡ length l.fn.text;
}

abbrev pub decreases-loop-others : goal.decreases-loop-others
decreases-loop-others l = length l.rest
