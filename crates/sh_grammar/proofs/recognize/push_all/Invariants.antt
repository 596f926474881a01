use Rattle.std.proofs.Common.{◌≡◌, ◌++◌, reverse, length}
use Rattle.sh_grammar.proofs.recognize.push_all.Given as goal

abbrev pub invariant-loop-last : goal.invariant-loop-last
invariant-loop-last l = l.rest ++ reverse l.stack.items ≡ l.symbols ++ reverse l.fn.stack.items

abbrev pub decreases-loop-last : goal.decreases-loop-last
decreases-loop-last l = length l.rest
