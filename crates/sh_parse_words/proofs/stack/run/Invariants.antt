use Rattle.std.proofs.Common.{◌≡◌, length, reverse}
use Rattle.sh_parse_words.specs.Stack.{run_from, at_start}
use Rattle.sh_parse_words.proofs.stack.run.Given as goal

abbrev pub invariant-loop-last : goal.invariant-loop-last
invariant-loop-last l = run_from (reverse l.actions) (at_start l.fn.leaves.items) ≡ run_from (reverse l.rest) l.making

abbrev pub decreases-loop-last : goal.decreases-loop-last
decreases-loop-last l = length l.rest
