use Rattle.std.proofs.Common.{◌≡◌, true, reverse}
use Rattle.sh_grammar.specs.Leftmost.{tokens_of}
use Rattle.sh_grammar.specs.Tabulation.{tabulation_of, grammar_of}
use Rattle.sh_grammar.specs.Table.{table_of, nullable_of, cost_of}
use Rattle.sh_grammar.specs.Reach.{Stands, Ended}
use Rattle.sh_grammar.proofs.recognize.conclude.Given as goal

abbrev pub invariant-loop-top : goal.invariant-loop-top
invariant-loop-top l =
    record {
      stands : Stands (tabulation_of l.tables) Ended l.done.items (reverse l.stack.items);
      vanishes : nullable_of (grammar_of (tabulation_of l.tables)) (table_of (tabulation_of l.tables)) (reverse l.stack.items) l.tables.ending ≡ true;
      text : tokens_of l.done.items ≡ tokens_of l.fn.done.items;
    }

abbrev pub decreases-loop-top : goal.decreases-loop-top
decreases-loop-top l = cost_of (table_of (tabulation_of l.tables)) (reverse l.stack.items)
