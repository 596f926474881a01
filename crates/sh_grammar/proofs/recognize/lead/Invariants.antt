use Rattle.std.proofs.Common.{◌≡◌, ◌++◌, List, true, reverse}
use Rattle.sh_grammar.specs.declared.Symbol.{Symbol}
use Rattle.sh_grammar.specs.Leftmost.{tokens_of}
use Rattle.sh_grammar.specs.Tabulation.{tabulation_of, grammar_of}
use Rattle.sh_grammar.specs.Table.{table_of, first_of, cost_of}
use Rattle.sh_grammar.specs.Reach.{Stands, Begins, Extends}
use Rattle.sh_grammar.specs.Computed.{next_stack}
use Rattle.sh_grammar.proofs.Kept.{Leads}
use Rattle.sh_grammar.proofs.recognize.lead.Given as goal

abbrev pub invariant-loop-top : goal.invariant-loop-top
invariant-loop-top l =
    record {
      stands : Stands (tabulation_of l.tables) (Begins l.token) l.done.items (reverse (l.kept ++ l.above.items));
      begins : first_of (grammar_of (tabulation_of l.tables)) (table_of (tabulation_of l.tables)) (reverse (l.kept ++ l.above.items)) l.token.class ≡ true;
      text : tokens_of l.done.items ≡ tokens_of l.fn.done.items;
      extended : Extends l.fn.done.items l.done.items;
      leads : Leads (tabulation_of l.tables) (next_stack (grammar_of (tabulation_of l.tables)) (table_of (tabulation_of l.tables)) (reverse l.stack) l.token.class) l.token.class (reverse (l.kept ++ l.above.items));
      stays : (gone : List Symbol) × (l.stack ≡ l.kept ++ gone);
    }

abbrev pub decreases-loop-top : goal.decreases-loop-top
decreases-loop-top l = cost_of (table_of (tabulation_of l.tables)) (reverse (l.kept ++ l.above.items))
