use Rattle.std.proofs.Common.{◌≡◌, reverse, length}
use Rattle.sh_grammar.specs.Tabulation.{tabulation_of, grammar_of}
use Rattle.sh_grammar.specs.Table.{table_of, first_of}
use Rattle.sh_grammar.proofs.lookup.begins.Given as goal

abbrev pub invariant-loop-top : goal.invariant-loop-top
invariant-loop-top l =
    first_of (grammar_of (tabulation_of l.tables)) (table_of (tabulation_of l.tables)) (reverse l.rest) l.class ≡ first_of (grammar_of (tabulation_of l.tables)) (table_of (tabulation_of l.tables)) (reverse l.stack) l.class

abbrev pub decreases-loop-top : goal.decreases-loop-top
decreases-loop-top l = length l.rest
