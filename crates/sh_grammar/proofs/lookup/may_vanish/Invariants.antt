use Rattle.std.proofs.Common.{◌≡◌, reverse, length}
use Rattle.sh_grammar.specs.Tabulation.{tabulation_of, grammar_of}
use Rattle.sh_grammar.specs.Table.{table_of, nullable_of}
use Rattle.sh_grammar.proofs.lookup.may_vanish.Given as goal

abbrev pub invariant-loop-top : goal.invariant-loop-top
invariant-loop-top l =
    nullable_of (grammar_of (tabulation_of l.tables)) (table_of (tabulation_of l.tables)) (reverse l.rest) l.tables.ending ≡ nullable_of (grammar_of (tabulation_of l.tables)) (table_of (tabulation_of l.tables)) (reverse l.stack) l.tables.ending

abbrev pub decreases-loop-top : goal.decreases-loop-top
decreases-loop-top l = length l.rest
