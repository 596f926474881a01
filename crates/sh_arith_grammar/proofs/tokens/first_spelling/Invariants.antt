use Rattle.std.proofs.Common.{◌≡◌, map, drop}
use Rattle.sh_arith_grammar.specs.Lexical.{first_spelling}
use Rattle.sh_arith_grammar.proofs.tokens.first_spelling.Given as goal

abbrev pub invariant-loop-number : goal.invariant-loop-number
invariant-loop-number l = first_spelling l.number (map (λ s. s.now) (drop l.number l.spellings)) l.text ≡ first_spelling 0 (map (λ s. s.now) l.spellings) l.text
