-- The grammar of arithmetic expressions (XCU 2.6.4): the productions of the levels of operators. The parser's
-- table, which is the program's own, does not change what derives.
use Rattle.std.specs.Prelude.{ℕ, suc, ◌-◌, ◌^◌, codes, List, [], ◌∷◌, ◌++◌, map, reverse}
use Rattle.sh_grammar.specs.Grammar.{Grammar}
use Rattle.sh_grammar.specs.Tabulation.{Tabulation, grammar_of}
use Rattle.sh_arith_grammar.specs.Classes.{class_of, classes_of, constant_class, name_class, end_class, set_of}
use Rattle.sh_arith_grammar.specs.Precedence.{levels}
use Rattle.sh_arith_grammar.specs.Productions.{number_of, productions, whole}
use Rattle.sh_arith_grammar.specs.declared.grammar.TheConstants.{FIRSTS, NULLABLES, PREDICTS}

-- the classes of each terminal
abbrev pub terminal_classes : List (List ℕ)
terminal_classes =
    (constant_class ∷ []) ∷ (name_class ∷ [])
    ∷ (reverse (map classes_of levels) ++ (class_of (codes ":") ∷ []) ∷ (class_of (codes "(") ∷ []) ∷ (class_of (codes ")") ∷ []) ∷ [])

-- a production may be used before each class of token
abbrev pub every_class : ℕ
every_class = 2 ^ suc end_class - 1

unfoldable pub arithmetic : Tabulation
arithmetic =
    record {
      heads = map (λ p. p.head) productions;
      bodies = map (λ p. p.body) productions;
      guards = map (λ p. every_class) productions;
      terminals = map set_of terminal_classes;
      ending = end_class;
      start = number_of whole;
      firsts = FIRSTS;
      nullables = NULLABLES;
      predicts = PREDICTS;
    }

unfoldable pub arithmetic_grammar : Grammar
arithmetic_grammar = grammar_of arithmetic
