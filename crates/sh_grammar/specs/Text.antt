-- What a tabulated grammar derives from its start symbol.
use Rattle.std.specs.Prelude.{List}
use Rattle.sh_grammar.specs.declared.Symbol.TheVariants.{Nonterminal}
use Rattle.sh_grammar.specs.declared.Token.{Token}
use Rattle.sh_grammar.specs.Grammar.{Tree, Derives, IsPrefix}
use Rattle.sh_grammar.specs.Tabulation.{Tabulation, grammar_of}

-- the tree is a derivation of the tokens
abbrev pub IsTreeOf : Tabulation → List Token → Tree → Type 0
IsTreeOf d tokens tree = Derives (grammar_of d) (Nonterminal d.start) tokens tree

-- the tokens are a whole text
abbrev pub IsText : Tabulation → List Token → Type 0
IsText d tokens = (tree : Tree) × IsTreeOf d tokens tree

-- some further tokens make a whole text of them
abbrev pub BeginsText : Tabulation → List Token → Type 0
BeginsText d tokens = IsPrefix (grammar_of d) (Nonterminal d.start) tokens
