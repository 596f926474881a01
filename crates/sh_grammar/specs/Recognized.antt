-- What a caller sees of a recognizer.
use Rattle.std.specs.Prelude.{List}
use Rattle.sh_grammar.specs.declared.Token.{Token}
use Rattle.sh_grammar.specs.Tabulation.{Tabulation}

-- the grammar, and the tokens that were taken
pub record Recognized : Type 0 where
  pub grammar : Tabulation
  pub tokens : List Token
