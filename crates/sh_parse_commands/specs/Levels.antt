-- How many compound commands are open after tokens. The law `open_compounds_are_nested` of `sh_token_grammar`
-- ties this count to derivations.
use Rattle.std.specs.Prelude.{ℕ, List}
use Rattle.sh_grammar.specs.declared.Token.{Token as Input}
use Rattle.sh_grammar.specs.Tabulation.{Tabulation}
use Rattle.sh_token_grammar.specs.Levels as levels

unfoldable pub open_compounds : Tabulation → List Input → ℕ
open_compounds d tokens = levels.open_compounds d tokens
