-- How far a text is read, and why a token isn't taken. Only proofs and contracts of private functions need
-- this.
use Rattle.std.specs.Prelude.{◌≡◌, true, List, [], ◌∷◌, ◌++◌, ◌⊎◌}
use Rattle.sh_grammar.specs.declared.Token.{Token}
use Rattle.sh_grammar.specs.Tabulation.{Tabulation}
use Rattle.sh_grammar.specs.Text.{BeginsText}
use Rattle.sh_arith_grammar.specs.Levels.{Open, are_shallow, is_deep, none_open, open_after, open_behind}
use Rattle.sh_arith.specs.declared.faults.ArithFault.{ArithFault}
use Rattle.sh_arith.specs.declared.faults.ArithFault.TheVariants.{Syntax, TooDeep}

-- the tokens that were taken begin a text, and these levels are open
pub record Reached (d : Tabulation) (taken : List Token) (o : Open) : Type 0 where
  pub begins : BeginsText d taken
  pub levels : o ≡ open_after none_open taken
  pub shallow : are_shallow none_open taken ≡ true

-- with the token the taken ones begin no text, or the token opens a level too many
abbrev pub Refuses : Tabulation → List Token → Open → Token → ArithFault → Type 0
Refuses d taken o token fault =
    ((fault ≡ Syntax token.id) × (BeginsText d (taken ++ token ∷ []) → ⊥))
    ⊎ ((fault ≡ TooDeep) × BeginsText d (taken ++ token ∷ []) × (is_deep (open_behind o token) ≡ true))

-- after the tokens that were taken comes one that is refused
pub record Stopped (d : Tabulation) (taken : List Token) (o : Open) (tokens : List Token) (fault : ArithFault) : Type 0 where
  pub token : Token
  pub others : List Token
  pub parts : taken ++ token ∷ others ≡ tokens
  pub refuses : Refuses d taken o token fault
