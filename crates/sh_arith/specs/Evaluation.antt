-- What the evaluation of a text may answer (XCU 2.6.4).
use Rattle.std.specs.Prelude.{◌≡◌, ℕ, List, [], ◌∷◌, ◌++◌, length, ◌⊎◌, true}
use Rattle.sh_grammar.specs.declared.Token.{Token}
use Rattle.sh_grammar.specs.Grammar.{Tree}
use Rattle.sh_grammar.specs.Text.{IsTreeOf, IsText, BeginsText}
use Rattle.sh_vars.specs.Environment.{Environment}
use Rattle.sh_arith.specs.declared.faults.ArithFault.{ArithFault}
use Rattle.sh_arith.specs.declared.faults.ArithFault.TheVariants.{Syntax, TooDeep}
use Rattle.sh_arith_grammar.specs.Grammar.{arithmetic}
use Rattle.sh_arith_grammar.specs.Levels.{are_shallow, is_deep, none_open, open_after}
use Rattle.sh_arith_grammar.specs.Lexical.{tokens_of}
use Rattle.sh_arith.specs.Expression.{Expression}
use Rattle.sh_arith.specs.Outcome.{Stops}
use Rattle.sh_arith.specs.Reading.{expression_of}
use Rattle.sh_arith.specs.Value.{value}

-- the text says this expression, in at most 500 levels; by the law 'says_one_expression' it says no other
pub record Says (text : List ℕ) (e : Expression) : Type 0 where
  pub tree : Tree
  pub derives : IsTreeOf arithmetic (tokens_of text) tree
  pub says : expression_of tree ≡ e
  pub shallow : are_shallow none_open (tokens_of text) ≡ true

-- the tokens begin an expression, in at most 500 levels so far
pub record GoesOn (tokens : List Token) : Type 0 where
  pub begins : BeginsText arithmetic tokens
  pub shallow : are_shallow none_open tokens ≡ true

-- the tokens before this place begin an expression, and with the token there they begin none
pub record StopsAt (tokens : List Token) (place : ℕ) : Type 0 where
  pub front : List Token
  pub token : Token
  pub others : List Token
  pub parts : front ++ token ∷ others ≡ tokens
  pub at : token.id ≡ place
  pub before : GoesOn front
  pub none : BeginsText arithmetic (front ++ token ∷ []) → ⊥

-- the tokens begin an expression, and are no whole one
pub record EndsEarly (tokens : List Token) : Type 0 where
  pub before : GoesOn tokens
  pub none : IsText arithmetic tokens → ⊥

-- the tokens before one token begin an expression, and with that token they do too, but it opens level 501
pub record OpensTooMany (tokens : List Token) : Type 0 where
  pub front : List Token
  pub token : Token
  pub others : List Token
  pub parts : front ++ token ∷ others ≡ tokens
  pub before : GoesOn front
  pub begins : BeginsText arithmetic (front ++ token ∷ [])
  pub deep : is_deep (open_after none_open (front ++ token ∷ [])) ≡ true

-- a token is refused, for itself or for the level that it opens
abbrev pub IsRefusedWithin : List Token → ArithFault → Type 0
IsRefusedWithin tokens fault =
    ((place : ℕ) × (fault ≡ Syntax place) × StopsAt tokens place)
    ⊎ ((fault ≡ TooDeep) × OpensTooMany tokens)

-- a text is refused, by a token or by its end
abbrev pub IsRefused : List ℕ → ArithFault → Type 0
IsRefused text fault = IsRefusedWithin (tokens_of text) fault ⊎ ((fault ≡ Syntax (length text)) × EndsEarly (tokens_of text))

-- a text has no value: it is refused, or its evaluation stops
abbrev pub HasFault : List ℕ → Environment → ArithFault → Environment → Type 0
HasFault text before fault after =
    (IsRefused text fault × (after ≡ before))
    ⊎ ((e : Expression) × Says text e × (value text e before ≡ Stops fault after))
