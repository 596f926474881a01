-- What a symbol of the grammar is to the reading of a tree.
use Rattle.std.specs.Prelude.{List, [], ◌∷◌}
use Rattle.sh_arith_grammar.specs.declared.operators.Role.{Role}
use Rattle.sh_arith_grammar.specs.declared.operators.Role.TheVariants.{Number, Name, Operator, Logic, Question, Colon, Assign, Opening, Closing}

pub data Sig : Type 0 where
  Value : Sig
  After : Sig
  Target : Sig
  DoMark : Sig
  TurnMark : Sig
  DecideMark : Sig
  JoinMark : Sig
  StoreMark : Sig
  Shows : (role : Role) → Sig

-- of each nonterminal
unfoldable pub SORTS : List Sig
SORTS = Value ∷ Value ∷ Target ∷ After ∷ Value ∷ After ∷ Value ∷ After ∷ Value ∷ After ∷ Value ∷ After ∷ Value ∷ After ∷ Value ∷ After ∷ Value ∷ After ∷ Value ∷ After ∷ Value ∷ After ∷ Value ∷ After ∷ Value ∷ After ∷ Value ∷ Value ∷ StoreMark ∷ Target ∷ JoinMark ∷ DecideMark ∷ DoMark ∷ TurnMark ∷ []

-- of each terminal
unfoldable pub TERMINAL_SORTS : List Sig
TERMINAL_SORTS = Shows Number ∷ Shows Name ∷ Shows Operator ∷ Shows Operator ∷ Shows Operator ∷ Shows Operator ∷ Shows Operator ∷ Shows Operator ∷ Shows Operator ∷ Shows Operator ∷ Shows Operator ∷ Shows Logic ∷ Shows Logic ∷ Shows Question ∷ Shows Assign ∷ Shows Colon ∷ Shows Opening ∷ Shows Closing ∷ []
