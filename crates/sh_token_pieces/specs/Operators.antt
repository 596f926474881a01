-- The operators and their texts (XCU 2.10.2).
use Rattle.std.specs.Prelude.{ℕ, List, [], ◌∷◌}
use Rattle.sh_token_pieces.specs.declared.operator.Operator.{Operator}
use Rattle.sh_token_pieces.specs.declared.operator.Operator.TheVariants.{And, Semicolon, Pipe, Less, Great, LeftParenthesis, RightParenthesis, Newline, AndIf, OrIf, DoubleSemicolon, DoubleLess, DoubleGreat, LessAnd, GreatAnd, LessGreat, DoubleLessDash, Clobber}

-- how an operator is written
abbrev pub operator_text : Operator → List ℕ
operator_text And = 38 ∷ []
operator_text Semicolon = 59 ∷ []
operator_text Pipe = 124 ∷ []
operator_text Less = 60 ∷ []
operator_text Great = 62 ∷ []
operator_text LeftParenthesis = 40 ∷ []
operator_text RightParenthesis = 41 ∷ []
operator_text Newline = 10 ∷ []
operator_text AndIf = 38 ∷ 38 ∷ []
operator_text OrIf = 124 ∷ 124 ∷ []
operator_text DoubleSemicolon = 59 ∷ 59 ∷ []
operator_text DoubleLess = 60 ∷ 60 ∷ []
operator_text DoubleGreat = 62 ∷ 62 ∷ []
operator_text LessAnd = 60 ∷ 38 ∷ []
operator_text GreatAnd = 62 ∷ 38 ∷ []
operator_text LessGreat = 60 ∷ 62 ∷ []
operator_text DoubleLessDash = 60 ∷ 60 ∷ 45 ∷ []
operator_text Clobber = 62 ∷ 124 ∷ []
