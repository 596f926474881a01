-- How each piece of a text is written (XCU 2.2, 2.3, 2.6).
use Rattle.std.specs.Prelude.{List, [], ◌∷◌, ◌++◌}
use Rattle.sh_token_pieces.specs.declared.character.Character.{Character}
use Rattle.sh_token_pieces.specs.declared.character.Character.TheVariants.{Plain, Quoted, Raw}
use Rattle.sh_token_pieces.specs.declared.piece.Piece.{Piece}
use Rattle.sh_token_pieces.specs.declared.piece.Piece.TheVariants.{Byte, Escaped, Backslash, SingleQuoted, DoubleQuotesOpen, DoubleQuotesClose, Dollar, Variable, Parameter, BraceOpen, BraceClose, ArithmeticOpen, ArithmeticClose, CommandsOpen, CommandsClose, Backquoted, WordOpen, WordClose, Blank, Comment, Bodies}
use Rattle.sh_token_pieces.specs.Operators.{operator_text}
use Rattle.sh_token_pieces.specs.Characters.{plain, raw}

abbrev pub spell_piece : Piece → List Character
spell_piece (Byte b) = Plain b ∷ []
spell_piece (Escaped b) = Quoted b ∷ []
spell_piece (Backslash b) = Quoted b ∷ []
spell_piece (SingleQuoted bs) = Plain 39 ∷ (raw bs ++ Raw 39 ∷ [])
spell_piece DoubleQuotesOpen = Plain 34 ∷ []
spell_piece DoubleQuotesClose = Plain 34 ∷ []
spell_piece Dollar = Plain 36 ∷ []
spell_piece (Variable bs) = Plain 36 ∷ plain bs
spell_piece (Parameter b) = Plain 36 ∷ Plain b ∷ []
spell_piece (BraceOpen bs) = Plain 36 ∷ Plain 123 ∷ plain bs
spell_piece BraceClose = Plain 125 ∷ []
spell_piece ArithmeticOpen = Plain 36 ∷ Plain 40 ∷ Plain 40 ∷ []
spell_piece ArithmeticClose = Plain 41 ∷ Plain 41 ∷ []
spell_piece CommandsOpen = Plain 36 ∷ Plain 40 ∷ []
spell_piece CommandsClose = Plain 41 ∷ []
spell_piece (Backquoted bs) = Plain 96 ∷ (raw bs ++ Raw 96 ∷ [])
spell_piece WordOpen = []
spell_piece (WordClose r) = []
spell_piece (Blank b) = Plain b ∷ []
spell_piece (Comment bs) = Plain 35 ∷ raw bs
spell_piece (Bodies bs) = Plain 10 ∷ raw bs
spell_piece (Piece.Operator o) = plain (operator_text o)
