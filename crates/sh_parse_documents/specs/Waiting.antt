-- Here-documents between their operator and their body (XCU 2.7.4).
use Rattle.std.specs.Prelude.{List, [], Option, None}
use Rattle.sh_token_pieces.specs.declared.here.Tabs.{Tabs}
use Rattle.sh_token_pieces.specs.declared.here.Delimiter.{Delimiter}
use Rattle.sh_token_pieces.specs.declared.operator.Operator.{Operator}
use Rattle.sh_token_pieces.specs.Here.{tabs_of}
use Rattle.sh_token_pieces.specs.TokenClasses.{with_delimiter}
use Rattle.sh_token.specs.declared.token.TokenKind.{TokenKind}

pub record Waiting : Type 0 where
  -- the next word is the delimiter of a here-document
  pub expected : Option Tabs
  -- the here-documents whose bodies come after the next newline, in order
  pub due : List Delimiter

abbrev pub nothing : Waiting
nothing = record { expected = None; due = [] }

abbrev pub behind_operator : Operator → Waiting → Waiting
behind_operator Operator.Newline w = nothing
behind_operator o w = record { expected = tabs_of o; due = w.due }

-- what is awaited after a token
abbrev pub behind_token : TokenKind → Waiting → Waiting
behind_token (TokenKind.Operator o) w = behind_operator o w
behind_token (TokenKind.Word ms) w = record { expected = None; due = with_delimiter w.expected ms w.due }
behind_token TokenKind.Number w = record { expected = None; due = w.due }
behind_token TokenKind.End w = w

-- the here-documents whose bodies come directly after a token
abbrev pub due_at_operator : Operator → Waiting → List Delimiter
due_at_operator Operator.Newline w = w.due
due_at_operator o w = []

abbrev pub due_at : TokenKind → Waiting → List Delimiter
due_at (TokenKind.Operator o) w = due_at_operator o w
due_at (TokenKind.Word ms) w = []
due_at TokenKind.Number w = []
due_at TokenKind.End w = []
