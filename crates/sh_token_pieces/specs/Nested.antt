-- What is known of a command substitution after some of its tokens.
use Rattle.std.specs.Prelude.{ℕ, List, [], Option, None}
use Rattle.sh_grammar.specs.declared.Token.{Token}
use Rattle.sh_token_grammar.specs.Levels.{open_compounds}
use Rattle.sh_token_grammar.specs.Shell.{substitution}
use Rattle.sh_token_pieces.specs.declared.here.Tabs.{Tabs}
use Rattle.sh_token_pieces.specs.declared.here.Delimiter.{Delimiter}

pub record Nested : Type 0 where
  -- its tokens, up to and with the first that can't continue a compound list
  pub tokens : List Token
  -- the next word is the delimiter of a here-document
  pub expected : Option Tabs
  -- the here-documents whose bodies come after the next newline, in order
  pub due : List Delimiter

abbrev pub none_yet : Nested
none_yet = record { tokens = []; expected = None; due = [] }

-- how many compound commands are open after the tokens; none after a token that can't continue a compound
-- list
unfoldable pub open_in : List Token → ℕ
open_in tokens = open_compounds substitution tokens
