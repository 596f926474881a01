-- Redirections (XCU 2.7): which descriptor, and what is put in its place.
use Rattle.std.specs.Prelude.{ℕ, List, [], ◌∷◌, ◌&&◌, Bool, true, false, Option, Some, None, Result, Ok, Err, codes, length, nat_le, if◌then◌else◌}
use Rattle.std.specs.Char.{is_ascii_digit}
use Rattle.std.specs.List.{list_all}
use Rattle.std.specs.Str.{bytes_eq}
use Rattle.sh_base.specs.Decimals.{at_most, value_of}
use Rattle.sh_exec_parts.specs.Simple.{Opened}
use Rattle.sh_exec_parts.specs.declared.redirection.Action.{Action}
use Rattle.sh_exec_parts.specs.declared.redirection.Action.TheVariants.{Open, Duplicate, Close, Here}
use Rattle.sh_exec_parts.specs.declared.redirection.Redirection.{Redirection}
use Rattle.sh_files.specs.declared.opening.Opening.{Opening}
use Rattle.sh_token.specs.declared.token.Token.{Token}
use Rattle.sh_token.specs.declared.token.TokenFault.{TokenFault}
use Rattle.sh_token.specs.declared.token.TokenKind.{TokenKind}
use Rattle.sh_token.specs.FirstToken.{answer_at}
use Rattle.sh_token.specs.Found.{first_token}
use Rattle.sh_token_pieces.specs.Here.{delimiter_text}
use Rattle.sh_syntax.specs.declared.tree.Redirect.{Redirect}
use Rattle.sh_syntax.specs.declared.tree.RedirectOperator.{RedirectOperator}
use Rattle.sh_syntax.specs.declared.tree.RedirectOperator.TheVariants.{Input, Output, Clobber, Append, DuplicateInput, DuplicateOutput, ReadWrite}
use Rattle.sh_syntax.specs.declared.tree.Command.TheOpen as layer
use Rattle.sh_syntax.specs.declared.tree.Command.TheViews as view

-- ---- the descriptor: 0 for input, 1 for output, or the number before the operator, if it is at most 9
abbrev pub default_number : RedirectOperator → ℕ
default_number Input = 0
default_number Output = 1
default_number Clobber = 1
default_number Append = 1
default_number DuplicateInput = 0
default_number DuplicateOutput = 1
default_number ReadWrite = 0

abbrev pub number_or : ℕ → Option (List ℕ) → Option ℕ
number_or default None = Some default
number_or default (Some digits) = at_most 9 (value_of digits)

abbrev pub default_of : Opened layer.Target-F → ℕ
default_of (layer.Named operator word) = default_number operator
default_of (layer.Here operator delimiter body) = 0

-- ---- what is put in its place
abbrev pub to_read : Opening
to_read = record { read = true; write = false; create = false; exclusive = false; truncate = false }

-- under `set -C` a plain `>` refuses a regular file that is there (2.7.2)
abbrev pub to_write : Bool → Opening
to_write exclusive = record { read = false; write = true; create = true; exclusive = exclusive; truncate = true }

abbrev pub to_append : Opening
to_append = record { read = false; write = true; create = true; exclusive = false; truncate = false }

abbrev pub to_read_and_write : Opening
to_read_and_write = record { read = true; write = true; create = true; exclusive = false; truncate = false }

-- a word of digits names a descriptor (2.7.5, 2.7.6); no script has one above 9
abbrev pub named_descriptor : List ℕ → Option ℕ
named_descriptor word = if nat_le 1 (length word) && list_all is_ascii_digit word then at_most 9 (value_of word) else None

abbrev pub duplicate_action : List ℕ → Action
duplicate_action word = if bytes_eq word (codes "-") then Close else Duplicate (named_descriptor word)

abbrev pub action_by : Bool → RedirectOperator → List ℕ → Action
action_by no_clobber Input word = Open to_read false
action_by no_clobber Output word = Open (to_write no_clobber) false
action_by no_clobber Clobber word = Open (to_write false) false
action_by no_clobber Append word = Open to_append true
action_by no_clobber DuplicateInput word = duplicate_action word
action_by no_clobber DuplicateOutput word = duplicate_action word
action_by no_clobber ReadWrite word = Open to_read_and_write false

-- a here-document's field is its text (2.7.4)
abbrev pub action_of : Bool → Opened layer.Target-F → List ℕ → Action
action_of no_clobber (layer.Named operator word) field = action_by no_clobber operator field
action_of no_clobber (layer.Here operator delimiter body) field = Here field

-- the word of which this is the source, without its quotes (2.6.7)
abbrev pub kind_text : List ℕ → TokenKind → List ℕ
kind_text source (TokenKind.Word ms) = delimiter_text ms
kind_text source (TokenKind.Operator o) = source
kind_text source TokenKind.Number = source
kind_text source TokenKind.End = source

abbrev pub token_text : List ℕ → Result Token TokenFault → List ℕ
token_text source (Ok token) = kind_text source token.kind
token_text source (Err e) = source

unfoldable pub delimiter_shown : List ℕ → List ℕ
delimiter_shown source = token_text source (answer_at 0 (first_token true 500 source))

-- what a message names: the expanded word, of a here-document its delimiter
abbrev pub word_shown : Opened layer.Target-F → List ℕ → List ℕ
word_shown (layer.Named operator word) field = field
word_shown (layer.Here operator delimiter body) field = delimiter_shown (view.out-Word delimiter).source

abbrev pub redirection_to : Bool → Option (List ℕ) → Opened layer.Target-F → List ℕ → Redirection
redirection_to no_clobber number target field = record {
  number = number_or (default_of target) number;
  action = action_of no_clobber target field;
  word = word_shown target field;
}

-- a redirection whose word was expanded to this field
unfoldable pub redirection_of : Bool → Redirect → List ℕ → Redirection
redirection_of no_clobber redirect field =
    redirection_to no_clobber (view.out-Redirect redirect).number (view.out-Target (view.out-Redirect redirect).target) field

-- each redirection with its field
abbrev pub redirections_of : Bool → List Redirect → List (List ℕ) → List Redirection
redirections_of no_clobber [] fields = []
redirections_of no_clobber (redirect ∷ redirects) [] = []
redirections_of no_clobber (redirect ∷ redirects) (field ∷ fields) = redirection_of no_clobber redirect field ∷ redirections_of no_clobber redirects fields

-- the same item by item: what an item gives, and the fields after it
abbrev pub item_prepared : Bool → Option Redirect → List (List ℕ) → List Redirection
item_prepared no_clobber None fields = []
item_prepared no_clobber (Some redirect) [] = []
item_prepared no_clobber (Some redirect) (field ∷ fields) = redirection_of no_clobber redirect field ∷ []

abbrev pub fields_behind : Option Redirect → List (List ℕ) → List (List ℕ)
fields_behind None fields = fields
fields_behind (Some redirect) [] = []
fields_behind (Some redirect) (field ∷ fields) = fields
