-- The scanner as a machine: the contexts, the pieces so far, a piece that has begun, and a backslash that
-- waits for the byte after it.
use Rattle.std.specs.Prelude.{ℕ, suc, ◌+◌, Bool, false, ◌&&◌, ◌||◌, not, nat_eq, nat_lt, List, [], ◌∷◌, ◌++◌, length, drop, ◌-◌, Option, Some, None, if◌then◌else◌}
use Rattle.sh_token_pieces.specs.declared.character.Character.{Character}
use Rattle.sh_token_pieces.specs.declared.character.Character.TheVariants.{Plain, Quoted, Raw}
use Rattle.sh_token_pieces.specs.declared.operator.Operator.{Operator}
use Rattle.sh_token_pieces.specs.declared.head.Head.{Head}
use Rattle.sh_token_pieces.specs.declared.piece.Piece.{Piece}
use Rattle.sh_token_pieces.specs.declared.piece.Piece.TheVariants.{Byte, Escaped, Backslash, SingleQuoted, DoubleQuotesOpen, DoubleQuotesClose, Dollar, Variable, Parameter, BraceOpen, BraceClose, ArithmeticOpen, ArithmeticClose, CommandsOpen, CommandsClose, Backquoted, WordOpen, WordClose, Blank, Comment, Bodies}
use Rattle.sh_token_pieces.specs.declared.pending.Pending.{Pending}
use Rattle.sh_token_pieces.specs.Bytes.{is_blank, is_operator_byte, is_end, is_redirection, is_short_parameter}
use Rattle.sh_base.specs.Names.{begins_name, continues_name}
use Rattle.sh_token_pieces.specs.Growth.{longer_operator, may_grow, operator_of}
use Rattle.sh_token_pieces.specs.Heads.{grown_head}
use Rattle.sh_token_pieces.specs.declared.context.Context.{Context}
use Rattle.sh_token_pieces.specs.declared.context.Context.TheVariants.{Commands, Word, Quotes, Arithmetic, Parenthesis}
use Rattle.sh_token_pieces.specs.Pieces.{is_text, top_of, between_tokens, has_single_quotes, has_double_quotes, is_quotes, is_braces, is_arithmetic, is_parenthesis, is_word, quotes, may_close, is_quoted, braces_of, with_token, word_over, word_begins, compounds_in, around_of, due_in, has_due}
use Rattle.sh_token_grammar.specs.Levels.{begins_compound}
use Rattle.sh_token_pieces.specs.TokenClasses.{OfOperator, OfBodies, class_of_operator}
use Rattle.sh_token_pieces.specs.Nested.{none_yet}
use Rattle.sh_token_pieces.specs.declared.here.Delimiter.{Delimiter}
use Rattle.sh_token_scanner.specs.declared.body.LineEnd.{LineEnd}
use Rattle.sh_token_pieces.specs.Here.{is_end_line, joins_next}

pub record State : Type 0 where
  pub contexts : List Context
  pub done : List Piece
  pub pending : Pending
  pub bytes : List ℕ
  -- how many levels are open, with the one of the piece that has begun
  pub levels : ℕ
  -- and how many may be
  pub limit : ℕ

-- the state after a character, and what the character does
pub data Stepped : Type 0 where
  On : (s : State) → Stepped
  -- a token of the text itself ended before the character, or ends with it
  Before : (s : State) → Stepped
  After : (s : State) → Stepped
  -- a level too many would open with the character, or with the `$` before it
  TooDeep : (s : State) → Stepped
  DollarTooDeep : (s : State) → Stepped
  -- a level too many has opened with the word of a substitution that ended before the character
  WordTooDeep : (s : State) → Stepped

-- a finished piece that changes no context, that opens a context, or that closes one
abbrev pub same : Piece → State → State
same m s = record { contexts = s.contexts; done = s.done ++ m ∷ []; pending = Pending.Nothing; bytes = []; levels = s.levels; limit = s.limit }

abbrev pub into : Context → Piece → State → State
into x m s = record { contexts = x ∷ s.contexts; done = s.done ++ m ∷ []; pending = Pending.Nothing; bytes = []; levels = s.levels; limit = s.limit }

abbrev pub outer : List Context → List Context
outer [] = []
outer (x ∷ xs) = xs

abbrev pub out : Piece → State → State
out m s = record { contexts = outer s.contexts; done = s.done ++ m ∷ []; pending = Pending.Nothing; bytes = []; levels = s.levels; limit = s.limit }

-- the levels, with the compound commands of the context y in place of the compound commands of x
abbrev pub in_place : Context → Context → ℕ → ℕ
in_place x y n = (n - compounds_in x) + compounds_in y

-- a piece that closes a level, with the compound commands in it
abbrev pub out_level : Piece → State → State
out_level m s =
    record { contexts = outer s.contexts; done = s.done ++ m ∷ []; pending = Pending.Nothing; bytes = []; levels = (s.levels - compounds_in (top_of s.contexts)) - 1; limit = s.limit }

abbrev pub level_over : Piece → State → State
level_over m s = record { contexts = s.contexts; done = s.done ++ m ∷ []; pending = Pending.Nothing; bytes = []; levels = s.levels - 1; limit = s.limit }

-- a word ends; r: < or > follows it
abbrev pub word_out : Bool → State → State
word_out r s = record { contexts = word_over r s.done s.contexts; done = s.done ++ WordClose r ∷ []; pending = Pending.Nothing; bytes = []; levels = in_place (around_of s.contexts) (top_of (word_over r s.done s.contexts)) s.levels; limit = s.limit }

abbrev pub operator_out : Operator → State → State
operator_out o s =
    record { contexts = with_token (OfOperator o) s.contexts; done = s.done ++ Piece.Operator o ∷ []; pending = Pending.Nothing; bytes = []; levels = in_place (top_of s.contexts) (top_of (with_token (OfOperator o) s.contexts)) s.levels; limit = s.limit }

-- the bodies of the here-documents that were due are over
abbrev pub bodies_out : State → State
bodies_out s =
    record { contexts = with_token OfBodies s.contexts; done = s.done ++ Bodies (s.bytes ++ 10 ∷ []) ∷ []; pending = Pending.Nothing; bytes = []; levels = in_place (top_of s.contexts) (top_of (with_token OfBodies s.contexts)) s.levels; limit = s.limit }

abbrev pub pend : Pending → State → State
pend p s = record { contexts = s.contexts; done = s.done; pending = p; bytes = []; levels = s.levels; limit = s.limit }

abbrev pub keep : Pending → ℕ → State → State
keep p b s = record { contexts = s.contexts; done = s.done; pending = p; bytes = s.bytes ++ b ∷ []; levels = s.levels; limit = s.limit }

-- a piece begins that opens a level
abbrev pub opens : Pending → State → Stepped
opens p s =
    if nat_lt s.levels s.limit
    then On (record { contexts = s.contexts; done = s.done; pending = p; bytes = []; levels = suc s.levels; limit = s.limit })
    else TooDeep s

-- the same where the piece begins with the `$` before the character
abbrev pub at_dollar : Stepped → Stepped
at_dollar (On s) = On s
at_dollar (Before s) = Before s
at_dollar (After s) = After s
at_dollar (TooDeep s) = DollarTooDeep s
at_dollar (DollarTooDeep s) = DollarTooDeep s
at_dollar (WordTooDeep s) = WordTooDeep s

abbrev pub is_top : List Context → Bool
is_top xs = is_text (top_of xs)

-- a byte of a word or of a part of one, in the innermost context, which doesn't end the word
unfoldable pub inner_byte : Context → State → ℕ → Stepped
inner_byte x s b =
    if nat_eq b 41 && is_arithmetic x then On (pend Pending.Parenthesis s)
    else if nat_eq b 41 && is_parenthesis x then On (out (Byte b) s)
    else if nat_eq b 40 && (is_arithmetic x || is_parenthesis x) then On (into Parenthesis (Byte b) s)
    else On (same (Byte b) s)

unfoldable pub word_byte : Context → State → ℕ → Stepped
word_byte x s b =
    if nat_eq b 39 && has_single_quotes x then On (pend Pending.Single s)
    else if nat_eq b 34 && has_double_quotes x then On (into Quotes DoubleQuotesOpen s)
    else if nat_eq b 34 && is_quotes x then On (out DoubleQuotesClose s)
    else if nat_eq b 125 && is_braces x then On (out_level BraceClose s)
    else if nat_eq b 36 then On (pend Pending.Dollar s)
    else if nat_eq b 96 then opens Pending.Backquotes s
    else inner_byte x s b

-- too many levels are open
abbrev pub is_over_full : State → Bool
is_over_full s = nat_lt s.limit s.levels

-- an operator of the text itself is over, or one of a substitution
abbrev pub over : Operator → State → Stepped
over o s =
    if is_top s.contexts then After s
    else if begins_compound (class_of_operator o) && is_over_full s then TooDeep s
    else On s

-- the operator read so far: it waits for a byte more, or it is over
abbrev pub grow : Operator → State → Stepped
grow o s = if may_grow o then On (pend (Pending.Operator o) s) else over o (operator_out o s)

-- a byte between tokens
unfoldable pub between : State → ℕ → Stepped
between s b =
    if is_blank b then On (same (Blank b) s)
    else if nat_eq b 35 then On (pend Pending.Comment s)
    else if nat_eq b 41 && may_close (top_of s.contexts) then On (out_level CommandsClose s)
    else if nat_eq b 10 && has_due (top_of s.contexts) then On (pend (Pending.Body 0 0 false) s)
    else if is_operator_byte b then grow (operator_of b) s
    else word_byte (Word (length s.done)) (into (Word (length s.done)) WordOpen s) b

-- a byte after a word; begins: a compound command may begin with the word
abbrev pub after_word : Bool → State → ℕ → Stepped
after_word begins s b =
    if is_top s.contexts then Before s
    else if begins && is_over_full s then WordTooDeep s
    else between s b

abbrev pub end_word : Bool → State → ℕ → Stepped
end_word r s b = after_word (word_begins r s.done (top_of s.contexts)) (word_out r s) b

-- a byte where no piece has begun
unfoldable pub plain_byte : State → ℕ → Stepped
plain_byte s b =
    if between_tokens (top_of s.contexts) then between s b
    else if is_word (top_of s.contexts) && is_end b then end_word (is_redirection b) s b
    else word_byte (top_of s.contexts) s b

-- a byte after a backslash, where no piece has begun
abbrev pub escape : Context → State → ℕ → Stepped
escape x s b = On (same (if quotes x b then Escaped b else Backslash b) s)

unfoldable pub quoted_byte : State → ℕ → Stepped
quoted_byte s b =
    if between_tokens (top_of s.contexts) then escape (Word (length s.done)) (into (Word (length s.done)) WordOpen s) b
    else escape (top_of s.contexts) s b

abbrev pub act : State → Character → Stepped
act s (Plain b) = plain_byte s b
act s (Quoted b) = quoted_byte s b
act s (Raw b) = On s

abbrev pub form_byte : State → ℕ → Stepped
form_byte s b =
    if begins_name b then On (keep Pending.Name b (pend Pending.Name s))
    else if is_short_parameter b then On (same (Parameter b) s)
    else if nat_eq b 123 then at_dollar (opens (Pending.Head Head.Start) s)
    else if nat_eq b 40 then at_dollar (opens Pending.DollarParenthesis s)
    else plain_byte (same Dollar s) b

unfoldable pub after_dollar : State → Character → Stepped
after_dollar s (Plain b) = form_byte s b
after_dollar s (Quoted b) = quoted_byte (same Dollar s) b
after_dollar s (Raw b) = On s

unfoldable pub after_parenthesis : State → Character → Stepped
after_parenthesis s (Plain b) =
    if nat_eq b 40 then On (into Arithmetic ArithmeticOpen s) else plain_byte (into (Commands none_yet) CommandsOpen s) b
after_parenthesis s (Quoted b) = quoted_byte (into (Commands none_yet) CommandsOpen s) b
after_parenthesis s (Raw b) = On s

unfoldable pub in_name : State → Character → Stepped
in_name s (Plain b) = if continues_name b then On (keep Pending.Name b s) else plain_byte (same (Variable s.bytes) s) b
in_name s (Quoted b) = quoted_byte (same (Variable s.bytes) s) b
in_name s (Raw b) = On s

abbrev pub head_byte : Head → State → ℕ → Option Head → Stepped
head_byte h s b (Some longer) = On (keep (Pending.Head longer) b s)
head_byte h s b None = plain_byte (into (braces_of (is_quoted (top_of s.contexts)) (Some h)) (BraceOpen s.bytes) s) b

unfoldable pub in_head : Head → State → Character → Stepped
in_head h s (Plain b) = head_byte h s b (grown_head h b)
in_head h s (Quoted b) = quoted_byte (into (braces_of (is_quoted (top_of s.contexts)) (Some h)) (BraceOpen s.bytes) s) b
in_head h s (Raw b) = On s

unfoldable pub in_single : State → Character → Stepped
in_single s (Raw b) = if nat_eq b 39 then On (same (SingleQuoted s.bytes) s) else On (keep Pending.Single b s)
in_single s (Plain b) = On s
in_single s (Quoted b) = On s

unfoldable pub in_backquotes : State → Character → Stepped
in_backquotes s (Raw b) =
    if nat_eq b 96 then On (level_over (Backquoted s.bytes) s)
    else if nat_eq b 92 then On (keep Pending.BackquotesEscape b s)
    else On (keep Pending.Backquotes b s)
in_backquotes s (Plain b) = On s
in_backquotes s (Quoted b) = On s

abbrev pub in_escape : State → Character → Stepped
in_escape s (Raw b) = On (keep Pending.Backquotes b s)
in_escape s (Plain b) = On s
in_escape s (Quoted b) = On s

unfoldable pub at_parenthesis : State → Character → Stepped
at_parenthesis s (Plain b) =
    if nat_eq b 41 then On (out_level ArithmeticClose s) else plain_byte (same (Byte 41) s) b
at_parenthesis s (Quoted b) = quoted_byte (same (Byte 41) s) b
at_parenthesis s (Raw b) = On s

abbrev pub then_act : State → Character → Stepped
then_act s c = if is_top s.contexts then Before s else act s c

abbrev pub grow_to : Operator → Option Operator → State → ℕ → Stepped
grow_to o (Some longer) s b = grow longer s
grow_to o None s b = then_act (operator_out o s) (Plain b)

unfoldable pub in_operator : Operator → State → Character → Stepped
in_operator o s (Plain b) = grow_to o (longer_operator o b) s b
in_operator o s (Quoted b) = then_act (operator_out o s) (Quoted b)
in_operator o s (Raw b) = On s

unfoldable pub in_comment : State → Character → Stepped
in_comment s (Raw b) = if nat_eq b 10 then plain_byte (same (Comment s.bytes) s) b else On (keep Pending.Comment b s)
in_comment s (Plain b) = On s
in_comment s (Quoted b) = On s

-- the line that began after so many bytes of the bodies
abbrev pub line_of : ℕ → State → List ℕ
line_of line s = drop line s.bytes

-- what a finished line of a body is, where `all` bodies are due and this body and those after it are still
-- awaited; joined: the line before is joined with this line
abbrev pub body_end : ℕ → List Delimiter → LineEnd
body_end all [] = LineEnd.LastBody
body_end all (d ∷ ds) = LineEnd.Body (all - length (d ∷ ds))

abbrev pub line_end : ℕ → List Delimiter → Bool → List ℕ → LineEnd
line_end all [] joined line = LineEnd.Unawaited
line_end all (d ∷ ds) joined line = if not joined && is_end_line d line then body_end all ds else LineEnd.Line (joins_next d line)

-- the state after a finished line, after so many bodies
abbrev pub line_over : LineEnd → ℕ → State → Stepped
line_over LineEnd.Unawaited bodies s = On s
line_over LineEnd.LastBody bodies s = On (bodies_out s)
line_over (LineEnd.Body n) bodies s = On (keep (Pending.Body (suc (length s.bytes)) n false) 10 s)
line_over (LineEnd.Line joins) bodies s = On (keep (Pending.Body (suc (length s.bytes)) bodies joins) 10 s)

-- what a finished line is, after so many bodies, where these bodies are due in all
abbrev pub line_at : List Delimiter → ℕ → Bool → List ℕ → LineEnd
line_at due bodies joined line = line_end (length due) (drop bodies due) joined line

unfoldable pub in_body : ℕ → ℕ → Bool → State → Character → Stepped
in_body line bodies joined s (Raw b) =
    if nat_eq b 10 then line_over (line_at (due_in (top_of s.contexts)) bodies joined (line_of line s)) bodies s else On (keep (Pending.Body line bodies joined) b s)
in_body line bodies joined s (Plain b) = On s
in_body line bodies joined s (Quoted b) = On s

abbrev pub step_in : Pending → State → Character → Stepped
step_in Pending.Nothing s c = act s c
step_in Pending.Dollar s c = after_dollar s c
step_in Pending.DollarParenthesis s c = after_parenthesis s c
step_in Pending.Name s c = in_name s c
step_in (Pending.Head h) s c = in_head h s c
step_in Pending.Single s c = in_single s c
step_in Pending.Backquotes s c = in_backquotes s c
step_in Pending.BackquotesEscape s c = in_escape s c
step_in Pending.Parenthesis s c = at_parenthesis s c
step_in (Pending.Operator o) s c = in_operator o s c
step_in Pending.Comment s c = in_comment s c
step_in (Pending.Body l n j) s c = in_body l n j s c

abbrev pub step : State → Character → Stepped
step s c = step_in s.pending s c
