-- What a text is made of (XCU 2.2, 2.3, 2.6): pieces, how each is written, and where each may be.
use Rattle.std.specs.Prelude.{◌≡◌, ℕ, suc, ◌+◌, Bool, true, false, ◌||◌, ◌&&◌, not, nat_eq, nat_lt, List, [], ◌∷◌, ◌++◌, length, drop, Option, Some, None, if◌then◌else◌}
use Rattle.std.specs.List.{list_all}
use Rattle.std.specs.Str.{bytes_eq}
use Rattle.sh_grammar.specs.Computed.{is_whole}
use Rattle.sh_base.specs.Names.{is_name, continues_name}
use Rattle.sh_token_grammar.specs.Levels.{begins_compound}
use Rattle.sh_token_grammar.specs.Shell.{substitution}
use Rattle.sh_token_pieces.specs.declared.character.Character.TheVariants.{Plain, Quoted, Raw}
use Rattle.sh_token_pieces.specs.declared.operator.Operator.{Operator}
use Rattle.sh_token_pieces.specs.declared.head.Head.{Head}
use Rattle.sh_token_pieces.specs.declared.context.Context.{Context}
use Rattle.sh_token_pieces.specs.declared.context.Context.TheVariants.{Top, Commands, Word, Quotes, Braces, Arithmetic, Parenthesis, Body}
use Rattle.sh_token_pieces.specs.declared.piece.Piece.{Piece}
use Rattle.sh_token_pieces.specs.declared.piece.Piece.TheVariants.{Byte, Escaped, Backslash, SingleQuoted, DoubleQuotesOpen, DoubleQuotesClose, Dollar, Variable, Parameter, BraceOpen, BraceClose, ArithmeticOpen, ArithmeticClose, CommandsOpen, CommandsClose, Backquoted, WordOpen, WordClose, Blank, Comment, Bodies}
use Rattle.sh_token_pieces.specs.Spelling.{spell_piece}
use Rattle.sh_token_pieces.specs.declared.here.Delimiter.{Delimiter}
use Rattle.sh_token_pieces.specs.Here.{lines, are_bodies}
use Rattle.sh_token_pieces.specs.Nested.{none_yet, open_in}
use Rattle.sh_token_pieces.specs.TokenClasses.{Told, OfOperator, OfWord, OfBodies, with_told, class_of_word, class_of_operator}
use Rattle.sh_token_pieces.specs.Bytes.{is_blank, is_end, is_redirection, is_short_parameter, is_form, is_quoted_escape, is_no_quote, is_no_newline}
use Rattle.sh_token_pieces.specs.Operators.{operator_text}
use Rattle.sh_token_pieces.specs.Growth.{longer_operator, may_grow}
use Rattle.sh_token_pieces.specs.Heads.{head_of, grows_head, reads_bare}
use Rattle.sh_token_pieces.specs.Characters.{Written, Ahead, Next, InputEnd, Unknown, ahead, next_is}

-- a byte that stands for itself where `next` follows
abbrev pub stands : Context → ℕ → Ahead → Bool
stands Top b next = false
stands (Commands ts) b next = false
stands (Word n) b next = not (nat_eq b 34 || (nat_eq b 36 || nat_eq b 96)) && not (nat_eq b 39 || is_end b)
stands Quotes b next = not (nat_eq b 34 || (nat_eq b 36 || nat_eq b 96))
stands (Braces false) b next = not (nat_eq b 34 || (nat_eq b 36 || nat_eq b 96)) && not (nat_eq b 39 || nat_eq b 125)
stands (Braces true) b next = not (nat_eq b 34 || (nat_eq b 36 || nat_eq b 96)) && not (nat_eq b 125)
stands Arithmetic b next = not (nat_eq b 36 || nat_eq b 96) && not (nat_eq b 41 && next_is (λ c. nat_eq c 41) next)
stands Parenthesis b next = not (nat_eq b 36 || nat_eq b 96)
stands Body b next = not (nat_eq b 36 || nat_eq b 96)

-- whether a backslash quotes a byte there (XCU 2.2.1, 2.2.3)
abbrev pub quotes : Context → ℕ → Bool
quotes Top b = false
quotes (Commands ts) b = false
quotes (Word n) b = true
quotes Quotes b = is_quoted_escape b || nat_eq b 34
quotes (Braces false) b = true
quotes (Braces true) b = is_quoted_escape b || (nat_eq b 34 || nat_eq b 125)
quotes Arithmetic b = is_quoted_escape b
quotes Parenthesis b = is_quoted_escape b
quotes Body b = is_quoted_escape b

-- a word or a part of one
abbrev pub in_word : Context → Bool
in_word Top = false
in_word (Commands ts) = false
in_word (Word n) = true
in_word Quotes = true
in_word (Braces q) = true
in_word Arithmetic = true
in_word Parenthesis = true
in_word Body = true

abbrev pub has_single_quotes : Context → Bool
has_single_quotes Top = false
has_single_quotes (Commands ts) = false
has_single_quotes (Word n) = true
has_single_quotes Quotes = false
has_single_quotes (Braces q) = not q
has_single_quotes Arithmetic = false
has_single_quotes Parenthesis = false
has_single_quotes Body = false

abbrev pub has_double_quotes : Context → Bool
has_double_quotes Top = false
has_double_quotes (Commands ts) = false
has_double_quotes (Word n) = true
has_double_quotes Quotes = false
has_double_quotes (Braces q) = true
has_double_quotes Arithmetic = false
has_double_quotes Parenthesis = false
has_double_quotes Body = false

-- whether the word of a `${` there is read as between double quotes
abbrev pub is_quoted : Context → Bool
is_quoted Top = false
is_quoted (Commands ts) = false
is_quoted (Word n) = false
is_quoted Quotes = true
is_quoted (Braces q) = q
is_quoted Arithmetic = true
is_quoted Parenthesis = true
is_quoted Body = true

-- the tokens so far are a compound list or newlines
abbrev pub may_close : Context → Bool
may_close Top = false
may_close (Commands ts) = is_whole substitution ts.tokens
may_close (Word n) = false
may_close Quotes = false
may_close (Braces q) = false
may_close Arithmetic = false
may_close Parenthesis = false
may_close Body = false

-- the here-documents whose bodies come after the next newline
abbrev pub due_in : Context → List Delimiter
due_in Top = []
due_in (Commands ts) = ts.due
due_in (Word n) = []
due_in Quotes = []
due_in (Braces q) = []
due_in Arithmetic = []
due_in Parenthesis = []
due_in Body = []

abbrev pub are_some : List Delimiter → Bool
are_some [] = false
are_some (d ∷ ds) = true

abbrev pub has_due : Context → Bool
has_due x = are_some (due_in x)

abbrev pub between_tokens : Context → Bool
between_tokens Top = true
between_tokens (Commands ts) = true
between_tokens (Word n) = false
between_tokens Quotes = false
between_tokens (Braces q) = false
between_tokens Arithmetic = false
between_tokens Parenthesis = false
between_tokens Body = false

abbrev pub begins_word : Ahead → Bool
begins_word (Next (Plain b)) = not (is_end b) && not (nat_eq b 35)
begins_word (Next (Quoted b)) = true
begins_word (Next (Raw b)) = false
begins_word InputEnd = false
begins_word Unknown = false

abbrev pub ends_word : Ahead → Bool
ends_word (Next (Plain b)) = is_end b
ends_word (Next (Quoted b)) = false
ends_word (Next (Raw b)) = false
ends_word InputEnd = true
ends_word Unknown = false

-- a comment goes up to a newline or the end of the input; a backslash before the newline belongs to it
abbrev pub ends_comment : Bool → List ℕ → Bool
ends_comment e [] = e
ends_comment e (b ∷ bs) = nat_eq b 10

-- an operator ends where its text and the next byte aren't an operator together (XCU 2.3 rules 2 and 3)
abbrev pub is_some : Option Operator → Bool
is_some None = false
is_some (Some o) = true

abbrev pub ends_operator : Operator → Ahead → Bool
ends_operator o (Next (Plain b)) = not (is_some (longer_operator o b))
ends_operator o (Next (Quoted b)) = true
ends_operator o (Next (Raw b)) = true
ends_operator o InputEnd = true
ends_operator o Unknown = not (may_grow o)

-- between backquotes a backslash belongs to the byte after it
abbrev pub is_backquoted : List ℕ → Bool
is_backquoted [] = true
is_backquoted (b ∷ []) = not (nat_eq b 96) && not (nat_eq b 92)
is_backquoted (b ∷ c ∷ bs) = if nat_eq b 92 then is_backquoted bs else not (nat_eq b 96) && is_backquoted (c ∷ bs)

abbrev pub is_head : Option Head → Ahead → Bool
is_head None next = false
is_head (Some h) next = not (next_is (grows_head h) next)

abbrev pub is_word : Context → Bool
is_word Top = false
is_word (Commands ts) = false
is_word (Word n) = true
is_word Quotes = false
is_word (Braces q) = false
is_word Arithmetic = false
is_word Parenthesis = false
is_word Body = false

-- after how many pieces a word began
abbrev pub word_place : Context → Option ℕ
word_place Top = None
word_place (Commands ts) = None
word_place (Word n) = Some n
word_place Quotes = None
word_place (Braces q) = None
word_place Arithmetic = None
word_place Parenthesis = None
word_place Body = None

abbrev pub is_quotes : Context → Bool
is_quotes Top = false
is_quotes (Commands ts) = false
is_quotes (Word n) = false
is_quotes Quotes = true
is_quotes (Braces q) = false
is_quotes Arithmetic = false
is_quotes Parenthesis = false
is_quotes Body = false

abbrev pub is_braces : Context → Bool
is_braces Top = false
is_braces (Commands ts) = false
is_braces (Word n) = false
is_braces Quotes = false
is_braces (Braces q) = true
is_braces Arithmetic = false
is_braces Parenthesis = false
is_braces Body = false

-- arithmetic, no inner parenthesis being open
abbrev pub is_arithmetic : Context → Bool
is_arithmetic Top = false
is_arithmetic (Commands ts) = false
is_arithmetic (Word n) = false
is_arithmetic Quotes = false
is_arithmetic (Braces q) = false
is_arithmetic Arithmetic = true
is_arithmetic Parenthesis = false
is_arithmetic Body = false

abbrev pub is_right_parenthesis : Operator → Bool
is_right_parenthesis o = bytes_eq (operator_text o) (41 ∷ [])

abbrev pub is_newline : Operator → Bool
is_newline o = bytes_eq (operator_text o) (10 ∷ [])

-- the operator is another piece there: the `)` of a substitution, or a newline after which bodies come
abbrev pub is_more : Operator → Context → Bool
is_more o x = is_right_parenthesis o && may_close x || is_newline o && has_due x

abbrev pub same_as : Bool → Bool → Bool
same_as true b = b
same_as false b = not b

-- the piece may be in this context before these bytes; e: they are the last of the input
abbrev pub fits : Bool → Context → Piece → List ℕ → Bool
fits e x (Byte b) after = stands x b (ahead e after)
fits e x (Escaped b) after = quotes x b
fits e x (Backslash b) after = in_word x && not (quotes x b)
fits e x (SingleQuoted bs) after = has_single_quotes x && list_all is_no_quote bs
fits e x DoubleQuotesOpen after = has_double_quotes x
fits e x DoubleQuotesClose after = is_quotes x
fits e x Dollar after = in_word x && not (next_is is_form (ahead e after))
fits e x (Variable bs) after = in_word x && (is_name bs && not (next_is continues_name (ahead e after)))
fits e x (Parameter b) after = in_word x && is_short_parameter b
fits e x (BraceOpen bs) after = in_word x && is_head (head_of bs) (ahead e after)
fits e x BraceClose after = is_braces x
fits e x ArithmeticOpen after = in_word x
fits e x ArithmeticClose after = is_arithmetic x
-- `$((` always begins arithmetic
fits e x CommandsOpen after = in_word x && not (next_is (λ b. nat_eq b 40) (ahead e after))
-- a substitution ends at the first `)` token before which its tokens are a compound list, or newlines alone
fits e x CommandsClose after = may_close x
fits e x (Backquoted bs) after = in_word x && is_backquoted bs
fits e x WordOpen after = between_tokens x && begins_word (ahead e after)
fits e x (WordClose r) after = is_word x && (ends_word (ahead e after) && same_as r (next_is is_redirection (ahead e after)))
fits e x (Blank b) after = between_tokens x && is_blank b
fits e x (Comment bs) after = between_tokens x && (list_all is_no_newline bs && ends_comment e after)
-- the bodies of all here-documents that are due follow the newline (2.7.4)
fits e x (Bodies bs) after = has_due x && are_bodies (due_in x) false (lines [] bs)
fits e x (Piece.Operator o) after = between_tokens x && (ends_operator o (ahead e after) && not (is_more o x))

-- a context with one more token, where it is a substitution
abbrev pub with_class : Told → Context → Context
with_class c (Commands ts) = Commands (with_told c ts)
with_class c Top = Top
with_class c (Word n) = Word n
with_class c Quotes = Quotes
with_class c (Braces q) = Braces q
with_class c Arithmetic = Arithmetic
with_class c Parenthesis = Parenthesis
with_class c Body = Body

abbrev pub with_token : Told → List Context → List Context
with_token c [] = []
with_token c (x ∷ xs) = with_class c x ∷ xs

-- r: < or > follows the word
abbrev pub class_behind : Bool → List Piece → Context → List Context → List Context
class_behind r done (Word n) xs = with_token (OfWord r (drop (suc n) done)) xs
class_behind r done Top xs = xs
class_behind r done (Commands ts) xs = xs
class_behind r done Quotes xs = xs
class_behind r done (Braces q) xs = xs
class_behind r done Arithmetic xs = xs
class_behind r done Parenthesis xs = xs
class_behind r done Body xs = xs

abbrev pub word_over : Bool → List Piece → List Context → List Context
word_over r done [] = []
word_over r done (x ∷ xs) = class_behind r done x xs

abbrev pub is_parenthesis : Context → Bool
is_parenthesis Top = false
is_parenthesis (Commands ts) = false
is_parenthesis (Word n) = false
is_parenthesis Quotes = false
is_parenthesis (Braces q) = false
is_parenthesis Arithmetic = false
is_parenthesis Parenthesis = true
is_parenthesis Body = false

-- inner parentheses of arithmetic open and close
abbrev pub behind_byte : ℕ → Context → List Context → List Context
behind_byte b x xs =
    if nat_eq b 40 && (is_arithmetic x || is_parenthesis x) then Parenthesis ∷ x ∷ xs
    else if nat_eq b 41 && is_parenthesis x then xs
    else x ∷ xs

abbrev pub braces_of : Bool → Option Head → Context
braces_of q None = Braces q
braces_of q (Some h) = Braces (q && not (reads_bare h))

-- the contexts after a piece, the innermost first; `done` is what came before it
abbrev pub behind : List Piece → Context → List Context → Piece → List Context
behind done x xs (Byte b) = behind_byte b x xs
behind done x xs (Escaped b) = x ∷ xs
behind done x xs (Backslash b) = x ∷ xs
behind done x xs (SingleQuoted bs) = x ∷ xs
behind done x xs DoubleQuotesOpen = Quotes ∷ x ∷ xs
behind done x xs DoubleQuotesClose = xs
behind done x xs Dollar = x ∷ xs
behind done x xs (Variable bs) = x ∷ xs
behind done x xs (Parameter b) = x ∷ xs
behind done x xs (BraceOpen bs) = braces_of (is_quoted x) (head_of bs) ∷ x ∷ xs
behind done x xs BraceClose = xs
behind done x xs ArithmeticOpen = Arithmetic ∷ x ∷ xs
behind done x xs ArithmeticClose = xs
behind done x xs CommandsOpen = Commands none_yet ∷ x ∷ xs
behind done x xs CommandsClose = xs
behind done x xs (Backquoted bs) = x ∷ xs
behind done x xs WordOpen = Word (length done) ∷ x ∷ xs
behind done x xs (WordClose r) = word_over r done (x ∷ xs)
behind done x xs (Blank b) = x ∷ xs
behind done x xs (Comment bs) = x ∷ xs
behind done x xs (Bodies bs) = with_token OfBodies (x ∷ xs)
behind done x xs (Piece.Operator o) = with_token (OfOperator o) (x ∷ xs)

abbrev pub is_text : Context → Bool
is_text Top = true
is_text (Commands ts) = false
is_text (Word n) = false
is_text Quotes = false
is_text (Braces q) = false
is_text Arithmetic = false
is_text Parenthesis = false
is_text Body = false

-- the body of a here-document, no form being open in it
abbrev pub is_body : Context → Bool
is_body Top = false
is_body (Commands ts) = false
is_body (Word n) = false
is_body Quotes = false
is_body (Braces q) = false
is_body Arithmetic = false
is_body Parenthesis = false
is_body Body = true

-- the compound commands that are open in a context
abbrev pub compounds_in : Context → ℕ
compounds_in Top = 0
compounds_in (Commands ts) = open_in ts.tokens
compounds_in (Word n) = 0
compounds_in Quotes = 0
compounds_in (Braces q) = 0
compounds_in Arithmetic = 0
compounds_in Parenthesis = 0
compounds_in Body = 0

-- the levels with those of one more context: `${` and `$((` are one level, `$(` is one and each compound
-- command that is open in it is one more
abbrev pub with_levels : Context → ℕ → ℕ
with_levels Top n = n
with_levels (Commands ts) n = suc (open_in ts.tokens + n)
with_levels (Word k) n = n
with_levels Quotes n = n
with_levels (Braces q) n = suc n
with_levels Arithmetic n = suc n
with_levels Parenthesis n = n
with_levels Body n = n

-- how many levels are open
abbrev pub levels : List Context → ℕ
levels [] = 0
levels (x ∷ xs) = with_levels x (levels xs)

-- the innermost context
abbrev pub top_of : List Context → Context
top_of [] = Top
top_of (x ∷ xs) = x

-- the context around the innermost one
abbrev pub around_of : List Context → Context
around_of [] = Top
around_of (x ∷ xs) = top_of xs

-- what opens a level; backquotes do so for as long as they last
abbrev pub opens_level : Piece → Bool
opens_level (BraceOpen bs) = true
opens_level ArithmeticOpen = true
opens_level CommandsOpen = true
opens_level (Backquoted bs) = true
opens_level m = false

-- the word that ends there is a token with which a compound command begins
abbrev pub word_begins : Bool → List Piece → Context → Bool
word_begins r done Top = false
word_begins r done (Commands ts) = false
word_begins r done (Word n) = begins_compound (class_of_word r (drop (suc n) done))
word_begins r done Quotes = false
word_begins r done (Braces q) = false
word_begins r done Arithmetic = false
word_begins r done Parenthesis = false
word_begins r done Body = false

-- this piece ends a token with which a compound command begins
abbrev pub begins_compound_in : List Piece → Context → Piece → Bool
begins_compound_in done x (WordClose r) = word_begins r done x
begins_compound_in done x (Piece.Operator o) = begins_compound (class_of_operator o)
begins_compound_in done x m = false

-- this piece ends a token that opens a level too many
abbrev pub exceeds : ℕ → List Piece → Context → List Context → Piece → Bool
exceeds limit done x xs m = begins_compound_in done x m && nat_lt limit (levels (behind done x xs m))

-- the bytes begin with the piece, these contexts allow it, and at most `limit` levels are open; `done` is
-- what came before
pub record IsPiece (e : Bool) (limit : ℕ) (done : List Piece) (x : Context) (xs : List Context) (m : Piece) (bytes after : List ℕ) : Type 0 where
  pub written : Written e (spell_piece m) bytes after
  pub fits : fits e x m after ≡ true
  pub level : (opens_level m && not (nat_lt (levels (x ∷ xs)) limit)) ≡ false
  pub compound : exceeds limit done x xs m ≡ false

-- the bytes are these pieces, one after another, and then the rest; `done` and the contexts are what came
-- before
abbrev pub ArePieces : Bool → ℕ → List Piece → List Context → List Piece → List ℕ → List ℕ → Type 0
ArePieces e limit done xs [] bytes rest = bytes ≡ rest
ArePieces e limit done [] (m ∷ ms) bytes rest = ⊥
ArePieces e limit done (x ∷ xs) (m ∷ ms) bytes rest =
    (after : List ℕ) × (IsPiece e limit done x xs m bytes after) × ArePieces e limit (done ++ m ∷ []) (behind done x xs m) ms after rest

-- the contexts after these pieces
abbrev pub contexts_behind : List Piece → List Context → List Piece → List Context
contexts_behind done xs [] = xs
contexts_behind done [] (m ∷ ms) = []
contexts_behind done (x ∷ xs) (m ∷ ms) = contexts_behind (done ++ m ∷ []) (behind done x xs m) ms

-- this piece, after which these contexts are open, ends a word of the text itself or an operator of it
abbrev pub ends_token : Piece → List Context → Bool
ends_token (WordClose r) xs = is_text (top_of xs)
ends_token (Piece.Operator o) xs = is_text (top_of xs)
ends_token m xs = false

-- none of the pieces ends a token of the text itself
abbrev pub ends_none : List Piece → List Context → List Piece → Bool
ends_none done xs [] = true
ends_none done [] (m ∷ ms) = true
ends_none done (x ∷ xs) (m ∷ ms) = not (ends_token m (behind done x xs m)) && ends_none (done ++ m ∷ []) (behind done x xs m) ms

-- before a token: blanks, and comments
abbrev pub is_gap : Piece → Bool
is_gap (Blank b) = true
is_gap (Comment bs) = true
is_gap m = false
