-- What a text reads as: its first complete command, blank lines, a fault, or nothing yet (XCU 2.1, 2.3, 2.10).
use Rattle.std.specs.Prelude.{◌≡◌, ℕ, ◌-◌, Bool, true, false, nat_eq, nat_lt, List, [], ◌∷◌, ◌++◌, length, take, position, Option, Some, None, Result, Ok, Err, if◌then◌else◌}
use Rattle.std.specs.Option.{option_map, unwrap_or}
use Rattle.sh_token_grammar.specs.Shell.{complete}
use Rattle.sh_token_pieces.specs.declared.operator.Operator.{Operator}
use Rattle.sh_token.specs.declared.token.TokenKind.{TokenKind}
use Rattle.sh_syntax.specs.declared.tree.Parts.{Parts}
use Rattle.sh_parse_documents.specs.declared.item.Item.{Item}
use Rattle.sh_parse_documents.specs.Waiting.{Waiting, nothing, behind_token, due_at}
use Rattle.sh_parse_documents.specs.Stream.{Ending, AtEnd, Cut, items_of}
use Rattle.sh_parse_words.specs.declared.fault.PartFault.{PartFault}
use Rattle.sh_parse_words.specs.declared.fault.PartFault.TheVariants as fault
use Rattle.sh_parse_leaves.specs.Results.{and_then}
use Rattle.sh_parse_commands.specs.Documents.{bodies_of}
use Rattle.sh_parse_commands.specs.Replacing.{origin, with_token as taken}
use Rattle.sh_parse_commands.specs.Judging.{Judged, none_of, open_in, is_none, are_whole, tree_by}
use Rattle.sh_parse_commands.specs.Cuts.{cut_fault}
use Rattle.sh_parse_commands.specs.Programs.{inside_of, read_text}
use Rattle.sh_aliases.specs.Aliases.{AliasTable}
use Rattle.sh_parse.specs.declared.Reading.{Reading}
use Rattle.sh_parse.specs.declared.Reading.TheVariants.{Complete, Blank, More}
use Rattle.sh_parse.specs.declared.ParseFault.{ParseFault}
use Rattle.sh_parse.specs.declared.ParseFault.TheVariants.{Refused, Unclosed, BadSubstitution, TooDeep, NoMemory}

abbrev pub Answer : Type 0
Answer = Result Reading ParseFault

-- a fault of the tokens before a decision place, as a fault of the text; so many bytes come up to and with
-- this place
abbrev pub fault_of : ℕ → PartFault → ParseFault
fault_of used (fault.BadSubstitution at) = BadSubstitution at used
fault_of used (fault.TooDeep at) = TooDeep at used
fault_of used (fault.Refused at) = Refused at used
fault_of used (fault.NoMemory lack) = NoMemory lack

-- ---- a NUL, which no script may have, is a fault at its place
abbrev pub nul_in : List ℕ → Option ℕ
nul_in bytes = position (λ b. nat_eq b 0) bytes

-- the fault is told rather than a NUL at this place
abbrev pub stands_before : ParseFault → ℕ → Bool
stands_before (Refused at used) nul = nat_lt at nul
stands_before (Unclosed at) nul = nat_lt at nul
stands_before (BadSubstitution at used) nul = nat_lt at nul
stands_before (TooDeep at used) nul = nat_lt at nul
stands_before (NoMemory _) nul = true

-- the answer where the `used` bytes up to and with a decision place have a NUL, and their tokens alone would
-- have this answer: the fault at the lesser place
abbrev pub before_nul : ℕ → ℕ → Answer → Answer
before_nul nul used (Ok r) = Err (Refused nul used)
before_nul nul used (Err f) = if stands_before f nul then Err f else Err (Refused nul used)

abbrev pub unless_nul : Option ℕ → ℕ → Answer → Answer
unless_nul None used answer = answer
unless_nul (Some nul) used answer = before_nul nul used answer

-- the same where the tokens alone may say nothing
abbrev pub with_nul : Option ℕ → ℕ → Option Answer → Option Answer
with_nul None used said = said
with_nul (Some nul) used None = Some (Err (Refused nul used))
with_nul (Some nul) used (Some answer) = Some (before_nul nul used answer)

-- ----
abbrev pub is_newline : TokenKind → Bool
is_newline (TokenKind.Operator Operator.Newline) = true
is_newline kind = false

-- one more token, or what an alias has in its place (2.3.1), after tokens without a fault; w: what is awaited before it
abbrev pub with_token : AliasTable → List ℕ → Waiting → Item → Judged → Result Judged PartFault
with_token table text w item j = taken table (inside_of table) (origin [] 500 text) (due_at item.token.kind w) item j

-- the answer where the tokens are a complete command, the last of whose here-documents have these bodies
abbrev pub complete_answer : Judged → ℕ → Result (List Parts) PartFault → Answer
complete_answer j used (Ok others) = Ok (Complete (tree_by (record j { bodies = j.bodies ++ others })) used)
complete_answer j used (Err f) = Err (fault_of used f)

abbrev pub refusal : ℕ → Result Judged PartFault → Option Answer
refusal used (Ok j) = None
refusal used (Err f) = Some (Err (fault_of used f))

-- what the tokens before a newline say there: the bodies after it belong to them; where they are no complete
-- command, the newline is a token like others
abbrev pub answer_at_newline : AliasTable → List ℕ → Waiting → Item → Result Judged PartFault → Option Answer
answer_at_newline table text w newline (Err f) = Some (Err (fault_of newline.«end» f))
answer_at_newline table text w newline (Ok j) =
    if is_none j then Some (Ok (Blank newline.«end»))
    else if are_whole j then Some (complete_answer j newline.«end» (bodies_of (read_text table) 500 text (due_at newline.token.kind w) newline))
    else refusal newline.«end» (with_token table text w newline j)

-- what the end of the input says where no token is found after these, from `at` on: a level too many that
-- opens there, or else that the text is unclosed
abbrev pub cut_short : List ℕ → Waiting → Judged → ℕ → Answer
cut_short text w j at = Err (unwrap_or (option_map (fault_of (length text)) (cut_fault (500 - open_in j) text w at)) (Unclosed (length text)))

-- what the tokens say at the end of the input, and where the end of the input cuts off what comes after them,
-- from `at` on
abbrev pub at_end : List ℕ → Result Judged PartFault → Answer
at_end text (Ok j) =
    if is_none j then Ok (Blank (length text)) else if are_whole j then Ok (Complete (tree_by j) (length text)) else Err (Unclosed (length text))
at_end text (Err f) = Err (fault_of (length text) f)

abbrev pub at_cut : List ℕ → Waiting → Result Judged PartFault → ℕ → Answer
at_cut text w (Ok j) at = cut_short text w j at
at_cut text w (Err f) at = Err (fault_of (length text) f)

-- what the end of the text says, where no newline says anything: it is a decision place if nothing comes
-- after it
abbrev pub at_last : Bool → List ℕ → Waiting → Result Judged PartFault → Ending → Answer
at_last e text w j AtEnd = unless_nul (nul_in text) (length text) (at_end text j)
at_last e text w j (Cut at) = if e then unless_nul (nul_in text) (length text) (at_cut text w j at) else Ok More

-- what a newline says: what the tokens before it say, or that a NUL is before its end
abbrev pub newline_says : AliasTable → List ℕ → Waiting → Item → Result Judged PartFault → Option Answer
newline_says table text w newline j = with_nul (nul_in (take newline.«end» text)) newline.«end» (answer_at_newline table text w newline j)

-- what is read: a text, whether its end is the end of the input, and the aliases that are defined
pub record Source : Type 0 where
  pub aliases : AliasTable
  pub at_end : Bool
  pub text : List ℕ

abbrev pub source : AliasTable → Bool → List ℕ → Source
source table e text = record { aliases = table; at_end = e; text = text }

-- where a reading stands: the tokens before, or their first fault, and what is awaited there
pub record Standing : Type 0 where
  pub judged : Result Judged PartFault
  pub waiting : Waiting

abbrev pub standing : Result Judged PartFault → Waiting → Standing
standing j w = record { judged = j; waiting = w }

-- where it stands after one more token
abbrev pub stands_behind : AliasTable → List ℕ → Standing → Item → Standing
stands_behind table text here item =
    standing (and_then here.judged (with_token table text here.waiting item)) (behind_token item.token.kind here.waiting)

-- what the first decision place that says anything says, where the reading stands here and these tokens are
-- to come
abbrev pub first_answer : Source → Standing → List Item → Ending → Answer
first_answer from here [] ending = at_last from.at_end from.text here.waiting here.judged ending
first_answer from here (t ∷ tokens) ending =
    unwrap_or (if is_newline t.token.kind then newline_says from.aliases from.text here.waiting t here.judged else None)
    (first_answer from (stands_behind from.aliases from.text here t) tokens ending)

unfoldable pub reading : AliasTable → Bool → List ℕ → Answer
reading table e text = first_answer (source table e text) (standing (Ok (none_of complete)) nothing) (items_of e text).items (items_of e text).ending

-- the answer is this one, unless memory was wanting
abbrev pub Answers : Answer → Answer → Type 0
Answers (Ok r) answer = answer ≡ Ok r
Answers (Err (NoMemory _)) answer = Unit {0}
Answers (Err (Refused at used)) answer = answer ≡ Err (Refused at used)
Answers (Err (Unclosed at)) answer = answer ≡ Err (Unclosed at)
Answers (Err (BadSubstitution at used)) answer = answer ≡ Err (BadSubstitution at used)
Answers (Err (TooDeep at used)) answer = answer ≡ Err (TooDeep at used)
