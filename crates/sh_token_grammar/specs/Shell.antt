-- The grammar of the shell (XCU 2.10.2) as productions. A word is a reserved word only where a production has
-- it as one. A word directly after a simple command belongs to that command: the guards of the empty
-- productions of `prefix` and `arguments` say so.
use Rattle.std.specs.Prelude.{ℕ, ◌+◌, ◌^◌, List, [], ◌∷◌, map}
use Rattle.sh_grammar.specs.declared.Symbol.{Symbol}
use Rattle.sh_grammar.specs.declared.Symbol.TheVariants.{Terminal, Nonterminal}
use Rattle.sh_grammar.specs.Tabulation.{Tabulation}
use Rattle.sh_token_grammar.specs.declared.class.TokenClass.{TokenClass}
use Rattle.sh_token_grammar.specs.declared.class.TokenClass.TheVariants.{Semicolon, And, AndIf, OrIf, Pipe, LeftParenthesis, RightParenthesis, DoubleSemicolon, Newline, Redirection, Number, Bang, LeftBrace, RightBrace, If, Then, Elif, Else, Fi, While, Until, Do, Done, For, In, Case, Esac, Name, SpecialName, Assignment, Other, CommandName, End}
use Rattle.sh_token_grammar.specs.declared.tables.TheConstants.{FIRSTS, NULLABLES, PREDICTS}
use Rattle.sh_token_grammar.specs.Classes.{class_number}

-- the terminals: one for each of the classes 0 to 26, and eight more for words
abbrev pub token : TokenClass → Symbol
token c = Terminal (class_number c)

-- any word; a first word that may name a function, so neither a reserved word nor the name of a special
-- built-in; the variable of a `for`, which may be any name; the other first words of a simple command, which
-- no `(` may follow; the first word of a simple command after an assignment or a redirection, a reserved word
-- too; an assignment; the first pattern of a case item without `(`; what begins a loop. `CommandName` is no
-- token's class: only the first word of a simple command matches it
abbrev pub any_word : Symbol
any_word = Terminal 27

abbrev pub function_name : Symbol
function_name = Terminal 28

abbrev pub variable_name : Symbol
variable_name = Terminal 29

abbrev pub other_word : Symbol
other_word = Terminal 30

abbrev pub command_word : Symbol
command_word = Terminal 31

abbrev pub assignment : Symbol
assignment = Terminal 32

abbrev pub pattern_word : Symbol
pattern_word = Terminal 33

abbrev pub loop : Symbol
loop = Terminal 34

abbrev pub reserved_words : List TokenClass
reserved_words = Bang ∷ LeftBrace ∷ RightBrace ∷ If ∷ Then ∷ Elif ∷ Else ∷ Fi ∷ While ∷ Until ∷ Do ∷ Done ∷ For ∷ In ∷ Case ∷ Esac ∷ []

abbrev pub names : List TokenClass
names = Name ∷ SpecialName ∷ If ∷ Then ∷ Elif ∷ Else ∷ Fi ∷ While ∷ Until ∷ Do ∷ Done ∷ For ∷ In ∷ Case ∷ Esac ∷ []

abbrev pub words : List TokenClass
words = Name ∷ SpecialName ∷ Assignment ∷ Other ∷ reserved_words

abbrev pub operators : List TokenClass
operators = Semicolon ∷ And ∷ AndIf ∷ OrIf ∷ Pipe ∷ LeftParenthesis ∷ RightParenthesis ∷ DoubleSemicolon ∷ Newline ∷ Redirection ∷ Number ∷ []

abbrev pub classes : List (List TokenClass)
classes =
    (Semicolon ∷ []) ∷
    (And ∷ []) ∷
    (AndIf ∷ []) ∷
    (OrIf ∷ []) ∷
    (Pipe ∷ []) ∷
    (LeftParenthesis ∷ []) ∷
    (RightParenthesis ∷ []) ∷
    (DoubleSemicolon ∷ []) ∷
    (Newline ∷ []) ∷
    (Redirection ∷ []) ∷
    (Number ∷ []) ∷
    (Bang ∷ []) ∷
    (LeftBrace ∷ []) ∷
    (RightBrace ∷ []) ∷
    (If ∷ []) ∷
    (Then ∷ []) ∷
    (Elif ∷ []) ∷
    (Else ∷ []) ∷
    (Fi ∷ []) ∷
    (While ∷ []) ∷
    (Until ∷ []) ∷
    (Do ∷ []) ∷
    (Done ∷ []) ∷
    (For ∷ []) ∷
    (In ∷ []) ∷
    (Case ∷ []) ∷
    (Esac ∷ []) ∷
    words ∷
    (Name ∷ []) ∷
    names ∷
    (SpecialName ∷ Other ∷ CommandName ∷ []) ∷
    (Name ∷ SpecialName ∷ Other ∷ CommandName ∷ reserved_words) ∷
    (Assignment ∷ []) ∷
    (Name ∷ SpecialName ∷ Assignment ∷ Other ∷ Bang ∷ LeftBrace ∷ RightBrace ∷ If ∷ Then ∷ Elif ∷ Else ∷ Fi ∷ While ∷ Until ∷ Do ∷ Done ∷ For ∷ In ∷ Case ∷ []) ∷
    (While ∷ Until ∷ []) ∷ []

-- the nonterminals
-- a complete command, and what comes after one of its AND-OR lists and after a separator
abbrev pub complete_command : Symbol
complete_command = Nonterminal 0

abbrev pub others : Symbol
others = Nonterminal 1

abbrev pub behind_separator : Symbol
behind_separator = Nonterminal 2

-- an AND-OR list
abbrev pub and_or : Symbol
and_or = Nonterminal 3

abbrev pub more_pipelines : Symbol
more_pipelines = Nonterminal 4

-- a pipeline
abbrev pub pipeline : Symbol
pipeline = Nonterminal 5

abbrev pub more_commands : Symbol
more_commands = Nonterminal 6

-- a command, and what comes after a name, after assignments and redirections, and after the first word of a
-- simple command
abbrev pub command : Symbol
command = Nonterminal 7

abbrev pub behind_name : Symbol
behind_name = Nonterminal 8

abbrev pub prefix : Symbol
prefix = Nonterminal 9

abbrev pub arguments : Symbol
arguments = Nonterminal 10

-- redirections
abbrev pub redirects : Symbol
redirects = Nonterminal 11

abbrev pub redirect : Symbol
redirect = Nonterminal 12

-- newlines
abbrev pub newlines : Symbol
newlines = Nonterminal 13

-- a compound list, and what comes after one of its AND-OR lists
abbrev pub compound_list : Symbol
compound_list = Nonterminal 14

abbrev pub more_and_ors : Symbol
more_and_ors = Nonterminal 15

abbrev pub last_and_ors : Symbol
last_and_ors = Nonterminal 16

-- a compound command
abbrev pub compound : Symbol
compound = Nonterminal 17

-- the parts of `if`, `for` and `case`
abbrev pub else_part : Symbol
else_part = Nonterminal 18

abbrev pub behind_variable : Symbol
behind_variable = Nonterminal 19

abbrev pub for_lines : Symbol
for_lines = Nonterminal 20

abbrev pub values : Symbol
values = Nonterminal 21

abbrev pub items : Symbol
items = Nonterminal 22

abbrev pub more_patterns : Symbol
more_patterns = Nonterminal 23

abbrev pub item_body : Symbol
item_body = Nonterminal 24

abbrev pub item_list : Symbol
item_list = Nonterminal 25

abbrev pub item_end : Symbol
item_end = Nonterminal 26

-- the text of a command substitution: a compound list, or newlines alone
abbrev pub substitution_text : Symbol
substitution_text = Nonterminal 27

abbrev pub substituted_list : Symbol
substituted_list = Nonterminal 28

-- the end of a compound command, a mark that derives no token: the command is open as long as the mark is
-- awaited
abbrev pub compound_end : Symbol
compound_end = Nonterminal 29

abbrev pub number_of : Symbol → ℕ
number_of (Terminal k) = k
number_of (Nonterminal n) = n

-- classes as a set: a bit for each
abbrev pub set_of : List TokenClass → ℕ
set_of [] = 0
set_of (c ∷ cs) = 2 ^ class_number c + set_of cs

-- a production: its head, its body, and the classes of token that may come next where it is used
pub record Production : Type 0 where
  pub head : ℕ
  pub body : List Symbol
  pub guard : List TokenClass

abbrev pub rule : Symbol → List Symbol → Production
rule symbol body = record { head = number_of symbol; body = body; guard = End ∷ CommandName ∷ Name ∷ SpecialName ∷ Assignment ∷ Other ∷ Bang ∷ LeftBrace ∷ RightBrace ∷ If ∷ Then ∷ Elif ∷ Else ∷ Fi ∷ While ∷ Until ∷ Do ∷ Done ∷ For ∷ In ∷ Case ∷ Esac ∷ Semicolon ∷ And ∷ AndIf ∷ OrIf ∷ Pipe ∷ LeftParenthesis ∷ RightParenthesis ∷ DoubleSemicolon ∷ Newline ∷ Redirection ∷ Number ∷ [] }

-- a production that is used only where no word comes next
abbrev pub rule_before_no_word : Symbol → List Symbol → Production
rule_before_no_word symbol body = record { head = number_of symbol; body = body; guard = End ∷ operators }

abbrev pub productions : List Production
productions =
    rule complete_command (and_or ∷ others ∷ [])
    ∷ rule others []
    ∷ rule others (token Semicolon ∷ behind_separator ∷ [])
    ∷ rule others (token And ∷ behind_separator ∷ [])
    ∷ rule behind_separator []
    ∷ rule behind_separator (and_or ∷ others ∷ [])
    ∷ rule and_or (pipeline ∷ more_pipelines ∷ [])
    ∷ rule more_pipelines []
    ∷ rule more_pipelines (token AndIf ∷ newlines ∷ pipeline ∷ more_pipelines ∷ [])
    ∷ rule more_pipelines (token OrIf ∷ newlines ∷ pipeline ∷ more_pipelines ∷ [])
    ∷ rule pipeline (token Bang ∷ command ∷ more_commands ∷ [])
    ∷ rule pipeline (command ∷ more_commands ∷ [])
    ∷ rule more_commands []
    ∷ rule more_commands (token Pipe ∷ newlines ∷ command ∷ more_commands ∷ [])
    ∷ rule command (compound ∷ redirects ∷ [])
    ∷ rule command (function_name ∷ behind_name ∷ [])
    ∷ rule command (other_word ∷ arguments ∷ [])
    ∷ rule command (assignment ∷ prefix ∷ [])
    ∷ rule command (redirect ∷ prefix ∷ [])
    ∷ rule behind_name (token LeftParenthesis ∷ token RightParenthesis ∷ newlines ∷ compound ∷ redirects ∷ [])
    ∷ rule behind_name (arguments ∷ [])
    ∷ rule_before_no_word prefix []
    ∷ rule prefix (assignment ∷ prefix ∷ [])
    ∷ rule prefix (redirect ∷ prefix ∷ [])
    ∷ rule prefix (command_word ∷ arguments ∷ [])
    ∷ rule_before_no_word arguments []
    ∷ rule arguments (any_word ∷ arguments ∷ [])
    ∷ rule arguments (redirect ∷ arguments ∷ [])
    ∷ rule redirects []
    ∷ rule redirects (redirect ∷ redirects ∷ [])
    ∷ rule redirect (token Number ∷ token Redirection ∷ any_word ∷ [])
    ∷ rule redirect (token Redirection ∷ any_word ∷ [])
    ∷ rule newlines []
    ∷ rule newlines (token Newline ∷ newlines ∷ [])
    ∷ rule compound_list (newlines ∷ and_or ∷ more_and_ors ∷ [])
    ∷ rule more_and_ors []
    ∷ rule more_and_ors (token Semicolon ∷ newlines ∷ last_and_ors ∷ [])
    ∷ rule more_and_ors (token And ∷ newlines ∷ last_and_ors ∷ [])
    ∷ rule more_and_ors (token Newline ∷ newlines ∷ last_and_ors ∷ [])
    ∷ rule last_and_ors []
    ∷ rule last_and_ors (and_or ∷ more_and_ors ∷ [])
    ∷ rule compound (token LeftBrace ∷ compound_list ∷ token RightBrace ∷ compound_end ∷ [])
    ∷ rule compound (token LeftParenthesis ∷ compound_list ∷ token RightParenthesis ∷ compound_end ∷ [])
    ∷ rule compound (token If ∷ compound_list ∷ token Then ∷ compound_list ∷ else_part ∷ token Fi ∷ compound_end ∷ [])
    ∷ rule compound (loop ∷ compound_list ∷ token Do ∷ compound_list ∷ token Done ∷ compound_end ∷ [])
    ∷ rule compound (token For ∷ variable_name ∷ behind_variable ∷ compound_end ∷ [])
    ∷ rule compound (token Case ∷ any_word ∷ newlines ∷ token In ∷ newlines ∷ items ∷ token Esac ∷ compound_end ∷ [])
    ∷ rule else_part []
    ∷ rule else_part (token Elif ∷ compound_list ∷ token Then ∷ compound_list ∷ else_part ∷ [])
    ∷ rule else_part (token Else ∷ compound_list ∷ [])
    ∷ rule behind_variable (token Do ∷ compound_list ∷ token Done ∷ [])
    ∷ rule behind_variable (token Semicolon ∷ newlines ∷ token Do ∷ compound_list ∷ token Done ∷ [])
    ∷ rule behind_variable (token Newline ∷ newlines ∷ for_lines ∷ [])
    ∷ rule behind_variable (token In ∷ values ∷ [])
    ∷ rule for_lines (token Do ∷ compound_list ∷ token Done ∷ [])
    ∷ rule for_lines (token In ∷ values ∷ [])
    ∷ rule values (any_word ∷ values ∷ [])
    ∷ rule values (token Semicolon ∷ newlines ∷ token Do ∷ compound_list ∷ token Done ∷ [])
    ∷ rule values (token Newline ∷ newlines ∷ token Do ∷ compound_list ∷ token Done ∷ [])
    ∷ rule items []
    ∷ rule items (token LeftParenthesis ∷ any_word ∷ more_patterns ∷ token RightParenthesis ∷ item_body ∷ [])
    ∷ rule items (pattern_word ∷ more_patterns ∷ token RightParenthesis ∷ item_body ∷ [])
    ∷ rule more_patterns []
    ∷ rule more_patterns (token Pipe ∷ any_word ∷ more_patterns ∷ [])
    ∷ rule item_body (newlines ∷ item_list ∷ [])
    ∷ rule item_list (item_end ∷ [])
    ∷ rule item_list (and_or ∷ more_and_ors ∷ item_end ∷ [])
    ∷ rule item_end []
    ∷ rule item_end (token DoubleSemicolon ∷ newlines ∷ items ∷ [])
    ∷ rule substitution_text (newlines ∷ substituted_list ∷ [])
    ∷ rule substituted_list []
    ∷ rule substituted_list (and_or ∷ more_and_ors ∷ [])
    ∷ rule compound_end []
    ∷ []

-- the grammar with this start symbol, and the parser's table for it, which doesn't decide what derives
abbrev pub grammar_from : Symbol → Tabulation
grammar_from symbol =
    record {
      heads = map (λ p. p.head) productions;
      bodies = map (λ p. p.body) productions;
      guards = map (λ p. set_of p.guard) productions;
      terminals = map set_of classes;
      ending = class_number End;
      start = number_of symbol;
      firsts = FIRSTS;
      nullables = NULLABLES;
      predicts = PREDICTS;
    }

-- the tokens of a complete command
unfoldable pub complete : Tabulation
complete = grammar_from complete_command

-- the tokens between `$(` and `)`
unfoldable pub substitution : Tabulation
substitution = grammar_from substitution_text
