-- Classes of tokens: what the grammar sees of a token (XCU 2.4, 2.10.2).
use Rattle.std.specs.Prelude.{ℕ, Bool, List, [], ◌∷◌, codes, Option, Some, None, if◌then◌else◌}
use Rattle.std.specs.List.{list_any}
use Rattle.std.specs.Option.{is_some}
use Rattle.std.specs.Str.{bytes_eq}
use Rattle.sh_base.specs.Names.{is_name}
use Rattle.sh_token_grammar.specs.declared.class.TokenClass.{TokenClass}
use Rattle.sh_token_grammar.specs.declared.class.TokenClass.TheVariants.{Semicolon, And, AndIf, OrIf, Pipe, LeftParenthesis, RightParenthesis, DoubleSemicolon, Newline, Redirection, Number, Bang, LeftBrace, RightBrace, If, Then, Elif, Else, Fi, While, Until, Do, Done, For, In, Case, Esac, Name, SpecialName, Assignment, Other, CommandName, End}

-- the class's number in the tables of the grammar
abbrev pub class_number : TokenClass → ℕ
class_number Semicolon = 0
class_number And = 1
class_number AndIf = 2
class_number OrIf = 3
class_number Pipe = 4
class_number LeftParenthesis = 5
class_number RightParenthesis = 6
class_number DoubleSemicolon = 7
class_number Newline = 8
class_number Redirection = 9
class_number Number = 10
class_number Bang = 11
class_number LeftBrace = 12
class_number RightBrace = 13
class_number If = 14
class_number Then = 15
class_number Elif = 16
class_number Else = 17
class_number Fi = 18
class_number While = 19
class_number Until = 20
class_number Do = 21
class_number Done = 22
class_number For = 23
class_number In = 24
class_number Case = 25
class_number Esac = 26
class_number Name = 27
class_number SpecialName = 28
class_number Assignment = 29
class_number Other = 30
class_number CommandName = 31
class_number End = 32

-- the special built-ins (XCU 2.15) whose names are names (XBD 3.216)
abbrev pub special_names : List (List ℕ)
special_names =
    codes "break" ∷ codes "continue" ∷ codes "eval" ∷ codes "exec" ∷ codes "exit" ∷ codes "export" ∷ codes "readonly" ∷ codes "return" ∷ codes "set"
    ∷ codes "shift" ∷ codes "times" ∷ codes "trap" ∷ codes "unset" ∷ []

abbrev pub is_special_name : List ℕ → Bool
is_special_name text = list_any (λ t. bytes_eq t text) special_names

-- the reserved words (2.4), in three groups
abbrev pub control_class : List ℕ → Option TokenClass
control_class text =
    if bytes_eq text (codes "!") then Some Bang
    else if bytes_eq text (codes "{") then Some LeftBrace
    else if bytes_eq text (codes "}") then Some RightBrace
    else if bytes_eq text (codes "case") then Some Case
    else if bytes_eq text (codes "esac") then Some Esac
    else None

abbrev pub conditional_class : List ℕ → Option TokenClass
conditional_class text =
    if bytes_eq text (codes "if") then Some If
    else if bytes_eq text (codes "then") then Some Then
    else if bytes_eq text (codes "elif") then Some Elif
    else if bytes_eq text (codes "else") then Some Else
    else if bytes_eq text (codes "fi") then Some Fi
    else None

abbrev pub loop_class : List ℕ → Option TokenClass
loop_class text =
    if bytes_eq text (codes "while") then Some While
    else if bytes_eq text (codes "until") then Some Until
    else if bytes_eq text (codes "do") then Some Do
    else if bytes_eq text (codes "done") then Some Done
    else if bytes_eq text (codes "for") then Some For
    else if bytes_eq text (codes "in") then Some In
    else None

abbrev pub or_else : Option TokenClass → Option TokenClass → Option TokenClass
or_else (Some c) d = Some c
or_else None d = d

abbrev pub reserved_class : List ℕ → Option TokenClass
reserved_class text = or_else (control_class text) (or_else (conditional_class text) (loop_class text))

-- a text is a reserved word
abbrev pub is_reserved : List ℕ → Bool
is_reserved text = is_some (reserved_class text)

abbrev pub word_class : List ℕ → Option TokenClass → TokenClass
word_class text (Some c) = c
word_class text None = if is_special_name text then SpecialName else if is_name text then Name else Other

-- the class of a word that is no assignment and whose bytes are all literal
abbrev pub class_of_text : List ℕ → TokenClass
class_of_text text = word_class text (reserved_class text)
