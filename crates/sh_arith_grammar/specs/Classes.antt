-- Classes of tokens: constants, names, each operator, what no expression has, and the end.
use Rattle.std.specs.Prelude.{ℕ, ◌+◌, ◌^◌, codes, List, [], ◌∷◌, ◌++◌, length, map, Option, Some, None, unwrap_or, if◌then◌else◌}
use Rattle.std.specs.Str.{bytes_eq}
use Rattle.sh_arith_grammar.specs.declared.operators.Role.{Role}
use Rattle.sh_arith_grammar.specs.declared.operators.Role.TheVariants as role
use Rattle.sh_arith_grammar.specs.declared.operators.Operator.{Operator}
use Rattle.sh_arith_grammar.specs.declared.operators.Operator.TheVariants as operator
use Rattle.sh_arith_grammar.specs.Precedence.{Sign, Position, Before, Between, Deciding, Choosing, Assigning, Level, levels}

-- the operators, and with them `:` and parentheses, in the order of their classes. The longer ones come
-- first, so that the first one that a text begins with is the longest
abbrev pub spellings : List (List ℕ)
spellings =
    codes "<<=" ∷ codes ">>=" ∷ codes "<<" ∷ codes ">>" ∷ codes "<=" ∷ codes ">=" ∷ codes "==" ∷ codes "!=" ∷ codes "&&" ∷ codes "||" ∷ codes "+=" ∷ codes "-="
    ∷ codes "*=" ∷ codes "/=" ∷ codes "%=" ∷ codes "&=" ∷ codes "^=" ∷ codes "|=" ∷ codes "+" ∷ codes "-" ∷ codes "~" ∷ codes "!" ∷ codes "*" ∷ codes "/"
    ∷ codes "%" ∷ codes "<" ∷ codes ">" ∷ codes "&" ∷ codes "^" ∷ codes "|" ∷ codes "?" ∷ codes ":" ∷ codes "=" ∷ codes "(" ∷ codes ")" ∷ []

-- the numbers of the classes
abbrev pub constant_class : ℕ
constant_class = 0

abbrev pub name_class : ℕ
name_class = 1

abbrev pub first_operator : ℕ
first_operator = 2

abbrev pub unknown_class : ℕ
unknown_class = first_operator + length spellings

abbrev pub end_class : ℕ
end_class = unknown_class + 1

-- how many of the spellings are before this one
abbrev pub place_of : List ℕ → List (List ℕ) → ℕ
place_of spelling [] = 0
place_of spelling (s ∷ others) = if bytes_eq s spelling then 0 else place_of spelling others + 1

abbrev pub class_of : List ℕ → ℕ
class_of spelling = first_operator + place_of spelling spellings

-- classes as a set: a bit for each
abbrev pub set_of : List ℕ → ℕ
set_of [] = 0
set_of (c ∷ classes) = 2 ^ c + set_of classes

-- the classes of a level's operators
abbrev pub classes_of : Level → List ℕ
classes_of l = map (λ s. class_of s.spelling) l.signs

-- what an operator of a level is to its expression
abbrev pub role_at : Position → Role
role_at Before = role.Operator
role_at Between = role.Operator
role_at Deciding = role.Logic
role_at Choosing = role.Question
role_at Assigning = role.Assign

abbrev pub sign_in : List Sign → List ℕ → Option Sign
sign_in [] spelling = None
sign_in (s ∷ signs) spelling = if bytes_eq s.spelling spelling then Some s else sign_in signs spelling

-- an operator's role and meaning in its level; `+` and `-` are in two levels, and the first one counts
abbrev pub found_in : Option Sign → Level → Option (Role × Operator) → Option (Role × Operator)
found_in None l others = others
found_in (Some s) l others = Some (role_at l.position, unwrap_or s.does operator.Assign)

abbrev pub meaning_in : List Level → List ℕ → Option (Role × Operator)
meaning_in [] spelling = None
meaning_in (l ∷ others) spelling = found_in (sign_in l.signs spelling) l (meaning_in others spelling)

-- the role of what is no operator of a level: `:` and parentheses
abbrev pub punctuation : List ℕ → Role
punctuation spelling = if bytes_eq spelling (codes ":") then role.Colon else if bytes_eq spelling (codes "(") then role.Opening else role.Closing

abbrev pub meaning_of : List ℕ → Role × Operator
meaning_of spelling = unwrap_or (meaning_in levels spelling) (punctuation spelling, operator.Assign)

-- the role of each class, and its operator; `Assign` where the class is no operator
unfoldable pub roles : List Role
roles = role.Number ∷ role.Name ∷ (map (λ s. (meaning_of s).0) spellings ++ role.Nothing ∷ role.Nothing ∷ [])

unfoldable pub operators : List Operator
operators = operator.Assign ∷ operator.Assign ∷ (map (λ s. (meaning_of s).1) spellings ++ operator.Assign ∷ operator.Assign ∷ [])
