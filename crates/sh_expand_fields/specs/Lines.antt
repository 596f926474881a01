-- A line that `read` splits (XCU 3, `read`): a text for each variable, where the last one gets what is left.
use Rattle.std.specs.Prelude.{ℕ, zero, suc, List, [], ◌∷◌, ◌==◌, ◌&&◌, ◌||◌, not, Bool, map, if◌then◌else◌}
use Rattle.std.specs.List.{list_all, list_any}
use Rattle.sh_pattern.specs.declared.pattern_byte.PatternByte.{PatternByte}
use Rattle.sh_vars.specs.Environment.{Environment, separators_of}

-- ---- unquoted bytes of IFS delimit (2.6.5)
abbrev pub delimits : List ℕ → PatternByte → Bool
delimits ifs mark = not mark.literal && list_any (λ b. b == mark.byte) ifs

abbrev pub is_space : ℕ → Bool
is_space b = (b == 32 || b == 9) || b == 10

-- IFS white space
abbrev pub is_white : List ℕ → PatternByte → Bool
is_white ifs mark = delimits ifs mark && is_space mark.byte

-- ---- white space at both ends of a line is no part of a field
abbrev pub behind_white : List ℕ → List PatternByte → List PatternByte
behind_white ifs [] = []
behind_white ifs (mark ∷ marks) = if is_white ifs mark then behind_white ifs marks else mark ∷ marks

abbrev pub before_white : List ℕ → List PatternByte → List PatternByte
before_white ifs [] = []
before_white ifs (mark ∷ marks) = if list_all (is_white ifs) (mark ∷ marks) then [] else mark ∷ before_white ifs marks

-- ---- the field that a line begins with, and the line after it
abbrev pub field : List ℕ → List PatternByte → List ℕ
field ifs [] = []
field ifs (mark ∷ marks) = if delimits ifs mark then [] else mark.byte ∷ field ifs marks

abbrev pub behind_field : List ℕ → List PatternByte → List PatternByte
behind_field ifs [] = []
behind_field ifs (mark ∷ marks) = if delimits ifs mark then mark ∷ marks else behind_field ifs marks

-- one other delimiter belongs to the end of a field, with white space on both sides of it
abbrev pub behind_delimiter : List ℕ → List PatternByte → List PatternByte
behind_delimiter ifs [] = []
behind_delimiter ifs (mark ∷ marks) = if delimits ifs mark then behind_white ifs marks else mark ∷ marks

unfoldable pub behind : List ℕ → List PatternByte → List PatternByte
behind ifs line = behind_delimiter ifs (behind_white ifs (behind_field ifs line))

-- ---- what is left: one field loses its delimiter; otherwise only white space at the end goes
abbrev pub bytes_of : List PatternByte → List ℕ
bytes_of marks = map (λ mark. mark.byte) marks

abbrev pub left_by : List ℕ → List PatternByte → (more : List PatternByte) → List ℕ
left_by ifs line [] = field ifs line
left_by ifs line (mark ∷ marks) = bytes_of (before_white ifs line)

unfoldable pub last_text : List ℕ → List PatternByte → List ℕ
last_text ifs line = left_by ifs line (behind ifs line)

-- ---- a given number of texts; where there are fewer fields, the other texts are empty
abbrev pub texts : List ℕ → ℕ → List PatternByte → List (List ℕ)
texts ifs zero line = []
texts ifs (suc zero) line = last_text ifs line ∷ []
texts ifs (suc (suc n)) line = field ifs line ∷ texts ifs (suc n) (behind ifs line)

unfoldable pub line_split : Environment → ℕ → List PatternByte → List (List ℕ)
line_split env count line = texts (separators_of env) count (behind_white (separators_of env) line)
