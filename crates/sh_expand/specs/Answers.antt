-- An expansion with answers (XCU 2.6.3): it goes from its first word, and each answer serves the next need.
use Rattle.std.specs.Prelude.{ℕ, List, [], ◌∷◌, ◌++◌}
use Rattle.sh_expand.specs.Expanding as expanding
use Rattle.sh_expand.specs.Expansion.{Outcome, Need, Done, Stops}
use Rattle.sh_expand.specs.FieldProgress.{first_pattern}
use Rattle.sh_expand.specs.Parts as words
use Rattle.sh_expand.specs.declared.wanted.Wanted.{Wanted}
use Rattle.sh_expand_parts.specs.declared.fault.Fault.{Fault}
use Rattle.sh_files.specs.Nodes.{FileMap}
use Rattle.sh_pattern.specs.declared.pattern_byte.PatternByte.{PatternByte}
use Rattle.sh_syntax.specs.declared.tree.CompoundList.{CompoundList}
use Rattle.sh_vars.specs.Environment.{Environment}

-- words whose expansion needs answers: the variables at its start, and the answers so far
pub record Pending : Type 0 where
  pub words : List Wanted
  pub start : Environment
  pub answers : List (List ℕ)

-- the next answer serves a need; what ends needs none
abbrev pub resumption : Outcome → Outcome → Outcome
resumption (Need program env) next = next
resumption (Done s) next = Done s
resumption (Stops fault env) next = Stops fault env

-- the words that have had the answers `given`, when these come too
abbrev pub words_after : List Wanted → Environment → (given answers : List (List ℕ)) → Outcome
words_after wanted env given [] = words.expand wanted env given
words_after wanted env given (answer ∷ answers) = resumption (words.expand wanted env given) (words_after wanted env (given ++ answer ∷ []) answers)

unfoldable pub words_with : List Wanted → Environment → List (List ℕ) → Outcome
words_with wanted env answers = words_after wanted env [] answers

-- ---- to fields
unfoldable pub expansion_with : FileMap → List Wanted → Environment → List (List ℕ) → expanding.Result
expansion_with files wanted env answers = expanding.result_of files (words_with wanted env answers)

abbrev pub fields_in : FileMap → Pending → expanding.Result
fields_in files p = expansion_with files p.words p.start p.answers

-- ---- to a pattern (2.14.1), which the first word gives
pub data Patterned : Type 0 where
  Needs : (program : CompoundList) → (env : Environment) → Patterned
  Pattern : (pattern : List PatternByte) → (env : Environment) → Patterned
  Fails : (fault : Fault) → (env : Environment) → Patterned

abbrev pub pattern_of : Outcome → Patterned
pattern_of (Need program env) = Needs program env
pattern_of (Done s) = Pattern (first_pattern s.words) s.env
pattern_of (Stops fault env) = Fails fault env

unfoldable pub pattern_with : List Wanted → Environment → List (List ℕ) → Patterned
pattern_with wanted env answers = pattern_of (words_with wanted env answers)

abbrev pub pattern_from : Pending → Patterned
pattern_from p = pattern_with p.words p.start p.answers
