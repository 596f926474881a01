-- The expansion of words to fields with answers (XCU 2.6): always from the first word; the answers are used
-- in order.
use Rattle.std.specs.Prelude.{ℕ, List}
use Rattle.sh_vars.specs.Environment.{Environment}
use Rattle.sh_files.specs.Nodes.{FileMap}
use Rattle.sh_syntax.specs.declared.tree.CompoundList.{CompoundList}
use Rattle.sh_expand_parts.specs.declared.fault.Fault.{Fault}
use Rattle.sh_expand.specs.Expansion as words
use Rattle.sh_expand.specs.Parts as words_in
use Rattle.sh_expand.specs.declared.wanted.Wanted.{Wanted}
use Rattle.sh_expand.specs.Fields.{all_fields}

-- a program whose output is needed, or the fields, or a fault; and the shell's environment then
pub data Result : Type 0 where
  Need : (program : CompoundList) → (env : Environment) → Result
  Fields : (fields : List (List ℕ)) → (env : Environment) → Result
  Stops : (fault : Fault) → (env : Environment) → Result

-- all words are expanded before the first one is split, and before a file is looked at
abbrev pub result_of : FileMap → words.Outcome → Result
result_of files (words.Need program env) = Need program env
result_of files (words.Done s) = Fields (all_fields files s.env s.words) s.env
result_of files (words.Stops fault env) = Stops fault env

abbrev pub expand : FileMap → List Wanted → Environment → (answers : List (List ℕ)) → Result
expand files wanted env answers = result_of files (words_in.expand wanted env answers)
