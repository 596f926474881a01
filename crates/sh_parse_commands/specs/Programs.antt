-- The list of commands of a text that is read as a whole, as the text of a command substitution is (XCU
-- 2.6.3).
use Rattle.std.specs.Prelude.{ℕ, zero, suc, ◌+◌, ◌-◌, true, List, [], ◌∷◌, length, Result, Ok, Err, if◌then◌else◌}
use Rattle.std.specs.Option.{unwrap_or}
use Rattle.sh_token_grammar.specs.Shell.{substitution}
use Rattle.sh_syntax.specs.declared.tree.CompoundList.{CompoundList}
use Rattle.sh_parse_documents.specs.Waiting.{Waiting, nothing}
use Rattle.sh_parse_documents.specs.Stream.{Ending, AtEnd, Cut, Items, items_of, waiting_behind}
use Rattle.sh_parse_words.specs.declared.fault.PartFault.{PartFault}
use Rattle.sh_parse_words.specs.declared.fault.PartFault.TheVariants as fault
use Rattle.sh_parse_leaves.specs.Results.{and_then}
use Rattle.sh_aliases.specs.Aliases.{AliasTable}
use Rattle.sh_parse_leaves.specs.Words.{Reader}
use Rattle.sh_parse_commands.specs.Judging.{Judged, none_of, open_in, are_whole, tree_by}
use Rattle.sh_parse_commands.specs.Replacing.{Inside, Origin, origin, with_tokens}
use Rattle.sh_parse_commands.specs.Cuts.{cut_fault}

-- what a text gives after its tokens: a list of commands where it ends there and they are one, else a fault;
-- w: what is awaited there
abbrev pub ended_by : ℕ → List ℕ → Waiting → Judged → Ending → Result CompoundList PartFault
ended_by left text w j AtEnd = if are_whole j then Ok (tree_by j) else Err (fault.Refused (length text))
ended_by left text w j (Cut at) = Err (unwrap_or (cut_fault (left - open_in j) text w at) (fault.Refused (length text)))

abbrev pub program_of : AliasTable → Inside → Origin → Items → Result CompoundList PartFault
program_of table inside o found =
    and_then (with_tokens table inside o nothing found.items (none_of substitution))
    (λ j. ended_by o.left o.text (waiting_behind nothing found.items) j found.ending)

-- the list of commands of a text, where this is how what is inside of its tokens is read
unfoldable pub program_in : AliasTable → Inside → Origin → Result CompoundList PartFault
program_in table inside o = program_of table inside o (items_of true o.text)

-- what is inside of texts and values that nest so deep
abbrev pub inside_at : AliasTable → (depth : ℕ) → Inside
inside_at table zero = record { read = λ from left text. Err (fault.TooDeep 0); value = λ o items j. Err (fault.TooDeep 0) }
inside_at table (suc depth) = record {
  read = λ from left text. program_in table (inside_at table depth) (origin from left text);
  value = λ o items j. with_tokens table (inside_at table depth) o nothing items j;
}

abbrev pub reader_at : AliasTable → (from : List (List ℕ)) → (depth : ℕ) → Reader
reader_at table from depth = (inside_at table depth).read from

-- no text nests deeper than its levels, and in backquotes that open a level too many no deeper than it has bytes; and on the way inward each
-- alias is replaced once at most
abbrev pub value_sizes : AliasTable → ℕ
value_sizes [] = 0
value_sizes (alias ∷ others) = suc (suc (length alias.value)) + value_sizes others

abbrev pub depth_of : AliasTable → Origin → ℕ
depth_of table o = suc (o.left + length o.text + value_sizes table)

-- how what is inside is read, however deep it nests
abbrev pub inside_of : AliasTable → Inside
inside_of table = record {
  read = λ from left text. (inside_at table (depth_of table (origin from left text))).read from left text;
  value = λ o items j. (inside_at table (suc (depth_of table o))).value o items j;
}

-- how the texts of substitutions in a command are read
abbrev pub read_text : AliasTable → Reader
read_text table = (inside_of table).read []

-- a text with commands, and the aliases that are defined as it is read
pub record CommandText : Type 0 where
  pub aliases : AliasTable
  pub text : List ℕ

-- where the tokens of a command are: 500 levels may open there
abbrev pub outermost : CommandText → Origin
outermost c = origin [] 500 c.text
