-- Aliases as a rewriting of tokens (XCU 2.3.1): the first token that is the name of an alias, at a place where that is replaced, is replaced by
-- the tokens of the alias's value, and so on until there is none.
use Rattle.std.specs.Prelude.{◌≡◌, ℕ, ◌&&◌, ◌||◌, not, Bool, false, List, [], ◌∷◌, ◌++◌, map, Option, Some, None, Result, Ok, Err, if◌then◌else◌}
use Rattle.std.specs.Option.{unwrap_or}
use Rattle.sh_grammar.specs.Computed.{is_prefix}
use Rattle.sh_grammar.specs.Tabulation.{Tabulation}
use Rattle.sh_token_pieces.specs.declared.here.Delimiter.{Delimiter}
use Rattle.sh_parse_documents.specs.declared.item.Item.{Item}
use Rattle.sh_parse_documents.specs.Waiting.{Waiting, behind_token, due_at, nothing}
use Rattle.sh_parse_words.specs.declared.fault.PartFault.{PartFault}
use Rattle.sh_aliases.specs.declared.alias.Alias.{Alias}
use Rattle.sh_aliases.specs.Aliases.{AliasTable, ends_in_blank}
use Rattle.sh_parse_leaves.specs.Inputs.{input_of}
use Rattle.sh_parse_leaves.specs.Results.{and_then, fault_moved}
use Rattle.sh_parse_leaves.specs.Words.{within}
use Rattle.sh_parse_commands.specs.Judging.{Judged, with_item}
use Rattle.sh_token_grammar.specs.Classes.{is_reserved}
use Rattle.sh_parse_commands.specs.Replacing.{Inside, Origin, alias_outside, command_name, unquoted_text, value_origin}

-- a token; where it stands; the place at which its fault is told, where it came from a value; the here-documents that are due at it; and whether
-- it is directly behind a value that ends in a blank
pub record Sourced : Type 0 where
  pub item : Item
  pub origin : Origin
  pub place : Option ℕ
  pub due : List Delimiter
  pub is_behind_blank : Bool

-- tokens as they stand in a text; w: what is awaited before them
abbrev pub sourced : Origin → Option ℕ → Waiting → List Item → List Sourced
sourced o place w [] = []
sourced o place w (i ∷ is) =
    record { item = i; origin = o; place = place; due = due_at i.token.kind w; is_behind_blank = false } ∷ sourced o place (behind_token i.token.kind w) is

-- ---- one replacement
-- the first of these tokens is directly behind a value that ends in a blank, if `b`
abbrev pub marked : (b : Bool) → List Sourced → List Sourced
marked b [] = []
marked b (t ∷ ts) = record t { is_behind_blank = t.is_behind_blank || b } ∷ ts

-- a fault of a token that came from a value is told at the word that the value replaces in the text
abbrev pub told_place : Sourced → ℕ
told_place t = unwrap_or t.place t.item.token.span.start

-- the value's tokens are in the place of the replaced one
abbrev pub replaced_by : Sourced → Alias → (after : List Sourced) → List Sourced
replaced_by t alias after =
    marked t.is_behind_blank (sourced (value_origin t.origin alias) (Some (told_place t)) nothing alias.items ++ marked (ends_in_blank alias.value) after)

-- where the name of a command may stand, a word that is no reserved word; and any word behind a value that ends in a blank
abbrev pub is_replaceable : Tabulation → (before : List Sourced) → Sourced → (text : List ℕ) → Bool
is_replaceable grammar before t text =
    t.is_behind_blank || (not (is_reserved text) && is_prefix grammar (map (λ s. input_of s.item) before ++ command_name ∷ []))

abbrev pub alias_of_text : AliasTable → Tabulation → (before : List Sourced) → Sourced → Option (List ℕ) → Option Alias
alias_of_text table grammar before t None = None
alias_of_text table grammar before t (Some text) = if is_replaceable grammar before t text then alias_outside table t.origin.from text else None

-- the alias that replaces a token behind others
unfoldable pub alias_there : AliasTable → Tabulation → (before : List Sourced) → Sourced → Option Alias
alias_there table grammar before t = alias_of_text table grammar before t (unquoted_text t.item.token.kind)

-- none of these tokens, which are behind others, is replaced
abbrev pub NoneReplaced : AliasTable → Tabulation → (before : List Sourced) → List Sourced → Type 0
NoneReplaced table grammar before [] = Unit {0}
NoneReplaced table grammar before (t ∷ ts) = (alias_there table grammar before t ≡ None) × NoneReplaced table grammar (before ++ t ∷ []) ts

-- the first token that is replaced is
pub record IsStep (table : AliasTable) (grammar : Tabulation) (ts us : List Sourced) : Type 0 where
  pub before : List Sourced
  pub token : Sourced
  pub after : List Sourced
  pub alias : Alias
  pub joined : ts ≡ before ++ token ∷ after
  pub first : NoneReplaced table grammar [] before
  pub replaced : alias_there table grammar before token ≡ Some alias
  pub gives : us ≡ before ++ replaced_by token alias after

-- the tokens that come of it once none is replaced
pub data IsRewritten (table : AliasTable) (grammar : Tabulation) : List Sourced → List Sourced → Type 0 where
  Finished : (ts : List Sourced) → NoneReplaced table grammar [] ts → IsRewritten table grammar ts ts
  Stepped : (ts us vs : List Sourced) → IsStep table grammar ts us → IsRewritten table grammar us vs → IsRewritten table grammar ts vs

-- ---- tokens that stand for themselves, judged one after another
abbrev pub told_at : {A : Type 0} → Option ℕ → Result A PartFault → Result A PartFault
told_at None r = r
told_at (Some place) r = fault_moved (λ at. place) r

abbrev pub with_sourced : Inside → List Sourced → Judged → Result Judged PartFault
with_sourced inside [] j = Ok j
with_sourced inside (t ∷ ts) j =
    and_then (told_at t.place (with_item (within (inside.read t.origin.from) t.origin.left t.origin.text) t.due t.item j)) (λ k. with_sourced inside ts k)

-- what was judged, whatever comes next
abbrev pub plainly : Result Judged PartFault → Result Judged PartFault
plainly (Ok j) = Ok (record j { is_behind_blank = false })
plainly (Err f) = Err f
