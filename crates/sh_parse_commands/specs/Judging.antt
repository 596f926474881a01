-- The tokens of a text, judged one after another: whether the grammar takes each (XCU 2.10.2), how many
-- levels are open there, and what the token is to the tree. The first fault counts.
use Rattle.std.specs.Prelude.{◌≡◌, ◌⊎◌, ℕ, ◌-◌, Bool, true, false, nat_lt, List, [], ◌∷◌, ◌++◌, Option, Some, None, Result, Ok, Err, if◌then◌else◌}
use Rattle.std.specs.Option.{unwrap_or}
use Rattle.sh_grammar.specs.declared.Token.{Token as Input}
use Rattle.sh_grammar.specs.Computed.{is_prefix, is_whole}
use Rattle.sh_grammar.specs.Derived.{tree_of}
use Rattle.sh_grammar.specs.Tabulation.{Tabulation}
use Rattle.sh_parse_commands.specs.Levels.{open_compounds}
use Rattle.sh_token_grammar.specs.Shell.{complete as complete_commands, substitution}
use Rattle.sh_token_pieces.specs.declared.here.Delimiter.{Delimiter}
use Rattle.sh_syntax.specs.declared.tree.CompoundList.{CompoundList}
use Rattle.sh_syntax.specs.declared.tree.Parts.{Parts}
use Rattle.sh_parse_actions.specs.declared.leaf.Leaf.{Leaf}
use Rattle.sh_parse_actions.specs.declared.leaf.Leaf.TheVariants as leaf
use Rattle.sh_parse_actions.specs.Forms.{compound_list}
use Rattle.sh_parse_words.specs.Meaning.{syntax_of}
use Rattle.sh_parse_documents.specs.declared.item.Item.{Item}
use Rattle.sh_parse_documents.specs.Waiting.{Waiting, behind_token, due_at}
use Rattle.sh_parse_words.specs.declared.fault.PartFault.{PartFault}
use Rattle.sh_parse_words.specs.declared.fault.PartFault.TheVariants as fault
use Rattle.sh_parse_leaves.specs.Inputs.{input_of}
use Rattle.sh_parse_leaves.specs.Results.{and_then}
use Rattle.sh_parse_leaves.specs.Words.{Within, within}
use Rattle.sh_parse_leaves.specs.Leaves.{leaf_of}
use Rattle.sh_parse_commands.specs.Documents.{bodies_of}

-- the grammar of commands, or the grammar of substitutions
abbrev pub IsShell : Tabulation → Type 0
IsShell d = (d ≡ complete_commands) ⊎ (d ≡ substitution)

-- the tokens taken by a grammar, what each is to the tree, and the bodies of here-documents so far
pub record Judged : Type 0 where
  pub grammar : Tabulation
  pub tokens : List Input
  pub leaves : List Leaf
  pub bodies : List Parts
  -- an alias whose value ends in a blank was replaced, and no token has come since
  pub is_behind_blank : Bool

abbrev pub none_of : Tabulation → Judged
none_of grammar = record { grammar = grammar; tokens = []; leaves = []; bodies = []; is_behind_blank = false }

abbrev pub with_input : Judged → Input → Judged
with_input j input = record j { tokens = j.tokens ++ input ∷ [] }

abbrev pub takes : Judged → Bool
takes j = is_prefix j.grammar j.tokens

abbrev pub open_in : Judged → ℕ
open_in j = open_compounds j.grammar j.tokens

-- the same so many levels deeper: those are no longer left
abbrev pub deeper : Within → ℕ → Within
deeper around levels = within around.read (around.left - levels) around.text

-- a token that was taken, with the bodies after it; the levels that are left may open in it
abbrev pub with_leaf : Within → List Delimiter → Item → Judged → Result Judged PartFault
with_leaf around due item j =
    and_then (leaf_of around.read around.left around.text item.token.kind item.token.span)
    (λ l. and_then (bodies_of around.read around.left around.text due item)
    (λ others. Ok (record j { leaves = j.leaves ++ l ∷ []; bodies = j.bodies ++ others; is_behind_blank = false })))

-- a token is judged with those before it
abbrev pub taken_item : Within → List Delimiter → Item → Judged → Result Judged PartFault
taken_item around due item j =
    if takes j
    then if nat_lt around.left (open_in j) then Err (fault.TooDeep item.token.span.start) else with_leaf (deeper around (open_in j)) due item j
    else Err (fault.Refused item.token.span.start)

-- one more token, at which these here-documents are due
unfoldable pub with_item : Within → List Delimiter → Item → Judged → Result Judged PartFault
with_item around due item j = taken_item around due item (with_input j (input_of item))

-- more tokens; w: what is awaited before them
abbrev pub with_items : Within → Waiting → List Item → Judged → Result Judged PartFault
with_items around w [] j = Ok j
with_items around w (i ∷ is) j =
    and_then (with_item around (due_at i.token.kind w) i j) (λ k. with_items around (behind_token i.token.kind w) is k)

-- a here-document takes the next body; where no body is left, it keeps the empty one
abbrev pub with_body : Leaf → List Parts → Leaf
with_body (leaf.HereDocument operator body) [] = leaf.HereDocument operator body
with_body (leaf.HereDocument operator body) (b ∷ bodies) = leaf.HereDocument operator b
with_body l bodies = l

abbrev pub bodies_behind : Leaf → List Parts → List Parts
bodies_behind (leaf.HereDocument operator body) [] = []
bodies_behind (leaf.HereDocument operator body) (b ∷ bodies) = bodies
bodies_behind l bodies = bodies

-- the n-th here-document has the n-th body
abbrev pub with_bodies : List Leaf → List Parts → List Leaf
with_bodies [] bodies = []
with_bodies (l ∷ ls) bodies = with_body l bodies ∷ with_bodies ls (bodies_behind l bodies)

abbrev pub are_no : {A : Type 0} → List A → Bool
are_no [] = true
are_no (x ∷ xs) = false

-- there is no token yet
abbrev pub is_none : Judged → Bool
is_none j = are_no j.leaves

-- the tokens are a whole text, and its tree
abbrev pub are_whole : Judged → Bool
are_whole j = is_whole j.grammar j.tokens

unfoldable pub tree_by : Judged → CompoundList
tree_by j = unwrap_or (syntax_of (tree_of j.grammar j.tokens) (with_bodies j.leaves j.bodies)) (compound_list [])

abbrev pub tree_where : Judged → Option CompoundList
tree_where j = if are_whole j then Some (tree_by j) else None
