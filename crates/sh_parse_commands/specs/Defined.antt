-- Tokens judged one after another, by derivations (XCU 2.10): each token is taken, or one is the first with a
-- fault.
use Rattle.std.specs.Prelude.{◌≡◌, ◌⊎◌, ℕ, ◌-◌, ◌<◌, ◌≤◌, true, List, [], ◌∷◌, ◌++◌, length, Option, Some, Result, Ok, Err}
use Rattle.std.specs.Option.{unwrap_or}
use Rattle.sh_grammar.specs.Grammar.{Tree}
use Rattle.sh_grammar.specs.Tabulation.{Tabulation}
use Rattle.sh_grammar.specs.Text.{IsText, BeginsText, IsTreeOf}
use Rattle.sh_token_grammar.specs.Shell.{substitution}
use Rattle.sh_syntax.specs.declared.tree.CompoundList.{CompoundList}
use Rattle.sh_syntax.specs.declared.tree.Parts.{Parts}
use Rattle.sh_token.specs.declared.token.TokenKind.{TokenKind}
use Rattle.sh_parse_actions.specs.declared.leaf.Leaf.{Leaf}
use Rattle.sh_parse_words.specs.Meaning.{syntax_of}
use Rattle.sh_parse_documents.specs.declared.item.Item.{Item}
use Rattle.sh_parse_documents.specs.Waiting.{nothing, due_at}
use Rattle.sh_parse_documents.specs.Stream.{Ending, AtEnd, Cut, items_of, waiting_behind}
use Rattle.sh_parse_words.specs.declared.fault.PartFault.{PartFault}
use Rattle.sh_parse_words.specs.declared.fault.PartFault.TheVariants as fault
use Rattle.sh_parse_leaves.specs.Inputs.{inputs_of}
use Rattle.sh_parse_commands.specs.Levels.{open_compounds}
use Rattle.sh_parse_leaves.specs.Words.{Reader}
use Rattle.sh_parse_leaves.specs.Leaves.{leaf_of}
use Rattle.sh_parse_commands.specs.Documents.{bodies_of}
use Rattle.sh_parse_commands.specs.Cuts.{cut_fault}
use Rattle.sh_parse_commands.specs.Judging.{with_bodies}

-- what tokens are judged by: a grammar, how the texts of substitutions are read, how many levels may open,
-- and the text that has the tokens
pub record Judge : Type 0 where
  pub grammar : Tabulation
  pub read : Reader
  pub left : ℕ
  pub text : List ℕ

-- the tokens derive; or they do with some further tokens after them
abbrev pub Derive : Judge → List Item → Type 0
Derive g tokens = IsText g.grammar (inputs_of tokens)

abbrev pub ArePrefix : Judge → List Item → Type 0
ArePrefix g tokens = BeginsText g.grammar (inputs_of tokens)

-- how many levels are open after the tokens
abbrev pub opened : Judge → List Item → ℕ
opened g tokens = open_compounds g.grammar (inputs_of tokens)

-- what a token after others is to the tree, and the bodies after it; the levels that are open there are no
-- longer left
abbrev pub leaf_at : Judge → List Item → Item → Result Leaf PartFault
leaf_at g before t = leaf_of g.read (g.left - opened g (before ++ t ∷ [])) g.text t.token.kind t.token.span

abbrev pub bodies_at : Judge → List Item → Item → Result (List Parts) PartFault
bodies_at g before t = bodies_of g.read (g.left - opened g (before ++ t ∷ [])) g.text (due_at t.token.kind (waiting_behind nothing before)) t

-- a token after others is taken: with it they are still a prefix, it has this leaf, and these bodies are
-- after it
pub record IsTaken (g : Judge) (before : List Item) (t : Item) (l : Leaf) (here : List Parts) : Type 0 where
  pub prefix : ArePrefix g (before ++ t ∷ [])
  pub levels : opened g (before ++ t ∷ []) ≤ g.left
  pub leaf : leaf_at g before t ≡ Ok l
  pub bodies : bodies_at g before t ≡ Ok here

-- or it has this fault: it leaves no prefix, it opens a level too many, or its word or a body after it has
-- the fault
pub data HasFault (g : Judge) (before : List Item) (t : Item) (f : PartFault) : Type 0 where
  refused : (ArePrefix g (before ++ t ∷ []) → ⊥) → f ≡ fault.Refused t.token.span.start → HasFault g before t f
  too_deep : ArePrefix g (before ++ t ∷ []) → g.left < opened g (before ++ t ∷ []) → f ≡ fault.TooDeep t.token.span.start → HasFault g before t f
  in_word : ArePrefix g (before ++ t ∷ []) → opened g (before ++ t ∷ []) ≤ g.left → leaf_at g before t ≡ Err f → HasFault g before t f
  in_body : ArePrefix g (before ++ t ∷ []) → opened g (before ++ t ∷ []) ≤ g.left → (l : Leaf) → leaf_at g before t ≡ Ok l → bodies_at g before t ≡ Err f
      → HasFault g before t f

-- all tokens after others are taken, one after another: there is a leaf for each, and these are the bodies
abbrev pub AreTaken : Judge → List Item → List Item → List Leaf → List Parts → Type 0
AreTaken g before [] [] bodies = bodies ≡ []
AreTaken g before [] (l ∷ ls) bodies = ⊥
AreTaken g before (t ∷ tokens) [] bodies = ⊥
AreTaken g before (t ∷ tokens) (l ∷ ls) bodies =
    (here others : List Parts) × IsTaken g before t l here × AreTaken g (before ++ t ∷ []) tokens ls others × (bodies ≡ here ++ others)

-- no token has a fault
pub record AreFaultless (g : Judge) (tokens : List Item) : Type 0 where
  pub leaves : List Leaf
  pub bodies : List Parts
  pub taken : AreTaken g [] tokens leaves bodies

-- the first token that has a fault has this one
pub record FirstFault (g : Judge) (tokens : List Item) (f : PartFault) : Type 0 where
  pub before : List Item
  pub token : Item
  pub after : List Item
  pub joined : tokens ≡ before ++ token ∷ after
  pub faultless : AreFaultless g before
  pub fault : HasFault g before token f

-- no token has a fault, the tokens derive, and with these bodies after their own they are this list of
-- commands
pub record AreTree (g : Judge) (tokens : List Item) (others : List Parts) (tree : CompoundList) : Type 0 where
  pub faultless : AreFaultless g tokens
  pub derivation : Tree
  pub derives : IsTreeOf g.grammar (inputs_of tokens) derivation
  pub syntax : syntax_of derivation (with_bodies faultless.leaves (faultless.bodies ++ others)) ≡ Some tree

-- none of the tokens is the end
abbrev pub AreTokens : List Item → Type 0
AreTokens [] = Unit {0}
AreTokens (t ∷ tokens) = (t.token.kind ≡ TokenKind.End → ⊥) × AreTokens tokens

-- what is told where no token is found after these, from `at` on; the levels that are open there are no
-- longer left
abbrev pub cut_at : Judge → List Item → ℕ → Option PartFault
cut_at g tokens at = cut_fault (g.left - opened g tokens) g.text (waiting_behind nothing tokens) at

-- the answer for a text whose tokens have no fault and end so: a list of commands where the text ends and
-- they derive, else a fault
abbrev pub EndIs : Judge → List Item → Ending → Result CompoundList PartFault → Type 0
EndIs g tokens AtEnd answer =
    ((tree : CompoundList) × AreTree g tokens [] tree × (answer ≡ Ok tree)) ⊎ ((Derive g tokens → ⊥) × (answer ≡ Err (fault.Refused (length g.text))))
EndIs g tokens (Cut at) answer = answer ≡ Err (unwrap_or (cut_at g tokens at) (fault.Refused (length g.text)))

-- how the tokens of a substitution are judged
abbrev pub inner : Reader → ℕ → List ℕ → Judge
inner read left text = record { grammar = substitution; read = read; left = left; text = text }

-- the text of a substitution is this list of commands, or has this fault
abbrev pub IsProgram : Reader → ℕ → List ℕ → Result CompoundList PartFault → Type 0
IsProgram read left text answer =
    ((f : PartFault) × FirstFault (inner read left text) (items_of true text).items f × (answer ≡ Err f))
    ⊎ (AreFaultless (inner read left text) (items_of true text).items × EndIs (inner read left text) (items_of true text).items (items_of true text).ending answer)
