-- Tokens that come of rewriting aliases (XCU 2.3.1), judged by derivations (2.10): each token is taken, or one is the first with a fault.
use Rattle.std.specs.Prelude.{◌≡◌, ℕ, ◌-◌, ◌<◌, ◌≤◌, false, List, [], ◌∷◌, ◌++◌, map, Option, Some, None, Result, Ok, Err}
use Rattle.sh_grammar.specs.declared.Token.{Token as Input}
use Rattle.sh_grammar.specs.Tabulation.{Tabulation}
use Rattle.sh_grammar.specs.Text.{BeginsText}
use Rattle.sh_syntax.specs.declared.tree.Parts.{Parts}
use Rattle.sh_parse_actions.specs.declared.leaf.Leaf.{Leaf}
use Rattle.sh_parse_words.specs.declared.fault.PartFault.{PartFault}
use Rattle.sh_parse_words.specs.declared.fault.PartFault.TheVariants as fault
use Rattle.sh_parse_leaves.specs.Inputs.{input_of}
use Rattle.sh_parse_leaves.specs.Leaves.{leaf_of}
use Rattle.sh_parse_leaves.specs.Results.{at_other_place}
use Rattle.sh_parse_commands.specs.Defined.{AreTokens}
use Rattle.sh_parse_commands.specs.Documents.{bodies_of}
use Rattle.sh_parse_commands.specs.Judging.{Judged}
use Rattle.sh_parse_commands.specs.Levels.{open_compounds}
use Rattle.sh_parse_commands.specs.Replacing.{Inside}
use Rattle.sh_parse_commands.specs.Rewriting.{Sourced}

-- what tokens are judged by: a grammar, and how the texts of their substitutions are read
pub record Judge : Type 0 where
  pub grammar : Tabulation
  pub inside : Inside

-- the tokens to the grammar
abbrev pub inputs_there : List Sourced → List Input
inputs_there ts = map (λ t. input_of t.item) ts

-- none of them is the end
abbrev pub HaveNoEnd : List Sourced → Type 0
HaveNoEnd ts = AreTokens (map (λ t. t.item) ts)

-- the tokens derive with some further ones after them
abbrev pub ArePrefix : Judge → List Sourced → Type 0
ArePrefix g ts = BeginsText g.grammar (inputs_there ts)

-- how many levels are open after the tokens
abbrev pub opened : Judge → List Sourced → ℕ
opened g ts = open_compounds g.grammar (inputs_there ts)

-- what a token behind others is to the tree, and the bodies after it: these stand in the text or the value that has the token, and what is in
-- them is read by the aliases from which the token didn't come; the levels that are open there are no longer left
abbrev pub leaf_at : Judge → List Sourced → Sourced → Result Leaf PartFault
leaf_at g before t =
    leaf_of (g.inside.read t.origin.from) (t.origin.left - opened g (before ++ t ∷ [])) t.origin.text t.item.token.kind t.item.token.span

abbrev pub bodies_at : Judge → List Sourced → Sourced → Result (List Parts) PartFault
bodies_at g before t = bodies_of (g.inside.read t.origin.from) (t.origin.left - opened g (before ++ t ∷ [])) t.origin.text t.due t.item

-- a token behind others is taken: with it they are still a prefix, it has this leaf, and these bodies are after it
pub record IsTaken (g : Judge) (before : List Sourced) (t : Sourced) (l : Leaf) (here : List Parts) : Type 0 where
  pub prefix : ArePrefix g (before ++ t ∷ [])
  pub levels : opened g (before ++ t ∷ []) ≤ t.origin.left
  pub leaf : leaf_at g before t ≡ Ok l
  pub bodies : bodies_at g before t ≡ Ok here

-- a fault of a token that came from a value is told at the word that the value replaces in the text
abbrev pub told_at_word : Option ℕ → PartFault → PartFault
told_at_word None f = f
told_at_word (Some place) f = at_other_place (λ at. place) f

-- or it has this fault: it leaves no prefix, it opens a level too many, or its word or a body after it has the fault
pub data HasFault (g : Judge) (before : List Sourced) (t : Sourced) (f : PartFault) : Type 0 where
  refused : (ArePrefix g (before ++ t ∷ []) → ⊥) → f ≡ told_at_word t.place (fault.Refused t.item.token.span.start) → HasFault g before t f
  too_deep : ArePrefix g (before ++ t ∷ []) → t.origin.left < opened g (before ++ t ∷ []) → f ≡ told_at_word t.place (fault.TooDeep t.item.token.span.start)
      → HasFault g before t f
  in_word : ArePrefix g (before ++ t ∷ []) → opened g (before ++ t ∷ []) ≤ t.origin.left → (e : PartFault) → leaf_at g before t ≡ Err e
      → f ≡ told_at_word t.place e → HasFault g before t f
  in_body : ArePrefix g (before ++ t ∷ []) → opened g (before ++ t ∷ []) ≤ t.origin.left → (l : Leaf) → leaf_at g before t ≡ Ok l
      → (e : PartFault) → bodies_at g before t ≡ Err e → f ≡ told_at_word t.place e → HasFault g before t f

-- all tokens behind others are taken, one after another: there is a leaf for each, and these are the bodies
abbrev pub AreTaken : Judge → List Sourced → List Sourced → List Leaf → List Parts → Type 0
AreTaken g before [] [] bodies = bodies ≡ []
AreTaken g before [] (l ∷ ls) bodies = ⊥
AreTaken g before (t ∷ ts) [] bodies = ⊥
AreTaken g before (t ∷ ts) (l ∷ ls) bodies =
    (here others : List Parts) × IsTaken g before t l here × AreTaken g (before ++ t ∷ []) ts ls others × (bodies ≡ here ++ others)

-- no token has a fault, and all are taken so
pub record AreFaultless (g : Judge) (ts : List Sourced) (j : Judged) : Type 0 where
  pub leaves : List Leaf
  pub bodies : List Parts
  pub taken : AreTaken g [] ts leaves bodies
  pub judged : j ≡ record { grammar = g.grammar; tokens = inputs_there ts; leaves = leaves; bodies = bodies; is_behind_blank = false }

-- the first token that has a fault has this one
pub record FirstFault (g : Judge) (ts : List Sourced) (f : PartFault) : Type 0 where
  pub before : List Sourced
  pub token : Sourced
  pub after : List Sourced
  pub joined : ts ≡ before ++ token ∷ after
  pub front : Judged
  pub faultless : AreFaultless g before front
  pub fault : HasFault g before token f

-- the tokens come to this by derivations
abbrev pub AreJudged : Judge → List Sourced → Result Judged PartFault → Type 0
AreJudged g ts (Ok j) = AreFaultless g ts j
AreJudged g ts (Err f) = FirstFault g ts f
