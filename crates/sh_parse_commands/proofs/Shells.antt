-- The two grammars are predictive: what is computed of tokens is what derives.
use Rattle.std.proofs.Common.{◌≡◌, inl, inr, Bool, true, false, IsTrue, ◌↔◌, List, [], ◌∷◌, ◌++◌, Option, Some, None, refl, sym, ap, subst, ◌∙◌, if◌then◌else◌}
use Rattle.std.specs.Option.{unwrap_or}
use Rattle.sh_grammar.specs.declared.Action.{Action}
use Rattle.sh_grammar.specs.declared.Token.{Token as Input}
use Rattle.sh_grammar.specs.Computed.{is_whole, is_prefix}
use Rattle.sh_grammar.specs.Derived.{tree_of}
use Rattle.sh_grammar.specs.Grammar.{Tree}
use Rattle.sh_grammar.specs.Leftmost.{preorder}
use Rattle.sh_grammar.specs.Passes.{IsPredictive}
use Rattle.sh_grammar.specs.Tabulation.{Tabulation}
use Rattle.sh_grammar.specs.Text.{IsText, BeginsText, IsTreeOf}
use Rattle.sh_grammar.proofs.Computing.{whole_text, prefix_text}
use Rattle.sh_grammar.proofs.Deriving.{tree_computed}
use Rattle.sh_token_grammar.specs.Shell.{complete as complete_commands, substitution}
use Rattle.sh_token_grammar.proofs.Passing.{complete_predictive, substitution_predictive}
use Rattle.sh_syntax.specs.declared.tree.CompoundList.{CompoundList}
use Rattle.sh_syntax.specs.declared.tree.ListItem.{ListItem}
use Rattle.sh_syntax.specs.declared.tree.Parts.{Parts}
use Rattle.sh_parse_actions.specs.declared.leaf.Leaf.{Leaf}
use Rattle.sh_parse_actions.specs.Forms.{compound_list}
use Rattle.sh_parse_words.specs.Meaning.{syntax_of, IsSyntaxWhere}
use Rattle.sh_parse_commands.specs.Judging.{IsShell, Judged, with_input, takes, are_whole, with_bodies, tree_by, tree_where}

same_truth : (a b : Bool) (P : Type 0) → (IsTrue a ↔ P) → (IsTrue b ↔ P) → a ≡ b
same_truth true true P h k = refl
same_truth false false P h k = refl
same_truth true false P h k = let x : false ≡ true = k.1 (h.0 refl) in absurd (cc)
same_truth false true P h k = let x : false ≡ true = h.1 (k.0 refl) in absurd (cc)

pub shell_predictive : (d : Tabulation) → IsShell d → IsPredictive d
shell_predictive d (inl e) = subst (λ x. IsPredictive x) (sym e) complete_predictive
shell_predictive d (inr e) = subst (λ x. IsPredictive x) (sym e) substitution_predictive

abbrev judged : Tabulation → List Input → List Leaf → List Parts → Bool → Judged
judged d tokens ls bs blank = record { grammar = d; tokens = tokens; leaves = ls; bodies = bs; is_behind_blank = blank }

pub whole_told : (d : Tabulation) (tokens : List Input) (ls : List Leaf) (bs : List Parts) (blank : Bool) (b : Bool) (j : Judged) → j ≡ judged d tokens ls bs blank → IsShell d → (IsTrue b ↔ IsText d tokens) → b ≡ are_whole j
whole_told d tokens ls bs blank b j e s h = same_truth b (is_whole d tokens) (IsText d tokens) h (whole_text d (shell_predictive d s) tokens) ∙ ap are_whole (sym e)

pub prefix_told : (d : Tabulation) (tokens : List Input) (ls : List Leaf) (bs : List Parts) (blank : Bool) (input : Input) (b : Bool) (j : Judged) → j ≡ judged d tokens ls bs blank → IsShell d → (IsTrue b ↔ BeginsText d (tokens ++ input ∷ [])) → b ≡ takes (with_input j input)
prefix_told d tokens ls bs blank input b j e s h =
    same_truth b (is_prefix d (tokens ++ input ∷ [])) (BeginsText d (tokens ++ input ∷ [])) h (prefix_text d (shell_predictive d s) (tokens ++ input ∷ [])) ∙ ap (λ x. takes (with_input x input)) (sym e)

-- where the tokens are no text there is no tree
not_whole : (d : Tabulation) (tokens : List Input) (b : Bool) → is_whole d tokens ≡ b → IsShell d → (IsText d tokens → ⊥) → b ≡ false
not_whole d tokens false e s h = refl
not_whole d tokens true e s h = absurd (h ((whole_text d (shell_predictive d s) tokens).0 e))

pub no_tree : (d : Tabulation) (tokens : List Input) (ls : List Leaf) (bs : List Parts) (blank : Bool) (j : Judged) → j ≡ judged d tokens ls bs blank → IsShell d → (IsText d tokens → ⊥) → None ≡ tree_where j
no_tree d tokens ls bs blank j e s h =
    ap (λ b. if b then Some (tree_by (judged d tokens ls bs blank)) else None) (sym (not_whole d tokens (is_whole d tokens) refl s h)) ∙ ap tree_where (sym e)

-- the derivation of some actions
pub record Derived (d : Tabulation) (tokens : List Input) (actions : List Action) : Type 0 where
  pub tree : Tree
  pub is_tree : IsTreeOf d tokens tree
  pub same : preorder tree ≡ actions

-- the syntax that is found is that of the one derivation
by_grammar : (d : Tabulation) (tokens : List Input) (actions : List Action) (leaves : List Leaf) (found : Option CompoundList) → IsShell d → (t : Derived d tokens actions)
    → IsSyntaxWhere complete_commands actions leaves found → IsSyntaxWhere substitution actions leaves found → found ≡ syntax_of t.tree leaves
by_grammar d tokens actions leaves found (inl e) t c s = c tokens t.tree (subst (λ x. IsTreeOf x tokens t.tree) e t.is_tree) t.same
by_grammar d tokens actions leaves found (inr e) t c s = s tokens t.tree (subst (λ x. IsTreeOf x tokens t.tree) e t.is_tree) t.same

whole_by : (d : Tabulation) (tokens : List Input) (actions : List Action) → IsShell d → (t : Derived d tokens actions) → is_whole d tokens ≡ true
whole_by d tokens actions s t = (whole_text d (shell_predictive d s) tokens).1 (t.tree, t.is_tree)

pub tree_found : (d : Tabulation) (tokens : List Input) (ls : List Leaf) (bs : List Parts) (blank : Bool) (actions : List Action) (leaves : List Leaf) (found : Option CompoundList) (j : Judged) → j ≡ judged d tokens ls bs blank → IsShell d
    → Derived d tokens actions → IsSyntaxWhere complete_commands actions leaves found → IsSyntaxWhere substitution actions leaves found → leaves ≡ with_bodies ls bs
    → Some (unwrap_or found (compound_list [])) ≡ tree_where j
unfolding tree_by
tree_found d tokens ls bs blank actions leaves found j e s t c u l =
    let is : found ≡ syntax_of t.tree leaves = by_grammar d tokens actions leaves found s t c u in
    let one : tree_of d tokens ≡ t.tree = tree_computed d (shell_predictive d s) tokens t.tree t.is_tree in
    let same : found ≡ syntax_of (tree_of d tokens) (with_bodies ls bs) = is ∙ ap (λ x. syntax_of t.tree x) l ∙ ap (λ x. syntax_of x (with_bodies ls bs)) (sym one) in
    ap (λ x. Some (unwrap_or x (compound_list []))) same
    ∙ ap (λ b. if b then Some (tree_by (judged d tokens ls bs blank)) else None) (sym (whole_by d tokens actions s t))
    ∙ ap tree_where (sym e)

pub some_tree : (found : Option CompoundList) (tree : CompoundList) (t : Option CompoundList) → found ≡ Some tree → Some (unwrap_or found (compound_list [])) ≡ t → Some tree ≡ t
some_tree found tree t e h = ap (λ z. Some (unwrap_or z (compound_list []))) (sym e) ∙ h

pub none_found : (found : Option CompoundList) (items : List ListItem) (t : Option CompoundList) → found ≡ None → items ≡ [] → Some (unwrap_or found (compound_list [])) ≡ t → Some (compound_list items) ≡ t
none_found found items t e n h = ap (λ z. Some (compound_list z)) n ∙ ap (λ z. Some (unwrap_or z (compound_list []))) (sym e) ∙ h
