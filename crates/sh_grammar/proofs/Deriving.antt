-- The computed tree is that of the derivation.
use Rattle.std.proofs.Common.{◌≡◌, ℕ, zero, suc, ◌<◌, List, [], ◌∷◌, ◌++◌, length, Some, refl, sym, ap, ◌∙◌, append-nil, append_assoc, arith}
use Rattle.sh_grammar.specs.declared.Symbol.{Symbol}
use Rattle.sh_grammar.specs.declared.Symbol.TheVariants.{Terminal, Nonterminal}
use Rattle.sh_grammar.specs.declared.Token.{Token}
use Rattle.sh_grammar.specs.declared.Action.{Action}
use Rattle.sh_grammar.specs.declared.Action.TheVariants.{Expand, Shift}
use Rattle.sh_grammar.specs.Computed.{body_in, rule_body}
use Rattle.sh_grammar.specs.Derived.{actions_from, ended_by, first_tree, first_trees, forest_of, led_by, number_in, other_trees, tree_of}
use Rattle.sh_grammar.specs.Grammar.{AreTrees, Grammar, IsRule, IsTree, Tree, Forest, Leaf, Node, Empty, And, all_leaves, next_class}
use Rattle.sh_grammar.specs.Leftmost.{Leftmost, preorder, preorders, tokens_of}
use Rattle.sh_grammar.specs.Passes.{IsPredictive, evidence_of}
use Rattle.sh_grammar.specs.Predictive.{Evidence, Fits, Predicts}
use Rattle.sh_grammar.specs.Reach.{at_end}
use Rattle.sh_grammar.specs.Table.{Table, cost_of, table_of}
use Rattle.sh_grammar.specs.Tabulation.{Tabulation, grammar_of}
use Rattle.sh_grammar.specs.Text.{IsTreeOf}
use Rattle.sh_grammar.proofs.Check.{passes_predicts}
use Rattle.sh_grammar.proofs.Prefix.{cost_falls}
use Rattle.sh_grammar.proofs.Reach.{fits_append, predicted, predicted_end, reach_start}
use Rattle.sh_grammar.proofs.SoFar.{led, led_text}

first_same : (u v : Token) (us vs : List Token) → u ∷ us ≡ v ∷ vs → u ≡ v
first_same u v us vs e = cc

rest_same : (u v : Token) (us vs : List Token) → u ∷ us ≡ v ∷ vs → us ≡ vs
rest_same u v us vs e = cc

module _ (g : Grammar) (t : Table) (evidence : Evidence) (ok : Predicts g t evidence) where
  abbrev Follows : List Token → (List Symbol → List Action) → Type 0
  Follows tokens more = (stack : List Symbol) (actions : List Action) → Leftmost g g.ending stack actions → Fits g t evidence (at_end g) stack → tokens_of actions ≡ tokens → more stack ≡ actions

  fits_behind : (p n : ℕ) (body stack : List Symbol) → IsRule g p n body → Fits g t evidence (at_end g) (Nonterminal n ∷ stack) → Fits g t evidence (at_end g) (body ++ stack)
  fits_behind p n body stack r f = fits_append g t evidence (evidence.follow n) (at_end g) body stack (ok.follow p n body r) f.0 f.1 f.2

  leads : (f : ℕ) (stack : List Symbol) (actions : List Action) (u : Token) (us : List Token) (more : List Symbol → List Action) → cost_of t stack < f → Leftmost g g.ending stack actions → Fits g t evidence (at_end g) stack → tokens_of actions ≡ u ∷ us → Follows us more → led_by g t f stack u more ≡ actions
  leads zero stack actions u us more c l h e w = absurd (omega (arith, c))
  leads (suc f) [] [] u us more c l h e w = absurd (cc)
  leads (suc f) [] (a ∷ actions) u us more c l h e w = absurd l
  leads (suc f) (Terminal k ∷ stack) [] u us more c l h e w = absurd l
  leads (suc f) (Terminal k ∷ stack) (Expand p ∷ actions) u us more c l h e w = absurd l
  leads (suc f) (Terminal k ∷ stack) (Shift v ∷ actions) u us more c l h e w =
      ap (λ x. x ∷ more stack) (ap Shift (sym (first_same v u (tokens_of actions) us e)))
      ∙ ap (λ x. Shift v ∷ x) (w stack actions l.1 h (rest_same v u (tokens_of actions) us e))
  leads (suc f) (Nonterminal n ∷ stack) [] u us more c l h e w = absurd l
  leads (suc f) (Nonterminal n ∷ stack) (Shift v ∷ actions) u us more c l h e w = absurd l
  leads (suc f) (Nonterminal n ∷ stack) (Expand p ∷ actions) u us more c l h e w =
      let is = predicted g t evidence ok n stack p l.0 actions u us h l.1 l.2 l.3 e in
      let falls : cost_of t (l.0 ++ stack) < cost_of t (Nonterminal n ∷ stack) = cost_falls g t evidence ok p n l.0 stack l.1 in
      let less : cost_of t (l.0 ++ stack) < f = omega (arith, c, falls) in
      ap (λ x. Expand (number_in x) ∷ led_by g t f (rule_body g x ++ stack) u more) is
      ∙ ap (λ x. Expand p ∷ led_by g t f (body_in x ++ stack) u more) l.1.there
      ∙ ap (λ x. Expand p ∷ x) (leads f (l.0 ++ stack) actions u us more less l.3 (fits_behind p n l.0 stack l.1 h) e w)

  ends : (f : ℕ) (stack : List Symbol) (actions : List Action) → cost_of t stack < f → Leftmost g g.ending stack actions → Fits g t evidence (at_end g) stack → tokens_of actions ≡ [] → ended_by g t f stack ≡ actions
  ends zero stack actions c l h e = absurd (omega (arith, c))
  ends (suc f) [] [] c l h e = refl
  ends (suc f) [] (a ∷ actions) c l h e = absurd l
  ends (suc f) (Terminal k ∷ stack) [] c l h e = absurd l
  ends (suc f) (Terminal k ∷ stack) (Expand p ∷ actions) c l h e = absurd l
  ends (suc f) (Terminal k ∷ stack) (Shift v ∷ actions) c l h e = absurd (cc)
  ends (suc f) (Nonterminal n ∷ stack) [] c l h e = absurd l
  ends (suc f) (Nonterminal n ∷ stack) (Shift v ∷ actions) c l h e = absurd l
  ends (suc f) (Nonterminal n ∷ stack) (Expand p ∷ actions) c l h e =
      let is = predicted_end g t evidence ok n stack p l.0 actions h l.1 l.2 l.3 e in
      let falls : cost_of t (l.0 ++ stack) < cost_of t (Nonterminal n ∷ stack) = cost_falls g t evidence ok p n l.0 stack l.1 in
      let less : cost_of t (l.0 ++ stack) < f = omega (arith, c, falls) in
      ap (λ x. Expand (number_in x) ∷ ended_by g t f (rule_body g x ++ stack)) is
      ∙ ap (λ x. Expand p ∷ ended_by g t f (body_in x ++ stack)) l.1.there
      ∙ ap (λ x. Expand p ∷ x) (ends f (l.0 ++ stack) actions less l.3 (fits_behind p n l.0 stack l.1 h) e)

  goes : (tokens : List Token) → Follows tokens (λ stack. actions_from g t stack tokens)
  goes [] stack actions l h e = ends (suc (cost_of t stack)) stack actions (omega arith) l h e
  goes (u ∷ us) stack actions l h e = leads (suc (cost_of t stack)) stack actions u us (λ s. actions_from g t s us) (omega arith) l h e (goes us)

-- trees behind trees
abbrev beside : Forest → Forest → Forest
beside Empty others = others
beside (And x trees) others = And x (beside trees others)

abbrev count : Forest → ℕ
count Empty = 0
count (And x trees) = suc (count trees)

firsts : (trees others : Forest) → first_trees (count trees) (beside trees others) ≡ trees
firsts Empty others = refl
firsts (And x trees) others = ap (And x) (firsts trees others)

others_left : (trees others : Forest) → other_trees (count trees) (beside trees others) ≡ others
others_left Empty others = refl
others_left (And x trees) others = others_left trees others

as_many : (g : Grammar) (e : ℕ) (symbols : List Symbol) (trees : Forest) → AreTrees g e symbols trees → length symbols ≡ count trees
as_many g e [] Empty h = refl
as_many g e (s ∷ symbols) (And x trees) h = ap suc (as_many g e symbols trees h.1)
as_many g e [] (And x trees) h = absurd h
as_many g e (s ∷ symbols) Empty h = absurd h

mutual
  grows : (g : Grammar) (e : ℕ) (s : Symbol) (x : Tree) (actions : List Action) → IsTree g e s x → forest_of g (preorder x ++ actions) ≡ And x (forest_of g actions)
  grows g e s (Leaf u) actions h = refl
  grows g e (Terminal k) (Node p children) actions h = absurd h
  grows g e (Nonterminal n) (Node p children) actions h =
      let many : length (rule_body g (Some p)) ≡ count children = ap (λ r. length (body_in r)) h.1.there ∙ as_many g e h.0 children h.3 in
      let all = grow_all g e h.0 children actions h.3 in
      ap (λ f. And (Node p (first_trees (length (rule_body g (Some p))) f)) (other_trees (length (rule_body g (Some p))) f)) all
      ∙ ap (λ k. And (Node p (first_trees k (beside children (forest_of g actions)))) (other_trees k (beside children (forest_of g actions)))) many
      ∙ ap (λ f. And (Node p f) (other_trees (count children) (beside children (forest_of g actions)))) (firsts children (forest_of g actions))
      ∙ ap (λ f. And (Node p children) f) (others_left children (forest_of g actions))

  grow_all : (g : Grammar) (e : ℕ) (symbols : List Symbol) (trees : Forest) (actions : List Action) → AreTrees g e symbols trees → forest_of g (preorders trees ++ actions) ≡ beside trees (forest_of g actions)
  grow_all g e [] Empty actions h = refl
  grow_all g e (s ∷ symbols) (And x trees) actions h =
      ap (forest_of g) (append_assoc (preorder x) (preorders trees) actions)
      ∙ grows g (next_class e (all_leaves trees)) s x (preorders trees ++ actions) h.0
      ∙ ap (And x) (grow_all g e symbols trees actions h.1)
  grow_all g e [] (And x trees) actions h = absurd h
  grow_all g e (s ∷ symbols) Empty actions h = absurd h

pub tree_computed : (d : Tabulation) → IsPredictive d → (tokens : List Token) (tree : Tree) → IsTreeOf d tokens tree → tree_of d tokens ≡ tree
unfolding tree_of
tree_computed d p tokens tree h =
    let g = grammar_of d in
    let t = table_of d in
    let evidence = evidence_of d p.0 in
    let ok = passes_predicts d p.0 p.1 in
    let stack : List Symbol = Nonterminal d.start ∷ [] in
    let same : actions_from g t stack tokens ≡ preorder tree = goes g t evidence ok tokens stack (preorder tree) (led g (Nonterminal d.start) tokens tree h) (reach_start g t evidence ok).fits (led_text g (Nonterminal d.start) tokens tree h) in
    ap (λ x. first_tree (forest_of g x)) (same ∙ sym (append-nil (preorder tree))) ∙ ap first_tree (grows g g.ending (Nonterminal d.start) tree [] h.shape)
