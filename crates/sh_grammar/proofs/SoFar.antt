-- What a parser's place says of the tokens so far.
use Rattle.std.proofs.Common.{◌≡◌, ℕ, true, List, [], ◌∷◌, ◌++◌, Some, refl, sym, ap, ◌∙◌, subst, append_assoc}
use Rattle.std.proofs.lemmas.List.{append-nil}
use Rattle.sh_grammar.specs.declared.Symbol.{Symbol}
use Rattle.sh_grammar.specs.declared.Symbol.TheVariants.{Terminal, Nonterminal}
use Rattle.sh_grammar.specs.declared.Token.{Token}
use Rattle.sh_grammar.specs.declared.Action.{Action}
use Rattle.sh_grammar.specs.declared.Action.TheVariants.{Expand, Shift}
use Rattle.sh_grammar.specs.Grammar.{Grammar, IsRule, next_class, Tree, Forest, Empty, And, IsTree, AreTrees, Derives, IsPrefix}
use Rattle.sh_grammar.specs.Leftmost.{preorder, preorders, tokens_of, Leftmost}
use Rattle.sh_grammar.specs.Table.{Table, nullable_of, first_of}
use Rattle.sh_grammar.specs.Predictive.{Evidence, samples, Fits, Predicts}
use Rattle.sh_grammar.specs.Reach.{Any, Begins, at_end, Reaches}
use Rattle.sh_grammar.proofs.Trees.{shifted_append, shifted_preorder, same_body, leads_grow, tree_leads, tree_once}
use Rattle.sh_grammar.proofs.Predict.{first_in, nullable_in}
use Rattle.sh_grammar.proofs.Reach.{append_cancel, fits_append, predicted, predicted_end, reach_start, samples_lead}
use Rattle.sh_grammar.proofs.Prefix.{first_starts, nullable_empties}

-- a leftmost derivation of one symbol is the preorder of a tree
pub record Grew (g : Grammar) (s : Symbol) (actions : List Action) : Type 0 where
  pub tree : Tree
  pub shape : IsTree g g.ending s tree
  pub order : preorder tree ≡ actions

pub one_tree : (g : Grammar) (s : Symbol) (actions : List Action) → Leftmost g g.ending (s ∷ []) actions → Grew g s actions
one_tree g s actions l = let r = leads_grow g g.ending (s ∷ []) actions l in go r.trees r.fit r.order
  where
    go : (f : Forest) → AreTrees g g.ending (s ∷ []) f → preorders f ≡ actions → Grew g s actions
    go Empty h e = absurd h
    go (And x Empty) h e = record { tree = x; shape = h.0; order = sym (append-nil (preorder x)) ∙ e }
    go (And x (And y f)) h e = absurd h.1

pub derived : (g : Grammar) (s : Symbol) (actions : List Action) → Leftmost g g.ending (s ∷ []) actions → (tree : Tree) × Derives g s (tokens_of actions) tree
derived g s actions l = let r = one_tree g s actions l in (r.tree, record { shape = r.shape; text = sym (shifted_preorder r.tree) ∙ ap tokens_of r.order })

pub led : (g : Grammar) (s : Symbol) (tokens : List Token) (tree : Tree) → Derives g s tokens tree → Leftmost g g.ending (s ∷ []) (preorder tree)
led g s tokens tree d = subst (λ a. Leftmost g g.ending (s ∷ []) a) (append-nil (preorder tree)) (tree_leads g g.ending s tree [] [] d.shape tt)

pub led_text : (g : Grammar) (s : Symbol) (tokens : List Token) (tree : Tree) → Derives g s tokens tree → tokens_of (preorder tree) ≡ tokens
led_text g s tokens tree d = shifted_preorder tree ∙ d.text

module _ (g : Grammar) (t : Table) (evidence : Evidence) (ok : Predicts g t evidence) where
  same_some : (a b : ℕ) → Some a ≡ Some b → a ≡ b
  same_some a b e = cc

  one_rule : (n : ℕ) (stack : List Symbol) (p q : ℕ) (body other : List Symbol) (xs ys : List Action) → Fits g t evidence (at_end g) (Nonterminal n ∷ stack) → IsRule g p n body → IsRule g q n other → g.allows p (next_class g.ending (tokens_of xs)) ≡ true → g.allows q (next_class g.ending (tokens_of ys)) ≡ true → Leftmost g g.ending (body ++ stack) xs → Leftmost g g.ending (other ++ stack) ys → (text : List Token) → tokens_of xs ≡ text → tokens_of ys ≡ text → p ≡ q
  one_rule n stack p q body other xs ys f r s v w l m [] a b = same_some p q (sym (predicted_end g t evidence ok n stack p body xs f r v l a) ∙ predicted_end g t evidence ok n stack q other ys f s w m b)
  one_rule n stack p q body other xs ys f r s v w l m (u ∷ more) a b = same_some p q (sym (predicted g t evidence ok n stack p body xs u more f r v l a) ∙ predicted g t evidence ok n stack q other ys u more f s w m b)

  -- a text has one leftmost derivation
  pub once : (stack : List Symbol) (xs ys : List Action) → Leftmost g g.ending stack xs → Leftmost g g.ending stack ys → Fits g t evidence (at_end g) stack → tokens_of xs ≡ tokens_of ys → xs ≡ ys
  once [] [] [] l m f e = refl
  once [] [] (b ∷ ys) l m f e = absurd m
  once [] (a ∷ xs) ys l m f e = absurd l
  once (s ∷ stack) [] ys l m f e = absurd l
  once (s ∷ stack) (a ∷ xs) [] l m f e = absurd m
  once (Terminal k ∷ stack) (Shift v ∷ xs) (Shift w ∷ ys) l m f e =
      let vw : v ≡ w = cc in
      let below = once stack xs ys l.1 m.1 f (cc) in
      cc
  once (Nonterminal n ∷ stack) (Expand p ∷ xs) (Expand q ∷ ys) l m f e =
      let pq = one_rule n stack p q l.0 m.0 xs ys f l.1 m.1 l.2 m.2 l.3 m.3 (tokens_of xs) refl (sym e) in
      let same = same_body g p n l.0 m.0 l.1 (subst (λ r. IsRule g r n m.0) (sym pq) m.1) in
      let below = once (l.0 ++ stack) xs ys l.3 (subst (λ b. Leftmost g g.ending (b ++ stack) ys) (sym same) m.3) (fits_append g t evidence (evidence.follow n) (at_end g) l.0 stack (ok.follow p n l.0 l.1) f.0 f.1 f.2) e in
      cc
  once (Terminal k ∷ stack) (Expand p ∷ xs) ys l m f e = absurd l
  once (Terminal k ∷ stack) (Shift v ∷ xs) (Expand q ∷ ys) l m f e = absurd m
  once (Nonterminal n ∷ stack) (Shift v ∷ xs) ys l m f e = absurd l
  once (Nonterminal n ∷ stack) (Expand p ∷ xs) (Shift w ∷ ys) l m f e = absurd m

  -- no text has two trees
  pub unique : (tokens : List Token) (x y : Tree) → Derives g (Nonterminal t.start) tokens x → Derives g (Nonterminal t.start) tokens y → x ≡ y
  unique tokens x y d e =
      let s = Nonterminal t.start in
      let same = once (s ∷ []) (preorder x) (preorder y) (led g s tokens x d) (led g s tokens y e) (reach_start g t evidence ok).fits (led_text g s tokens x d ∙ sym (led_text g s tokens y e)) in
      (tree_once g g.ending g.ending s x y d.shape e.shape [] [] (ap (λ a. a ++ []) same)).0

  module _ (done : List Action) (stack : List Symbol) (r : Reaches g t evidence Any done stack) where
    -- the tokens so far are a prefix
    pub so_far : IsPrefix g (Nonterminal t.start) (tokens_of done)
    so_far =
        let rest = samples evidence stack in
        let d = derived g (Nonterminal t.start) (done ++ rest) (r.sound rest tt (samples_lead g t evidence ok g.ending stack r.ends)) in
        (tokens_of rest, d.0, subst (λ x. Derives g (Nonterminal t.start) x d.0) (shifted_append done rest) d.1)

    -- a token in the first set of the stack goes on
    pub goes_on : (u : Token) → first_of g t stack u.class ≡ true → IsPrefix g (Nonterminal t.start) (tokens_of done ++ u ∷ [])
    goes_on u h = let s = first_starts g t evidence ok stack u h r.fits r.ends in go s.actions s.leads (tokens_of s.actions) refl s.text
      where
        go : (actions : List Action) → Leftmost g g.ending stack actions → (text : List Token) → tokens_of actions ≡ text → Begins u text → IsPrefix g (Nonterminal t.start) (tokens_of done ++ u ∷ [])
        go actions l [] e b = absurd b
        go actions l (v ∷ more) e b =
            let d = derived g (Nonterminal t.start) (done ++ actions) (r.sound actions tt l) in
            let whole : tokens_of (done ++ actions) ≡ (tokens_of done ++ u ∷ []) ++ more = shifted_append done actions ∙ (ap (λ x. tokens_of done ++ x) (e ∙ ap (λ w. w ∷ more) b) ∙ sym (append_assoc (tokens_of done) (u ∷ []) more)) in
            (more, d.0, subst (λ x. Derives g (Nonterminal t.start) x d.0) whole d.1)

    -- and no other does
    pub only_first : (u : Token) → IsPrefix g (Nonterminal t.start) (tokens_of done ++ u ∷ []) → first_of g t stack u.class ≡ true
    only_first u f =
        let s = Nonterminal t.start in
        let text = led_text g s _ f.1 f.2 ∙ append_assoc (tokens_of done) (u ∷ []) f.0 in
        let p = r.complete (preorder f.1) (u ∷ f.0) tt (led g s _ f.1 f.2) text in
        let e = append_cancel (tokens_of done) (tokens_of p.rest) (u ∷ f.0) (sym (shifted_append done p.rest) ∙ (sym (ap tokens_of p.joined) ∙ text)) in
        first_in g t evidence ok g.ending stack p.rest p.leads u f.0 e

    -- a nullable stack may end
    pub may_end : nullable_of g t stack g.ending ≡ true → (tree : Tree) × Derives g (Nonterminal t.start) (tokens_of done) tree
    may_end h =
        let s = nullable_empties g t evidence ok stack h in
        let d = derived g (Nonterminal t.start) (done ++ s.actions) (r.sound s.actions tt s.leads) in
        (d.0, subst (λ x. Derives g (Nonterminal t.start) x d.0) (shifted_append done s.actions ∙ (ap (λ x. tokens_of done ++ x) s.text ∙ append-nil (tokens_of done))) d.1)

    -- and no other may
    pub only_nullable : (tree : Tree) → Derives g (Nonterminal t.start) (tokens_of done) tree → nullable_of g t stack g.ending ≡ true
    only_nullable tree d =
        let s = Nonterminal t.start in
        let text = led_text g s _ tree d ∙ sym (append-nil (tokens_of done)) in
        let p = r.complete (preorder tree) [] tt (led g s _ tree d) text in
        let e = append_cancel (tokens_of done) (tokens_of p.rest) [] (sym (shifted_append done p.rest) ∙ (sym (ap tokens_of p.joined) ∙ text)) in
        nullable_in g t evidence ok g.ending stack p.rest p.leads e
