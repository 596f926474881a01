-- What is known of the tokens so far, where a recognizer stands.
use Rattle.std.proofs.Common.{◌≡◌, ℕ, Bool, true, false, List, [], ◌∷◌, ◌++◌, length, take, reverse, refl, sym, ap, ◌∙◌, subst, append_assoc}
use Rattle.std.proofs.lemmas.List.{append-nil, reverse-append}
use Rattle.sh_grammar.specs.declared.Symbol.{Symbol}
use Rattle.sh_grammar.specs.declared.Symbol.TheVariants.{Nonterminal}
use Rattle.sh_grammar.specs.declared.Token.{Token}
use Rattle.sh_grammar.specs.declared.Action.{Action}
use Rattle.sh_grammar.specs.Grammar.{Tree}
use Rattle.sh_grammar.specs.Leftmost.{preorder, tokens_of}
use Rattle.sh_grammar.specs.Tabulation.{Tabulation, grammar_of}
use Rattle.sh_grammar.specs.Table.{first_of, nullable_of, table_of}
use Rattle.sh_grammar.specs.Predictive.{Predicts}
use Rattle.sh_grammar.specs.Passes.{evidence_of, IsPredictive}
use Rattle.sh_grammar.specs.Text.{IsTreeOf, IsText, BeginsText}
use Rattle.sh_grammar.specs.Reach.{Stands, Ended, Any, Extends}
use Rattle.sh_grammar.specs.Recognized.{Recognized}
use Rattle.sh_grammar.proofs.Trees.{shifted_preorder}
use Rattle.sh_grammar.proofs.Reach.{reach_start, reach_ahead}
use Rattle.sh_grammar.proofs.SoFar.{goes_on, only_first, may_end, only_nullable, one_tree}
use Rattle.sh_grammar.proofs.Check.{passes_predicts}

predicts : (d : Tabulation) (ahead : List Token → Type 0) (done : List Action) (stack : List Symbol) (s : Stands d ahead done stack) → Predicts (grammar_of d) (table_of d) (evidence_of d s.witness)
predicts d ahead done stack s = passes_predicts d s.witness s.passes

pub prefix_both : (d : Tabulation) (done : List Action) (stack symbols : List Symbol) (seen : Recognized) (u : Token) (c : ℕ) (b : Bool) → Stands d Any done stack → record { grammar = d; tokens = tokens_of done } ≡ seen → symbols ≡ stack → u.class ≡ c → b ≡ first_of (grammar_of d) (table_of d) symbols c → (b ≡ true → BeginsText seen.grammar (seen.tokens ++ u ∷ [])) × (BeginsText seen.grammar (seen.tokens ++ u ∷ []) → b ≡ true)
prefix_both d done stack symbols seen u c b s e q k i =
    let g = grammar_of d in
    let t = table_of d in
    let v = evidence_of d s.witness in
    let ok = predicts d Any done stack s in
    let at : b ≡ first_of g t stack u.class = i ∙ (ap (λ x. first_of g t x c) q ∙ ap (first_of g t stack) (sym k)) in
    subst (λ (x : Recognized). (b ≡ true → BeginsText x.grammar (x.tokens ++ u ∷ [])) × (BeginsText x.grammar (x.tokens ++ u ∷ []) → b ≡ true)) e
    ((λ h. goes_on g t v ok done stack s.reaches u (sym at ∙ h)), (λ f. at ∙ only_first g t v ok done stack s.reaches u f))

pub end_both : (d : Tabulation) (done : List Action) (stack symbols : List Symbol) (seen : Recognized) (b : Bool) → Stands d Any done stack → record { grammar = d; tokens = tokens_of done } ≡ seen → symbols ≡ stack → b ≡ nullable_of (grammar_of d) (table_of d) symbols d.ending → (b ≡ true → IsText seen.grammar seen.tokens) × (IsText seen.grammar seen.tokens → b ≡ true)
end_both d done stack symbols seen b s e q i =
    let g = grammar_of d in
    let t = table_of d in
    let v = evidence_of d s.witness in
    let ok = predicts d Any done stack s in
    let at : b ≡ nullable_of g t stack d.ending = i ∙ ap (λ x. nullable_of g t x d.ending) q in
    subst (λ (x : Recognized). (b ≡ true → IsText x.grammar x.tokens) × (IsText x.grammar x.tokens → b ≡ true)) e
    ((λ h. may_end g t v ok done stack s.reaches (sym at ∙ h)), (λ f. at ∙ only_nullable g t v ok done stack s.reaches f.0 f.1))

pub stands_start : (d : Tabulation) (done : List Action) (symbols : List Symbol) → IsPredictive d → done ≡ [] → symbols ≡ Nonterminal d.start ∷ [] → Stands d Any done (reverse symbols)
stands_start d done symbols p e q =
    let start : Stands d Any [] (Nonterminal d.start ∷ []) = record { witness = p.0; passes = p.1; reaches = reach_start (grammar_of d) (table_of d) (evidence_of d p.0) (passes_predicts d p.0 p.1) } in
    subst (λ x. Stands d Any x (reverse symbols)) (sym e) (subst (λ x. Stands d Any [] (reverse x)) (sym q) start)

pub stands_before : (d : Tabulation) (ahead : List Token → Type 0) (done : List Action) (stack : List Symbol) → Stands d Any done stack → Stands d ahead done stack
stands_before d ahead done stack s =
    record { witness = s.witness; passes = s.passes; reaches = reach_ahead (grammar_of d) (table_of d) (evidence_of d s.witness) (predicts d Any done stack s) ahead done stack s.reaches }

-- at the end, what was done is the preorder of the tree
pub derivation : (d : Tabulation) (before done actions : List Action) (seen : Recognized) → Stands d Ended done [] → tokens_of done ≡ tokens_of before → record { grammar = d; tokens = tokens_of before } ≡ seen → actions ≡ done → (tree : Tree) × IsTreeOf seen.grammar seen.tokens tree × (preorder tree ≡ actions)
derivation d before done actions seen s e f a =
    let x = one_tree (grammar_of d) (Nonterminal d.start) (done ++ []) (s.reaches.sound [] tt tt) in
    let same = x.order ∙ append-nil done in
    subst (λ (y : Recognized). (tree : Tree) × IsTreeOf y.grammar y.tokens tree × (preorder tree ≡ actions)) f
    (x.tree, record { shape = x.shape; text = sym (shifted_preorder x.tree) ∙ (ap tokens_of same ∙ e) }, same ∙ sym a)

pub no_tree : (seen : Recognized) (b : Bool) → b ≡ false → (IsText seen.grammar seen.tokens → b ≡ true) → IsText seen.grammar seen.tokens → ⊥
no_tree seen b e h text = let t = h text in let f : false ≡ true = sym e ∙ t in absurd (cc)

take_prefix : (below more : List Symbol) → take (length below) (below ++ more) ≡ below
take_prefix [] more = refl
take_prefix (x ∷ below) more = ap (λ y. x ∷ y) (take_prefix below more)

-- what stays of a stack
pub stays : (stack kept below gone more : List Symbol) → kept ≡ below ++ gone → stack ≡ kept ++ more → take (length below) stack ≡ below
stays stack kept below gone more e f = ap (take (length below)) (f ∙ (ap (λ x. x ++ more) e ∙ append_assoc below gone more)) ∙ take_prefix below (gone ++ more)

pub nothing_above : (stack above : List Symbol) → above ≡ [] → stack ≡ stack ++ above
nothing_above stack above e = sym (ap (λ x. stack ++ x) e ∙ append-nil stack)

-- symbols that come on top of what stays
pub reverse_above : (below above new symbols : List Symbol) → reverse new ≡ symbols ++ reverse above → reverse (below ++ new) ≡ symbols ++ reverse (below ++ above)
reverse_above below above new symbols e =
    reverse-append below new ∙ (ap (λ x. x ++ reverse below) e ∙ (append_assoc symbols (reverse above) (reverse below) ∙ ap (λ x. symbols ++ x) (sym (reverse-append below above))))

pub one_more : (first now after : List Action) (a : Action) → Extends first now → after ≡ now ++ a ∷ [] → Extends first after
one_more first now after a more e = (more.0 ++ a ∷ [], e ∙ (ap (λ x. x ++ a ∷ []) more.1 ∙ append_assoc first more.0 (a ∷ [])))

pub fewer : (stack kept below : List Symbol) → (gone : List Symbol) × (kept ≡ below ++ gone) → (more : List Symbol) × (stack ≡ kept ++ more) → (left : List Symbol) × (stack ≡ below ++ left)
fewer stack kept below gone more = (gone.0 ++ more.0, more.1 ∙ (ap (λ x. x ++ more.0) gone.1 ∙ append_assoc below gone.0 more.0))
