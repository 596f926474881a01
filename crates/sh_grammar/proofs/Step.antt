-- The steps of a parser whose stack has its last symbol on top.
use Rattle.std.proofs.Common.{◌≡◌, ℕ, suc, ◌<◌, true, List, [], ◌∷◌, ◌++◌, reverse, get_or, Some, refl, sym, ap, ◌∙◌, subst, eq-eqb}
use Rattle.sh_grammar.specs.declared.Symbol.{Symbol}
use Rattle.sh_grammar.specs.declared.Symbol.TheVariants.{Terminal, Nonterminal}
use Rattle.sh_grammar.specs.declared.Token.{Token}
use Rattle.sh_grammar.specs.declared.Action.{Action}
use Rattle.sh_grammar.specs.declared.Action.TheVariants.{Expand, Shift}
use Rattle.sh_grammar.specs.Grammar.{Grammar, IsRule}
use Rattle.sh_grammar.specs.Leftmost.{tokens_of}
use Rattle.sh_grammar.specs.Tabulation.{Tabulation, grammar_of, prediction}
use Rattle.sh_grammar.specs.Table.{Table, first_of, nullable_of, cost_of, table_of}
use Rattle.sh_grammar.specs.Predictive.{Evidence, Predicts}
use Rattle.sh_grammar.specs.Passes.{evidence_of}
use Rattle.sh_grammar.specs.Computed.{body_in, rule_body, lead}
use Rattle.sh_grammar.specs.Reach.{Reaches, Begins, Ended, Any, Stands}
use Rattle.sh_grammar.proofs.Trees.{shifted_append}
use Rattle.sh_grammar.proofs.Reach.{reach_shift, reach_before, reach_ended}
use Rattle.sh_grammar.proofs.Prefix.{next, last, cost_falls}
use Rattle.sh_grammar.proofs.Stack.{reverse_last, body_listed}
use Rattle.sh_grammar.proofs.Check.{passes_predicts}

module _ (g : Grammar) (t : Table) (evidence : Evidence) (ok : Predicts g t evidence) where
  same_some : (a b : ℕ) → Some a ≡ Some b → a ≡ b
  same_some a b e = cc

  pub step_shift : (old stack : List Symbol) (done after : List Action) (k : ℕ) (u : Token) → Reaches g t evidence (Begins u) done (reverse old) → first_of g t (reverse old) u.class ≡ true → old ≡ stack ++ Terminal k ∷ [] → after ≡ done ++ Shift u ∷ [] → Reaches g t evidence Any after (reverse stack)
  step_shift old stack done after k u r f e d =
      let top = reverse_last old stack (Terminal k) e in
      subst (λ x. Reaches g t evidence Any x (reverse stack)) (sym d) (reach_shift g t evidence ok done k (reverse stack) u (subst (λ x. Reaches g t evidence (Begins u) done x) top r) (subst (λ x. first_of g t x u.class ≡ true) top f))

  pub record Stepped (old new : List Symbol) (after : List Action) (u : Token) : Type 0 where
    pub reaches : Reaches g t evidence (Begins u) after (reverse new)
    pub begins : first_of g t (reverse new) u.class ≡ true
    pub less : cost_of t (reverse new) < cost_of t (reverse old)
    pub leads : (f : ℕ) → lead g t (suc f) (reverse old) u.class ≡ lead g t f (reverse new) u.class

  pub step_expand : (old stack new : List Symbol) (done after : List Action) (n p : ℕ) (body : List Symbol) (u : Token) → Reaches g t evidence (Begins u) done (reverse old) → first_of g t (reverse old) u.class ≡ true → old ≡ stack ++ Nonterminal n ∷ [] → t.predict n u.class ≡ Some p → ((other : List Symbol) → IsRule g p n other → body ≡ other) → reverse new ≡ body ++ reverse stack → after ≡ done ++ Expand p ∷ [] → Stepped old new after u
  step_expand old stack new done after n p body u r f e at same b d =
      let top = reverse_last old stack (Nonterminal n) e in
      let r1 = subst (λ x. Reaches g t evidence (Begins u) done x) top r in
      let k = next g t evidence ok n (reverse stack) u.class (subst (λ x. first_of g t x u.class ≡ true) top f) (r1.fits.0 u.class) in
      let kp : k.rule ≡ p = same_some k.rule p (sym k.predicted ∙ at) in
      let is = subst (λ x. IsRule g x n k.body) kp k.is_rule in
      let all : k.body ++ reverse stack ≡ reverse new = ap (λ x. x ++ reverse stack) (sym (same k.body is)) ∙ sym b in
      let r2 = reach_before g t evidence ok done n (reverse stack) p k.body u r1 is at (subst (λ x. g.allows x u.class ≡ true) kp k.allowed) in
      record {
        reaches = subst (λ x. Reaches g t evidence (Begins u) x (reverse new)) (sym d) (subst (λ x. Reaches g t evidence (Begins u) (done ++ Expand p ∷ []) x) all r2);
        begins = subst (λ x. first_of g t x u.class ≡ true) all k.goes_on;
        less = subst (λ x. x < cost_of t (reverse old)) (ap (cost_of t) all) (subst (λ x. cost_of t (k.body ++ reverse stack) < cost_of t x) (sym top) (cost_falls g t evidence ok p n k.body (reverse stack) is));
        leads = λ f. ap (λ x. lead g t (suc f) x u.class) top ∙ (ap (λ x. lead g t f (rule_body g x ++ reverse stack) u.class) at ∙ (ap (λ x. lead g t f (body_in x ++ reverse stack) u.class) is.there ∙ ap (λ x. lead g t f x u.class) all));
      }

module _ (g : Grammar) (t : Table) (evidence : Evidence) (ok : Predicts g t evidence) where
  pub record Ended_step (old new : List Symbol) (after : List Action) : Type 0 where
    pub reaches : Reaches g t evidence Ended after (reverse new)
    pub vanishes : nullable_of g t (reverse new) g.ending ≡ true
    pub less : cost_of t (reverse new) < cost_of t (reverse old)

  pub step_ended : (old stack new : List Symbol) (done after : List Action) (n p : ℕ) (body : List Symbol) → Reaches g t evidence Ended done (reverse old) → nullable_of g t (reverse old) g.ending ≡ true → old ≡ stack ++ Nonterminal n ∷ [] → t.predict n g.ending ≡ Some p → ((other : List Symbol) → IsRule g p n other → body ≡ other) → reverse new ≡ body ++ reverse stack → after ≡ done ++ Expand p ∷ [] → Ended_step old new after
  step_ended old stack new done after n p body r f e at same b d =
      let top = reverse_last old stack (Nonterminal n) e in
      let r1 = subst (λ x. Reaches g t evidence Ended done x) top r in
      let k = last g t evidence ok n (reverse stack) (subst (λ x. nullable_of g t x g.ending ≡ true) top f) (λ h. r1.fits.1 g.ending h (eq-eqb g.ending g.ending refl)) in
      let kp : k.rule ≡ p = same_some g t evidence ok k.rule p (sym k.predicted ∙ at) in
      let is = subst (λ x. IsRule g x n k.body) kp k.is_rule in
      let all : k.body ++ reverse stack ≡ reverse new = ap (λ x. x ++ reverse stack) (sym (same k.body is)) ∙ sym b in
      let r2 = reach_ended g t evidence ok done n (reverse stack) p k.body r1 is at (subst (λ x. g.allows x g.ending ≡ true) kp k.allowed) in
      record {
        reaches = subst (λ x. Reaches g t evidence Ended x (reverse new)) (sym d) (subst (λ x. Reaches g t evidence Ended (done ++ Expand p ∷ []) x) all r2);
        vanishes = subst (λ x. nullable_of g t x g.ending ≡ true) all k.goes_on;
        less = subst (λ x. x < cost_of t (reverse old)) (ap (cost_of t) all) (subst (λ x. cost_of t (k.body ++ reverse stack) < cost_of t x) (sym top) (cost_falls g t evidence ok p n k.body (reverse stack) is));
      }

pub shifted_last : (done after : List Action) (u : Token) → after ≡ done ++ Shift u ∷ [] → tokens_of after ≡ tokens_of done ++ u ∷ []
shifted_last done after u e = ap tokens_of e ∙ shifted_append done (Shift u ∷ [])

pub expand_last : (done after : List Action) (p : ℕ) → after ≡ done ++ Expand p ∷ [] → tokens_of after ≡ tokens_of done ++ []
expand_last done after p e = ap tokens_of e ∙ shifted_append done (Expand p ∷ [])

-- the same of a grammar that passes its test

abbrev Predicted : (d : Tabulation) (ahead : List Token → Type 0) (done : List Action) (stack : List Symbol) → Stands d ahead done stack → Type 0
Predicted d ahead done stack s = Predicts (grammar_of d) (table_of d) (evidence_of d s.witness)

predicts : (d : Tabulation) (ahead : List Token → Type 0) (done : List Action) (stack : List Symbol) (s : Stands d ahead done stack) → Predicted d ahead done stack s
predicts d ahead done stack s = passes_predicts d s.witness s.passes

same_listed : (d : Tabulation) (p n : ℕ) (other : List Symbol) → IsRule (grammar_of d) p n other → get_or d.bodies p [] ≡ other
same_listed d p n other h = body_listed d.heads d.bodies p n other h.there

pub stands_shift : (d : Tabulation) (old stack : List Symbol) (done after : List Action) (k : ℕ) (u : Token) → Stands d (Begins u) done (reverse old) → first_of (grammar_of d) (table_of d) (reverse old) u.class ≡ true → old ≡ stack ++ Terminal k ∷ [] → after ≡ done ++ Shift u ∷ [] → Stands d Any after (reverse stack)
stands_shift d old stack done after k u s f e a =
    record { witness = s.witness; passes = s.passes; reaches = step_shift (grammar_of d) (table_of d) (evidence_of d s.witness) (predicts d _ _ _ s) old stack done after k u s.reaches f e a }

pub record Expanded (d : Tabulation) (old new : List Symbol) (after : List Action) (u : Token) : Type 0 where
  pub stands : Stands d (Begins u) after (reverse new)
  pub begins : first_of (grammar_of d) (table_of d) (reverse new) u.class ≡ true
  pub less : cost_of (table_of d) (reverse new) < cost_of (table_of d) (reverse old)
  pub leads : (f : ℕ) → lead (grammar_of d) (table_of d) (suc f) (reverse old) u.class ≡ lead (grammar_of d) (table_of d) f (reverse new) u.class

pub stands_expand : (d : Tabulation) (old stack new : List Symbol) (done after : List Action) (n p : ℕ) (u : Token) → Stands d (Begins u) done (reverse old) → first_of (grammar_of d) (table_of d) (reverse old) u.class ≡ true → old ≡ stack ++ Nonterminal n ∷ [] → p ≡ prediction d n u.class → reverse new ≡ get_or d.bodies p [] ++ reverse stack → after ≡ done ++ Expand p ∷ [] → Expanded d old new after u
stands_expand d old stack new done after n p u s f e at b a =
    let x = step_expand (grammar_of d) (table_of d) (evidence_of d s.witness) (predicts d _ _ _ s) old stack new done after n p (get_or d.bodies p []) u s.reaches f e (ap Some (sym at)) (same_listed d p n) b a in
    record { stands = record { witness = s.witness; passes = s.passes; reaches = x.reaches }; begins = x.begins; less = x.less; leads = x.leads }

pub record Concluded (d : Tabulation) (old new : List Symbol) (after : List Action) : Type 0 where
  pub stands : Stands d Ended after (reverse new)
  pub vanishes : nullable_of (grammar_of d) (table_of d) (reverse new) d.ending ≡ true
  pub less : cost_of (table_of d) (reverse new) < cost_of (table_of d) (reverse old)

pub stands_conclude : (d : Tabulation) (old stack new : List Symbol) (done after : List Action) (n p : ℕ) → Stands d Ended done (reverse old) → nullable_of (grammar_of d) (table_of d) (reverse old) d.ending ≡ true → old ≡ stack ++ Nonterminal n ∷ [] → p ≡ prediction d n d.ending → reverse new ≡ get_or d.bodies p [] ++ reverse stack → after ≡ done ++ Expand p ∷ [] → Concluded d old new after
stands_conclude d old stack new done after n p s f e at b a =
    let x = step_ended (grammar_of d) (table_of d) (evidence_of d s.witness) (predicts d _ _ _ s) old stack new done after n p (get_or d.bodies p []) s.reaches f e (ap Some (sym at)) (same_listed d p n) b a in
    record { stands = record { witness = s.witness; passes = s.passes; reaches = x.reaches }; vanishes = x.vanishes; less = x.less }
