-- The computed answers are those of derivations.
use Rattle.std.proofs.Common.{◌≡◌, ◌⊎◌, inl, inr, ℕ, zero, suc, ◌<◌, ◌≤◌, Bool, true, false, List, [], ◌∷◌, ◌++◌, Option, Some, None, refl, sym, ap, ◌∙◌, subst, append_assoc, length, take, arith}
use Rattle.std.proofs.lemmas.List.{append-nil}
use Rattle.sh_grammar.specs.declared.Symbol.{Symbol}
use Rattle.sh_grammar.specs.declared.Symbol.TheVariants.{Terminal, Nonterminal}
use Rattle.sh_grammar.specs.declared.Token.{Token}
use Rattle.sh_grammar.specs.declared.Action.{Action}
use Rattle.sh_grammar.specs.declared.Action.TheVariants.{Expand, Shift}
use Rattle.sh_grammar.specs.Grammar.{Grammar, Tree, Derives, IsPrefix}
use Rattle.sh_grammar.specs.Leftmost.{tokens_of}
use Rattle.sh_grammar.specs.Tabulation.{Tabulation, grammar_of}
use Rattle.sh_grammar.specs.Table.{Table, first_of, cost_of, table_of}
use Rattle.sh_grammar.specs.Predictive.{Evidence, Predicts}
use Rattle.sh_grammar.specs.Passes.{evidence_of, IsPredictive}
use Rattle.sh_grammar.specs.Reach.{Reaches, Begins, Any}
use Rattle.sh_grammar.specs.Text.{IsTreeOf, IsText, BeginsText}
use Rattle.sh_grammar.specs.Computed.{body_in, rule_body, lead, next_stack, stack_after, may_stop, continues, is_whole, is_prefix, count_if_taken, taken_from, prefix_length}
use Rattle.sh_grammar.proofs.Trees.{shifted_append}
use Rattle.sh_grammar.proofs.Reach.{reach_start, reach_shift, reach_before, reach_ahead}
use Rattle.sh_grammar.proofs.Prefix.{next, cost_falls}
use Rattle.sh_grammar.proofs.SoFar.{so_far, only_first, may_end, only_nullable, unique}
use Rattle.sh_grammar.proofs.Check.{passes_predicts}

module _ (g : Grammar) (t : Table) (evidence : Evidence) (ok : Predicts g t evidence) where
  record Led (f : ℕ) (stack : List Symbol) (done : List Action) (u : Token) : Type 0 where
    new : List Symbol
    after : List Action
    is : lead g t f stack u.class ≡ Some new
    reaches : Reaches g t evidence Any after new
    text : tokens_of after ≡ tokens_of done ++ u ∷ []

  led : (f : ℕ) (stack : List Symbol) (done : List Action) (u : Token) → cost_of t stack < f → Reaches g t evidence (Begins u) done stack → first_of g t stack u.class ≡ true → Led f stack done u
  led zero stack done u l r h = absurd (omega arith)
  led (suc f) [] done u l r h = absurd (cc)
  led (suc f) (Terminal k ∷ stack) done u l r h = record { new = stack; after = done ++ Shift u ∷ []; is = refl; reaches = reach_shift g t evidence ok done k stack u r h; text = shifted_append done (Shift u ∷ []) }
  led (suc f) (Nonterminal n ∷ stack) done u l r h =
      let k = next g t evidence ok n stack u.class h (r.fits.0 u.class) in
      let b : rule_body g (t.predict n u.class) ≡ k.body = ap (rule_body g) k.predicted ∙ ap body_in k.is_rule.there in
      let falls : cost_of t (k.body ++ stack) < cost_of t (Nonterminal n ∷ stack) = cost_falls g t evidence ok k.rule n k.body stack k.is_rule in
      let less : cost_of t (k.body ++ stack) < f = omega arith in
      let x = led f (k.body ++ stack) (done ++ Expand k.rule ∷ []) u less (reach_before g t evidence ok done n stack k.rule k.body u r k.is_rule k.predicted k.allowed) k.goes_on in
      record {
        new = x.new;
        after = x.after;
        is = ap (λ y. lead g t f (y ++ stack) u.class) b ∙ x.is;
        reaches = x.reaches;
        text = x.text ∙ ap (λ y. y ++ u ∷ []) (shifted_append done (Expand k.rule ∷ []) ∙ append-nil (tokens_of done));
      }

  abbrev pub Derivable : List Token → Type 0
  Derivable tokens = (tree : Tree) × Derives g (Nonterminal t.start) tokens tree

  refused : (tokens : List Token) → may_stop g t (stack_after g t None tokens) ≡ true → ⊥
  refused tokens h = cc

  case_first : (b : Bool) → (b ≡ true) ⊎ (b ≡ false)
  case_first true = inl refl
  case_first false = inr refl

  taken_led : (stack : List Symbol) (done : List Action) (u : Token) → first_of g t stack u.class ≡ true → (x : Led (suc (cost_of t stack)) stack done u) → next_stack g t stack u.class ≡ Some x.new
  taken_led stack done u h x = rw h x.is

  taken_not : (stack : List Symbol) (u : Token) → first_of g t stack u.class ≡ false → next_stack g t stack u.class ≡ None
  taken_not stack u h = rw h refl

  decided : (tokens : List Token) (done : List Action) (stack : List Symbol) → Reaches g t evidence Any done stack → (may_stop g t (stack_after g t (Some stack) tokens) ≡ true → Derivable (tokens_of done ++ tokens)) × (Derivable (tokens_of done ++ tokens) → may_stop g t (stack_after g t (Some stack) tokens) ≡ true)
  decided [] done stack r = (
    (λ h. subst Derivable (sym (append-nil (tokens_of done))) (may_end g t evidence ok done stack r h)),
    (λ d. only_nullable g t evidence ok done stack r d.0 (subst (λ x. Derives g (Nonterminal t.start) x d.0) (append-nil (tokens_of done)) d.1)),
  )
  decided (u ∷ tokens) done stack r = elim (case_first (first_of g t stack u.class)) [ inl h ↦ yes' (λ a s r. decided tokens a s r) h | inr h ↦ no' h ]
    where
      yes' : ((after : List Action) (new : List Symbol) → Reaches g t evidence Any after new → (may_stop g t (stack_after g t (Some new) tokens) ≡ true → Derivable (tokens_of after ++ tokens)) × (Derivable (tokens_of after ++ tokens) → may_stop g t (stack_after g t (Some new) tokens) ≡ true)) → first_of g t stack u.class ≡ true → (may_stop g t (stack_after g t (Some stack) (u ∷ tokens)) ≡ true → Derivable (tokens_of done ++ u ∷ tokens)) × (Derivable (tokens_of done ++ u ∷ tokens) → may_stop g t (stack_after g t (Some stack) (u ∷ tokens)) ≡ true)
      yes' more h =
          let l : cost_of t stack < suc (cost_of t stack) = omega arith in
          let x = led (suc (cost_of t stack)) stack done u l (reach_ahead g t evidence ok (Begins u) done stack r) h in
          let e = taken_led stack done u h x in
          let d = more x.after x.new x.reaches in
          let same : tokens_of x.after ++ tokens ≡ tokens_of done ++ u ∷ tokens = ap (λ y. y ++ tokens) x.text ∙ append_assoc (tokens_of done) (u ∷ []) tokens in
          let m : may_stop g t (stack_after g t (Some stack) (u ∷ tokens)) ≡ may_stop g t (stack_after g t (Some x.new) tokens) = ap (λ y. may_stop g t (stack_after g t y tokens)) e in
          ((λ h. subst Derivable same (d.0 (sym m ∙ h))), (λ y. m ∙ d.1 (subst Derivable (sym same) y)))

      no' : first_of g t stack u.class ≡ false → (may_stop g t (stack_after g t (Some stack) (u ∷ tokens)) ≡ true → Derivable (tokens_of done ++ u ∷ tokens)) × (Derivable (tokens_of done ++ u ∷ tokens) → may_stop g t (stack_after g t (Some stack) (u ∷ tokens)) ≡ true)
      no' h =
          let m : may_stop g t (stack_after g t (Some stack) (u ∷ tokens)) ≡ may_stop g t (stack_after g t None tokens) = ap (λ y. may_stop g t (stack_after g t y tokens)) (taken_not stack u h) in (
            (λ e. absurd (refused tokens (sym m ∙ e))),
            (λ d. let f : first_of g t stack u.class ≡ true = only_first g t evidence ok done stack r u (tokens, d.0, subst (λ x. Derives g (Nonterminal t.start) x d.0) (sym (append_assoc (tokens_of done) (u ∷ []) tokens)) d.1) in let z : false ≡ true = sym h ∙ f in absurd (cc)),
          )

  abbrev Prefix : List Token → Type 0
  Prefix tokens = IsPrefix g (Nonterminal t.start) tokens

  -- a shorter prefix
  shorter : (done : List Token) (u : Token) (tokens : List Token) → Prefix (done ++ u ∷ tokens) → Prefix (done ++ u ∷ [])
  shorter done u tokens f =
      let same : (done ++ u ∷ tokens) ++ f.0 ≡ (done ++ u ∷ []) ++ (tokens ++ f.0) = append_assoc done (u ∷ tokens) f.0 ∙ sym (append_assoc done (u ∷ []) (tokens ++ f.0)) in
      (tokens ++ f.0, f.1, subst (λ x. Derives g (Nonterminal t.start) x f.1) same f.2)

  stopped : (tokens : List Token) → continues (stack_after g t None tokens) ≡ true → ⊥
  stopped tokens h = cc

  prefixes : (tokens : List Token) (done : List Action) (stack : List Symbol) → Reaches g t evidence Any done stack → (continues (stack_after g t (Some stack) tokens) ≡ true → Prefix (tokens_of done ++ tokens)) × (Prefix (tokens_of done ++ tokens) → continues (stack_after g t (Some stack) tokens) ≡ true)
  prefixes [] done stack r = ((λ h. subst Prefix (sym (append-nil (tokens_of done))) (so_far g t evidence ok done stack r)), (λ d. refl))
  prefixes (u ∷ tokens) done stack r = elim (case_first (first_of g t stack u.class)) [ inl h ↦ yes' (λ a s r. prefixes tokens a s r) h | inr h ↦ no' h ]
    where
      yes' : ((after : List Action) (new : List Symbol) → Reaches g t evidence Any after new → (continues (stack_after g t (Some new) tokens) ≡ true → Prefix (tokens_of after ++ tokens)) × (Prefix (tokens_of after ++ tokens) → continues (stack_after g t (Some new) tokens) ≡ true)) → first_of g t stack u.class ≡ true → (continues (stack_after g t (Some stack) (u ∷ tokens)) ≡ true → Prefix (tokens_of done ++ u ∷ tokens)) × (Prefix (tokens_of done ++ u ∷ tokens) → continues (stack_after g t (Some stack) (u ∷ tokens)) ≡ true)
      yes' more h =
          let l : cost_of t stack < suc (cost_of t stack) = omega arith in
          let x = led (suc (cost_of t stack)) stack done u l (reach_ahead g t evidence ok (Begins u) done stack r) h in
          let e = taken_led stack done u h x in
          let d = more x.after x.new x.reaches in
          let same : tokens_of x.after ++ tokens ≡ tokens_of done ++ u ∷ tokens = ap (λ y. y ++ tokens) x.text ∙ append_assoc (tokens_of done) (u ∷ []) tokens in
          let m : continues (stack_after g t (Some stack) (u ∷ tokens)) ≡ continues (stack_after g t (Some x.new) tokens) = ap (λ y. continues (stack_after g t y tokens)) e in
          ((λ h. subst Prefix same (d.0 (sym m ∙ h))), (λ y. m ∙ d.1 (subst Prefix (sym same) y)))

      no' : first_of g t stack u.class ≡ false → (continues (stack_after g t (Some stack) (u ∷ tokens)) ≡ true → Prefix (tokens_of done ++ u ∷ tokens)) × (Prefix (tokens_of done ++ u ∷ tokens) → continues (stack_after g t (Some stack) (u ∷ tokens)) ≡ true)
      no' h =
          let m : continues (stack_after g t (Some stack) (u ∷ tokens)) ≡ continues (stack_after g t None tokens) = ap (λ y. continues (stack_after g t y tokens)) (taken_not stack u h) in (
            (λ e. absurd (stopped tokens (sym m ∙ e))),
            (λ d. let f : first_of g t stack u.class ≡ true = only_first g t evidence ok done stack r u (shorter (tokens_of done) u tokens d) in let z : false ≡ true = sym h ∙ f in absurd (cc)),
          )

  whole_both : (tokens : List Token) → (may_stop g t (stack_after g t (Some (Nonterminal t.start ∷ [])) tokens) ≡ true → Derivable tokens) × (Derivable tokens → may_stop g t (stack_after g t (Some (Nonterminal t.start ∷ [])) tokens) ≡ true)
  whole_both tokens = decided tokens [] (Nonterminal t.start ∷ []) (reach_start g t evidence ok)

  prefix_both : (tokens : List Token) → (continues (stack_after g t (Some (Nonterminal t.start ∷ [])) tokens) ≡ true → Prefix tokens) × (Prefix tokens → continues (stack_after g t (Some (Nonterminal t.start ∷ [])) tokens) ≡ true)
  prefix_both tokens = prefixes tokens [] (Nonterminal t.start ∷ []) (reach_start g t evidence ok)

-- how far the tokens are taken
module _ (g : Grammar) (t : Table) where
  abbrev Both : List Symbol → List Token → ℕ → Type 0
  Both s tokens k = (k ≤ taken_from g t (Some s) tokens → continues (stack_after g t (Some s) (take k tokens)) ≡ true) × (continues (stack_after g t (Some s) (take k tokens)) ≡ true → k ≤ taken_from g t (Some s) tokens)

  next_both : (o : Option (List Symbol)) (tokens : List Token) (k : ℕ) → ((s : List Symbol) → Both s tokens k) → (suc k ≤ count_if_taken o (taken_from g t o tokens) → continues (stack_after g t o (take k tokens)) ≡ true) × (continues (stack_after g t o (take k tokens)) ≡ true → suc k ≤ count_if_taken o (taken_from g t o tokens))
  next_both None tokens k more = ((λ h. absurd (omega (arith, h))), (λ h. absurd (cc)))
  next_both (Some s) tokens k more = ((λ h. (more s).0 (omega (arith, h))), (λ h. let r = (more s).1 h in omega (arith, r)))

  length_both : (s : List Symbol) (tokens : List Token) (k : ℕ) → k ≤ length tokens → Both s tokens k
  length_both s [] zero l = ((λ h. refl), (λ h. omega arith))
  length_both s (u ∷ tokens) zero l = ((λ h. refl), (λ h. omega arith))
  length_both s [] (suc k) l = absurd (omega (arith, l))
  length_both s (u ∷ tokens) (suc k) l = next_both (next_stack g t s u.class) tokens k (λ x. length_both x tokens k (omega (arith, l)))

-- of a grammar that passes its test

pub tree_once_only : (d : Tabulation) → IsPredictive d → (tokens : List Token) (x y : Tree) → IsTreeOf d tokens x → IsTreeOf d tokens y → x ≡ y
tree_once_only d p = unique (grammar_of d) (table_of d) (evidence_of d p.0) (passes_predicts d p.0 p.1)

pub whole_text : (d : Tabulation) → IsPredictive d → (tokens : List Token) → (is_whole d tokens ≡ true → IsText d tokens) × (IsText d tokens → is_whole d tokens ≡ true)
whole_text d p tokens = whole_both (grammar_of d) (table_of d) (evidence_of d p.0) (passes_predicts d p.0 p.1) tokens

pub prefix_text : (d : Tabulation) → IsPredictive d → (tokens : List Token) → (is_prefix d tokens ≡ true → BeginsText d tokens) × (BeginsText d tokens → is_prefix d tokens ≡ true)
prefix_text d p tokens = prefix_both (grammar_of d) (table_of d) (evidence_of d p.0) (passes_predicts d p.0 p.1) tokens

pub length_text : (d : Tabulation) → IsPredictive d → (tokens : List Token) (k : ℕ) → k ≤ length tokens → (k ≤ prefix_length d tokens → BeginsText d (take k tokens)) × (BeginsText d (take k tokens) → k ≤ prefix_length d tokens)
length_text d p tokens k l =
    let f = prefix_text d p (take k tokens) in
    let b = length_both (grammar_of d) (table_of d) (Nonterminal d.start ∷ []) tokens k l in
    ((λ h. f.0 (b.0 h)), (λ h. b.1 (f.1 h)))
