-- The steps of a parser.
use Rattle.std.proofs.Common.{◌≡◌, ⊎_elim, ℕ, Bool, true, List, [], ◌∷◌, ◌++◌, Some, refl, sym, ap, ◌∙◌, subst, append_assoc, eq-eqb}
use Rattle.std.proofs.lemmas.Bool.{eqb-true}
use Rattle.sh_grammar.specs.declared.Symbol.{Symbol}
use Rattle.sh_grammar.specs.declared.Symbol.TheVariants.{Terminal, Nonterminal}
use Rattle.sh_grammar.specs.declared.Token.{Token}
use Rattle.sh_grammar.specs.declared.Action.{Action}
use Rattle.sh_grammar.specs.declared.Action.TheVariants.{Expand, Shift}
use Rattle.sh_grammar.specs.Grammar.{Grammar, IsRule, next_class}
use Rattle.sh_grammar.specs.Leftmost.{tokens_of, Leftmost}
use Rattle.sh_grammar.specs.Table.{Table, nullable_of, first_of}
use Rattle.sh_grammar.specs.Predictive.{Evidence, Fits, samples, Ends, Predicts}
use Rattle.sh_grammar.specs.Reach.{Any, Begins, Ended, at_end, Reaches}
use Rattle.sh_grammar.proofs.Trees.{shifted_append, same_body, next_append}
use Rattle.sh_grammar.proofs.Predict.{first_in, nullable_in, first_split, nullable_split}

next_append2 : (e : ℕ) (a b : List Action) → next_class (next_class e (tokens_of b)) (tokens_of a) ≡ next_class e (tokens_of (a ++ b))
next_append2 e a b = next_append e (tokens_of a) (tokens_of b) ∙ ap (next_class e) (sym (shifted_append a b))

-- derivations one after another
pub leads_both : (g : Grammar) (e : ℕ) (body stack : List Symbol) (xs ys : List Action) → Leftmost g (next_class e (tokens_of ys)) body xs → Leftmost g e stack ys → Leftmost g e (body ++ stack) (xs ++ ys)
leads_both g e [] stack [] ys l m = m
leads_both g e (Terminal k ∷ body) stack (Shift v ∷ xs) ys l m = (l.0, leads_both g e body stack xs ys l.1 m)
leads_both g e (Nonterminal n ∷ body) stack (Expand p ∷ xs) ys l m =
    (l.0, l.1, subst (λ c. g.allows p c ≡ true) (next_append2 e xs ys) l.2, subst (λ z. Leftmost g e z (xs ++ ys)) (append_assoc l.0 body stack) (leads_both g e (l.0 ++ body) stack xs ys l.3 m))
leads_both g e (s ∷ body) stack [] ys l m = absurd l
leads_both g e [] stack (a ∷ xs) ys l m = absurd l
leads_both g e (Terminal k ∷ body) stack (Expand p ∷ xs) ys l m = absurd l
leads_both g e (Nonterminal n ∷ body) stack (Shift v ∷ xs) ys l m = absurd l

pub append_cancel : (a b c : List Token) → a ++ b ≡ a ++ c → b ≡ c
append_cancel [] b c e = e
append_cancel (x ∷ a) b c e = append_cancel a b c (cc)

-- a token on top
record Shifted (g : Grammar) (stack : List Symbol) (u : Token) (more : List Token) (rest : List Action) : Type 0 where
  later : List Action
  is : rest ≡ Shift u ∷ later
  leads : Leftmost g g.ending stack later
  text : tokens_of later ≡ more

shift_first : (g : Grammar) (k : ℕ) (stack : List Symbol) (u : Token) (more : List Token) (rest : List Action) → Leftmost g g.ending (Terminal k ∷ stack) rest → tokens_of rest ≡ u ∷ more → Shifted g stack u more rest
shift_first g k stack u more [] h e = absurd h
shift_first g k stack u more (Expand p ∷ rest) h e = absurd h
shift_first g k stack u more (Shift v ∷ rest) h e = let vu : v ≡ u = cc in record { later = rest; is = ap (λ w. Shift w ∷ rest) vu; leads = h.1; text = cc }

-- a nonterminal on top
record Expanded (g : Grammar) (n : ℕ) (stack : List Symbol) (more : List Token) (rest : List Action) : Type 0 where
  rule : ℕ
  body : List Symbol
  is_rule : IsRule g rule n body
  later : List Action
  is : rest ≡ Expand rule ∷ later
  guard : g.allows rule (next_class g.ending (tokens_of later)) ≡ true
  leads : Leftmost g g.ending (body ++ stack) later
  text : tokens_of later ≡ more

expand_first : (g : Grammar) (n : ℕ) (stack : List Symbol) (more : List Token) (rest : List Action) → Leftmost g g.ending (Nonterminal n ∷ stack) rest → tokens_of rest ≡ more → Expanded g n stack more rest
expand_first g n stack more [] h e = absurd h
expand_first g n stack more (Shift v ∷ rest) h e = absurd h
expand_first g n stack more (Expand p ∷ rest) h e = record { rule = p; body = h.0; is_rule = h.1; later = rest; is = refl; guard = h.2; leads = h.3; text = e }

one_further : (actions done rest later : List Action) (a : Action) → actions ≡ done ++ rest → rest ≡ a ∷ later → actions ≡ (done ++ a ∷ []) ++ later
one_further actions done rest later a e f = e ∙ (ap (λ x. done ++ x) f ∙ sym (append_assoc done (a ∷ []) later))

other_rule : (rest later : List Action) (q p : ℕ) → rest ≡ Expand q ∷ later → q ≡ p → rest ≡ Expand p ∷ later
other_rule rest later q p e f = e ∙ ap (λ x. Expand x ∷ later) f

same_leads : (g : Grammar) (other body stack : List Symbol) (actions : List Action) → other ≡ body → Leftmost g g.ending (other ++ stack) actions → Leftmost g g.ending (body ++ stack) actions
same_leads g other body stack actions e l = subst (λ x. Leftmost g g.ending (x ++ stack) actions) e l

rule_as : (g : Grammar) (q p n : ℕ) (body : List Symbol) → q ≡ p → IsRule g q n body → IsRule g p n body
rule_as g q p n body e is = subst (λ x. IsRule g x n body) e is

-- the productions that a class allows
abbrev IsAllowed : Grammar → ℕ → (List Token → Type 0) → Type 0
IsAllowed g p ahead = (text : List Token) → ahead text → g.allows p (next_class g.ending text) ≡ true

-- another derivation of what comes begins with this production
abbrev IsOnly : Grammar → (List Token → Type 0) → ℕ → List Symbol → ℕ → Type 0
IsOnly g ahead n stack p =
    (q : ℕ) (other : List Symbol) (actions : List Action) (more : List Token) → ahead more → IsRule g q n other → g.allows q (next_class g.ending (tokens_of actions)) ≡ true → Leftmost g g.ending (other ++ stack) actions → tokens_of actions ≡ more → q ≡ p

module _ (g : Grammar) (t : Table) (evidence : Evidence) where
  pub fits_append : (between after : ℕ → Bool) (body stack : List Symbol) → Fits g t evidence between body → ((c : ℕ) → first_of g t stack c ≡ true → between c ≡ true) → ((c : ℕ) → nullable_of g t stack c ≡ true → after c ≡ true → between c ≡ true) → Fits g t evidence after stack → Fits g t evidence after (body ++ stack)
  fits_append between after [] stack h f e s = s
  fits_append between after (Terminal k ∷ body) stack h f e s = fits_append between after body stack h f e s
  fits_append between after (Nonterminal m ∷ body) stack h f e s = (
    (λ c i. ⊎_elim (h.0 c) (λ k. h.1 c k.0 (f c k.1)) (first_split g t body stack c i)),
    (λ c i a. let both = nullable_split g t body stack c i in h.1 c both.0 (e c both.1 a)),
    fits_append between after body stack h.2 f e s,
  )

  samples_append : (body stack : List Symbol) → samples evidence (body ++ stack) ≡ samples evidence body ++ samples evidence stack
  samples_append [] stack = refl
  samples_append (Terminal k ∷ body) stack = ap (λ x. Shift (evidence.token k) ∷ x) (samples_append body stack)
  samples_append (Nonterminal n ∷ body) stack = ap (λ x. evidence.sample n ++ x) (samples_append body stack) ∙ sym (append_assoc (evidence.sample n) (samples evidence body) (samples evidence stack))

  ends_append : (e : ℕ) (body stack : List Symbol) → Ends g evidence (next_class e (tokens_of (samples evidence stack))) body → Ends g evidence e stack → Ends g evidence e (body ++ stack)
  ends_append e [] stack h k = k
  ends_append e (Terminal j ∷ body) stack h k = (h.0, ends_append e body stack h.1 k)
  ends_append e (Nonterminal n ∷ body) stack h k =
      (subst (λ c. evidence.safe n c ≡ true) (next_append2 e (samples evidence body) (samples evidence stack) ∙ ap (λ x. next_class e (tokens_of x)) (sym (samples_append body stack))) h.0, ends_append e body stack h.1 k)

  module _ (ok : Predicts g t evidence) where
    -- each stack stands for its samples
    pub samples_lead : (e : ℕ) (stack : List Symbol) → Ends g evidence e stack → Leftmost g e stack (samples evidence stack)
    samples_lead e [] h = tt
    samples_lead e (Terminal k ∷ stack) h = (h.0, samples_lead e stack h.1)
    samples_lead e (Nonterminal n ∷ stack) h = leads_both g e (Nonterminal n ∷ []) stack (evidence.sample n) (samples evidence stack) (ok.sample n _ h.0) (samples_lead e stack h.1)

    pub ends_expand : (e p n : ℕ) (body stack : List Symbol) → IsRule g p n body → Ends g evidence e (Nonterminal n ∷ stack) → Ends g evidence e (body ++ stack)
    ends_expand e p n body stack r h = ends_append e body stack (ok.ends p n body r _ h.0) h.1

    -- the production that begins a derivation is the predicted one
    pub predicted : (n : ℕ) (stack : List Symbol) (p : ℕ) (body : List Symbol) (actions : List Action) (u : Token) (more : List Token) → Fits g t evidence (at_end g) (Nonterminal n ∷ stack) → IsRule g p n body → g.allows p (next_class g.ending (tokens_of actions)) ≡ true → Leftmost g g.ending (body ++ stack) actions → tokens_of actions ≡ u ∷ more → t.predict n u.class ≡ Some p
    predicted n stack p body actions u more f r guard l e =
        let a = subst (λ x. g.allows p (next_class g.ending x) ≡ true) e guard in
        ⊎_elim
        (λ h. ok.by_first p n body r u.class h a)
        (λ h. ok.by_follow p n body r u.class h.0 a (f.0 u.class h.1))
        (first_split g t body stack u.class (first_in g t evidence ok g.ending (body ++ stack) actions l u more e))

    pub predicted_end : (n : ℕ) (stack : List Symbol) (p : ℕ) (body : List Symbol) (actions : List Action) → Fits g t evidence (at_end g) (Nonterminal n ∷ stack) → IsRule g p n body → g.allows p (next_class g.ending (tokens_of actions)) ≡ true → Leftmost g g.ending (body ++ stack) actions → tokens_of actions ≡ [] → t.predict n g.ending ≡ Some p
    predicted_end n stack p body actions f r guard l e =
        let a = subst (λ x. g.allows p (next_class g.ending x) ≡ true) e guard in
        let both = nullable_split g t body stack g.ending (nullable_in g t evidence ok g.ending (body ++ stack) actions l e) in
        ok.by_follow p n body r g.ending both.0 a (f.1 g.ending both.1 (eq-eqb g.ending g.ending refl))

    -- a token is taken
    pub reach_shift : (done : List Action) (k : ℕ) (stack : List Symbol) (u : Token) → Reaches g t evidence (Begins u) done (Terminal k ∷ stack) → g.accepts k u.class ≡ true → Reaches g t evidence Any (done ++ Shift u ∷ []) stack
    reach_shift done k stack u r a =
        record {
          sound = λ actions any l. subst (λ x. Leftmost g g.ending (Nonterminal t.start ∷ []) x) (sym (append_assoc done (Shift u ∷ []) actions)) (r.sound (Shift u ∷ actions) refl (a, l));
          complete = λ actions more any l e.
              let e1 : tokens_of actions ≡ tokens_of done ++ (u ∷ more) = e ∙ (ap (λ x. x ++ more) (shifted_append done (Shift u ∷ [])) ∙ append_assoc (tokens_of done) (u ∷ []) more) in
              let s = r.complete actions (u ∷ more) refl l e1 in
              let e2 = append_cancel (tokens_of done) (tokens_of s.rest) (u ∷ more) (sym (shifted_append done s.rest) ∙ (sym (ap tokens_of s.joined) ∙ e1)) in
              let f = shift_first g k stack u more s.rest s.leads e2 in
              record { rest = f.later; joined = one_further actions done s.rest f.later (Shift u) s.joined f.is; leads = f.leads };
          fits = r.fits;
          ends = r.ends.1;
        }

    -- a production is used, where no other may be
    reach_expand : (ahead : List Token → Type 0) (done : List Action) (n : ℕ) (stack : List Symbol) (p : ℕ) (body : List Symbol) → Reaches g t evidence ahead done (Nonterminal n ∷ stack) → IsRule g p n body → IsAllowed g p ahead → IsOnly g ahead n stack p → Reaches g t evidence ahead (done ++ Expand p ∷ []) (body ++ stack)
    reach_expand ahead done n stack p body r is allowed only =
        record {
          sound = λ actions at l. subst (λ x. Leftmost g g.ending (Nonterminal t.start ∷ []) x) (sym (append_assoc done (Expand p ∷ []) actions)) (r.sound (Expand p ∷ actions) at (body, is, allowed (tokens_of actions) at, l));
          complete = λ actions more at l e.
              let e1 : tokens_of actions ≡ tokens_of done ++ more = e ∙ (ap (λ x. x ++ more) (shifted_append done (Expand p ∷ [])) ∙ append_assoc (tokens_of done) [] more) in
              let s = r.complete actions more at l e1 in
              let e2 : tokens_of s.rest ≡ more = append_cancel (tokens_of done) (tokens_of s.rest) more (sym (shifted_append done s.rest) ∙ (sym (ap tokens_of s.joined) ∙ e1)) in
              let f = expand_first g n stack more s.rest s.leads e2 in
              let q : f.rule ≡ p = only f.rule f.body f.later more at f.is_rule f.guard f.leads f.text in
              let b = same_body g p n f.body body (rule_as g f.rule p n f.body q f.is_rule) is in
              record {
                rest = f.later;
                joined = one_further actions done s.rest f.later (Expand p) s.joined (other_rule s.rest f.later f.rule p f.is q);
                leads = same_leads g f.body body stack f.later b f.leads;
              };
          fits = fits_append (evidence.follow n) (at_end g) body stack (ok.follow p n body is) r.fits.0 r.fits.1 r.fits.2;
          ends = ends_expand g.ending p n body stack is r.ends;
        }

    same_some : (a b : ℕ) → Some a ≡ Some b → a ≡ b
    same_some a b e = cc

    only_begins : (n : ℕ) (stack : List Symbol) (u : Token) (p : ℕ) → Fits g t evidence (at_end g) (Nonterminal n ∷ stack) → t.predict n u.class ≡ Some p → IsOnly g (Begins u) n stack p
    only_begins n stack u p f at q other actions [] b is guard l e = absurd b
    only_begins n stack u p f at q other actions (v ∷ more) b is guard l e =
        let e1 : tokens_of actions ≡ u ∷ more = e ∙ ap (λ w. w ∷ more) b in
        same_some q p (sym (predicted n stack q other actions u more f is guard l e1) ∙ at)

    only_ended : (n : ℕ) (stack : List Symbol) (p : ℕ) → Fits g t evidence (at_end g) (Nonterminal n ∷ stack) → t.predict n g.ending ≡ Some p → IsOnly g Ended n stack p
    only_ended n stack p f at q other actions [] b is guard l e = same_some q p (sym (predicted_end n stack q other actions f is guard l e) ∙ at)
    only_ended n stack p f at q other actions (v ∷ more) b is guard l e = absurd b

    allowed_begins : (p : ℕ) (u : Token) → g.allows p u.class ≡ true → IsAllowed g p (Begins u)
    allowed_begins p u a [] b = absurd b
    allowed_begins p u a (v ∷ more) b = subst (λ (w : Token). g.allows p w.class ≡ true) (sym b) a

    allowed_ended : (p : ℕ) → g.allows p g.ending ≡ true → IsAllowed g p Ended
    allowed_ended p a [] b = a
    allowed_ended p a (v ∷ more) b = absurd b

    -- before the token u
    pub reach_before : (done : List Action) (n : ℕ) (stack : List Symbol) (p : ℕ) (body : List Symbol) (u : Token) → Reaches g t evidence (Begins u) done (Nonterminal n ∷ stack) → IsRule g p n body → t.predict n u.class ≡ Some p → g.allows p u.class ≡ true → Reaches g t evidence (Begins u) (done ++ Expand p ∷ []) (body ++ stack)
    reach_before done n stack p body u r is at a = reach_expand (Begins u) done n stack p body r is (allowed_begins p u a) (only_begins n stack u p r.fits at)

    -- at the end
    pub reach_ended : (done : List Action) (n : ℕ) (stack : List Symbol) (p : ℕ) (body : List Symbol) → Reaches g t evidence Ended done (Nonterminal n ∷ stack) → IsRule g p n body → t.predict n g.ending ≡ Some p → g.allows p g.ending ≡ true → Reaches g t evidence Ended (done ++ Expand p ∷ []) (body ++ stack)
    reach_ended done n stack p body r is at a = reach_expand Ended done n stack p body r is (allowed_ended p a) (only_ended n stack p r.fits at)

    pub reach_ahead : (ahead : List Token → Type 0) (done : List Action) (stack : List Symbol) → Reaches g t evidence Any done stack → Reaches g t evidence ahead done stack
    reach_ahead ahead done stack r = record { sound = λ actions at. r.sound actions tt; complete = λ actions more at. r.complete actions more tt; fits = r.fits; ends = r.ends }

    pub reach_start : Reaches g t evidence Any [] (Nonterminal t.start ∷ [])
    reach_start =
        record {
          sound = λ actions any l. l;
          complete = λ actions more at l e. record { rest = actions; joined = refl; leads = l };
          fits = ((λ c h. absurd (cc)), (λ c h e. subst (λ d. evidence.follow t.start d ≡ true) (sym (eqb-true c g.ending e)) ok.start), tt);
          ends = (ok.start_ends, tt);
        }
