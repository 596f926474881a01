-- What the first sets and the nullable ones say of a stack, both ways.
use Rattle.std.proofs.Common.{◌≡◌, ⊎_elim, ℕ, zero, suc, ◌+◌, ◌<◌, Bool, true, false, List, [], ◌∷◌, ◌++◌, Some, refl, sym, ◌∙◌, subst, arith}
use Rattle.std.specs.Prelude.{if◌then◌else◌, ◌&&◌}
use Rattle.sh_grammar.specs.declared.Symbol.{Symbol}
use Rattle.sh_grammar.specs.declared.Symbol.TheVariants.{Terminal, Nonterminal}
use Rattle.sh_grammar.specs.declared.Token.{Token}
use Rattle.sh_grammar.specs.declared.Action.{Action}
use Rattle.sh_grammar.specs.declared.Action.TheVariants.{Expand, Shift}
use Rattle.sh_grammar.specs.Grammar.{Grammar, IsRule, next_class}
use Rattle.sh_grammar.specs.Leftmost.{tokens_of, Leftmost}
use Rattle.sh_grammar.specs.Table.{Table, nullable_of, first_of, vanishing, cost_of}
use Rattle.sh_grammar.specs.Predictive.{Evidence, samples, Fits, Ends, Predicts}
use Rattle.sh_grammar.specs.Reach.{Begins, at_end}
use Rattle.sh_grammar.proofs.Predict.{cases_or, or_first, or_second, and_parts, and_both, first_append, nullable_append}
use Rattle.sh_grammar.proofs.Reach.{samples_lead, ends_expand, fits_append}

pub record Starts (g : Grammar) (stack : List Symbol) (u : Token) : Type 0 where
  pub actions : List Action
  pub leads : Leftmost g g.ending stack actions
  pub text : Begins u (tokens_of actions)

pub record Empties (g : Grammar) (stack : List Symbol) : Type 0 where
  pub actions : List Action
  pub leads : Leftmost g g.ending stack actions
  pub text : tokens_of actions ≡ []

guard_le : (b d : Bool) (x y w : ℕ) → x < w → (b ≡ true → d ≡ true) → x + (if b then y else 0) < w + (if d then y else 0)
guard_le true true x y w h i = omega arith
guard_le true false x y w h i = absurd (let e = i refl in cc)
guard_le false true x y w h i = omega arith
guard_le false false x y w h i = omega arith

begins_class : (g : Grammar) (p : ℕ) (u : Token) (text : List Token) → Begins u text → g.allows p u.class ≡ true → g.allows p (next_class g.ending text) ≡ true
begins_class g p u [] b a = absurd b
begins_class g p u (v ∷ text) b a = subst (λ (w : Token). g.allows p w.class ≡ true) (sym b) a

module _ (g : Grammar) (t : Table) where
  pub cost_append : (body stack : List Symbol) → cost_of t (body ++ stack) ≡ cost_of t body + (if vanishing t body then cost_of t stack else 0)
  cost_append [] stack = omega arith
  cost_append (Terminal k ∷ body) stack = refl
  cost_append (Nonterminal n ∷ body) stack = go (cost_append body stack) (t.vanishes n)
    where
      go : cost_of t (body ++ stack) ≡ cost_of t body + (if vanishing t body then cost_of t stack else 0) → (b : Bool) → t.weight n + (if b then cost_of t (body ++ stack) else 0) ≡ t.weight n + (if b then cost_of t body else 0) + (if (b && vanishing t body) then cost_of t stack else 0)
      go e true = omega (arith, e)
      go e false = omega arith

  module _ (evidence : Evidence) (ok : Predicts g t evidence) where
    pub cost_falls : (p n : ℕ) (body stack : List Symbol) → IsRule g p n body → cost_of t (body ++ stack) < cost_of t (Nonterminal n ∷ stack)
    cost_falls p n body stack r =
        let e = cost_append body stack in
        let l = guard_le (vanishing t body) (t.vanishes n) (cost_of t body) (cost_of t stack) (t.weight n) (ok.weight p n body r) (ok.vanishes p n body r) in
        subst (λ x. x < cost_of t (Nonterminal n ∷ stack)) (sym e) l

    -- what to use for a class that a nonterminal on top may take
    pub record Next (n : ℕ) (stack : List Symbol) (c : ℕ) : Type 0 where
      pub rule : ℕ
      pub body : List Symbol
      pub is_rule : IsRule g rule n body
      pub allowed : g.allows rule c ≡ true
      pub predicted : t.predict n c ≡ Some rule
      pub goes_on : first_of g t (body ++ stack) c ≡ true

    pub next : (n : ℕ) (stack : List Symbol) (c : ℕ) → first_of g t (Nonterminal n ∷ stack) c ≡ true → (first_of g t stack c ≡ true → evidence.follow n c ≡ true) → Next n stack c
    next n stack c h follows =
        ⊎_elim
        (λ f.
        let k = ok.first_known n c f in
        record { rule = k.0; body = k.1; is_rule = k.2; allowed = k.4; predicted = ok.by_first k.0 n k.1 k.2 c k.3 k.4; goes_on = first_append g t k.1 stack c ∙ or_first (first_of g t k.1 c) _ k.3 })
        (λ f.
        let both = and_parts (t.nullable n c) (first_of g t stack c) f in
        let k = ok.nullable_known n c both.0 in
        record { rule = k.0; body = k.1; is_rule = k.2; allowed = k.4; predicted = ok.by_follow k.0 n k.1 k.2 c k.3 k.4 (follows both.1); goes_on = first_append g t k.1 stack c ∙ or_second (first_of g t k.1 c) _ (and_both (nullable_of g t k.1 c) _ k.3 both.1) })
        (cases_or (t.first n c) (t.nullable n c && first_of g t stack c) h)

    -- what to use at the end, where the stack may vanish
    pub record Last (n : ℕ) (stack : List Symbol) : Type 0 where
      pub rule : ℕ
      pub body : List Symbol
      pub is_rule : IsRule g rule n body
      pub allowed : g.allows rule g.ending ≡ true
      pub predicted : t.predict n g.ending ≡ Some rule
      pub goes_on : nullable_of g t (body ++ stack) g.ending ≡ true

    pub last : (n : ℕ) (stack : List Symbol) → nullable_of g t (Nonterminal n ∷ stack) g.ending ≡ true → (nullable_of g t stack g.ending ≡ true → evidence.follow n g.ending ≡ true) → Last n stack
    last n stack h follows =
        let both = and_parts (t.nullable n g.ending) (nullable_of g t stack g.ending) h in
        let k = ok.nullable_known n g.ending both.0 in
        record { rule = k.0; body = k.1; is_rule = k.2; allowed = k.4; predicted = ok.by_follow k.0 n k.1 k.2 g.ending k.3 k.4 (follows both.1); goes_on = nullable_append g t k.1 stack g.ending ∙ and_both (nullable_of g t k.1 g.ending) _ k.3 both.1 }

    starts : (m : ℕ) (stack : List Symbol) (u : Token) → cost_of t stack < m → first_of g t stack u.class ≡ true → Fits g t evidence (at_end g) stack → Ends g evidence g.ending stack → Starts g stack u
    starts zero stack u c h f l = absurd (omega arith)
    starts (suc m) [] u c h f l = absurd (cc)
    starts (suc m) (Terminal k ∷ stack) u c h f l = record { actions = Shift u ∷ samples evidence stack; leads = (h, samples_lead g t evidence ok g.ending stack l.1); text = refl }
    starts (suc m) (Nonterminal n ∷ stack) u c h f l =
        let k = next n stack u.class h (f.0 u.class) in
        let less = cost_falls k.rule n k.body stack k.is_rule in
        let s = starts m (k.body ++ stack) u (omega arith) k.goes_on (fits_append g t evidence (evidence.follow n) (at_end g) k.body stack (ok.follow k.rule n k.body k.is_rule) f.0 f.1 f.2) (ends_expand g t evidence ok g.ending k.rule n k.body stack k.is_rule l) in
        record { actions = Expand k.rule ∷ s.actions; leads = (k.body, k.is_rule, begins_class g k.rule u (tokens_of s.actions) s.text k.allowed, s.leads); text = s.text }

    -- what is in the first set begins something
    pub first_starts : (stack : List Symbol) (u : Token) → first_of g t stack u.class ≡ true → Fits g t evidence (at_end g) stack → Ends g evidence g.ending stack → Starts g stack u
    first_starts stack u h f l = starts (suc (cost_of t stack)) stack u (omega arith) h f l

    empties : (m : ℕ) (stack : List Symbol) → cost_of t stack < m → nullable_of g t stack g.ending ≡ true → Empties g stack
    empties zero stack c h = absurd (omega arith)
    empties (suc m) [] c h = record { actions = []; leads = tt; text = refl }
    empties (suc m) (Terminal k ∷ stack) c h = absurd (cc)
    empties (suc m) (Nonterminal n ∷ stack) c h =
        let both = and_parts (t.nullable n g.ending) (nullable_of g t stack g.ending) h in
        let k = ok.nullable_known n g.ending both.0 in
        let less = cost_falls k.0 n k.1 stack k.2 in
        let i = nullable_append g t k.1 stack g.ending ∙ and_both (nullable_of g t k.1 g.ending) _ k.3 both.1 in
        let s = empties m (k.1 ++ stack) (omega arith) i in
        record { actions = Expand k.0 ∷ s.actions; leads = (k.1, k.2, subst (λ x. g.allows k.0 (next_class g.ending x) ≡ true) (sym s.text) k.4, s.leads); text = s.text }

    -- what is nullable may end
    pub nullable_empties : (stack : List Symbol) → nullable_of g t stack g.ending ≡ true → Empties g stack
    nullable_empties stack h = empties (suc (cost_of t stack)) stack (omega arith) h
