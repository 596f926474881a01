-- A token opens one compound command at most.
use Rattle.std.proofs.Common.{◌≡◌, ℕ, zero, suc, ◌+◌, ◌≤◌, cond, nat_eq, nat_le, Bool, true, false, ◌||◌, ◌&&◌, List, [], ◌∷◌, ◌++◌, Option, Some, None, refl, sym, ap, subst, arith, eqb-true}
use Rattle.std.specs.List.{count_by}
use Rattle.std.specs.Prelude.{slice_get}
use Rattle.std.proofs.lemmas.Bool.{leb-true}
use Rattle.std.proofs.lemmas.List.Sums.{sum_by-append, sum_by-cons}
use Rattle.sh_grammar.specs.declared.Symbol.{Symbol}
use Rattle.sh_grammar.specs.declared.Symbol.TheVariants.{Terminal, Nonterminal}
use Rattle.sh_grammar.specs.declared.Token.{Token}
use Rattle.sh_grammar.specs.Awaited.{awaited_count, is_nonterminal, times_in}
use Rattle.sh_grammar.specs.Computed.{body_in, is_prefix, lead, rule_body, stack_after, next_stack}
use Rattle.sh_grammar.specs.Grammar.{Grammar, Rule}
use Rattle.sh_grammar.specs.Table.{Table, cost_of, first_of, table_of}
use Rattle.sh_grammar.specs.Tabulation.{Tabulation, grammar_of}
use Rattle.sh_grammar.proofs.Kept.{stack_append}
use Rattle.sh_token_grammar.specs.declared.class.TokenClass.{TokenClass}
use Rattle.sh_token_grammar.specs.Shell.{compound_end, number_of, substitution}
use Rattle.sh_token_pieces.specs.declared.context.Context.{Context}
use Rattle.sh_token_pieces.specs.declared.context.Context.TheVariants.{Top, Commands, Word, Quotes, Braces, Arithmetic, Parenthesis, Body}
use Rattle.sh_token_pieces.specs.Pieces.{levels, with_token}
use Rattle.sh_token_pieces.specs.Nested.{open_in}
use Rattle.sh_token_pieces.specs.Taken.{followed_by, token_of}
use Rattle.sh_token_pieces.specs.TokenClasses.{Told, class_of}
use Rattle.sh_token_scanner.proofs.Tests.{and_true}

abbrev times : ℕ → List Symbol → ℕ
times m symbols = count_by (is_nonterminal m) symbols

times_append : (m : ℕ) (a b : List Symbol) → times m (a ++ b) ≡ times m a + times m b
times_append m a b = sum_by-append (λ x. cond (is_nonterminal m x) 1 0) a b

times_cons : (m : ℕ) (s : Symbol) (symbols : List Symbol) → times m (s ∷ symbols) ≡ cond (is_nonterminal m s) 1 0 + times m symbols
times_cons m s symbols = sum_by-cons (λ x. cond (is_nonterminal m x) 1 0) s symbols

-- a production holds the nonterminal once at most, and then begins with a terminal
abbrev begins_terminal : List Symbol → Bool
begins_terminal [] = false
begins_terminal (Terminal k ∷ symbols) = true
begins_terminal (Nonterminal n ∷ symbols) = false

abbrev holds_once : ℕ → Rule → Bool
holds_once m r = nat_eq (times m r.body) 0 || (begins_terminal r.body && nat_le (times m r.body) 1)

abbrev all_once : ℕ → List Rule → Bool
all_once m [] = true
all_once m (r ∷ rules) = holds_once m r && all_once m rules

data Once (m : ℕ) (body : List Symbol) : Type 0 where
  none : times m body ≡ 0 → Once m body
  one : begins_terminal body ≡ true → times m body ≤ 1 → Once m body

once : (m : ℕ) (r : Rule) → holds_once m r ≡ true → Once m r.body
once m r h = go (nat_eq (times m r.body) 0) refl h
  where
    go : (c : Bool) → nat_eq (times m r.body) 0 ≡ c → (c || (begins_terminal r.body && nat_le (times m r.body) 1)) ≡ true → Once m r.body
    go true e g = none (eqb-true (times m r.body) 0 e)
    go false e g = let p = and_true (begins_terminal r.body) (nat_le (times m r.body) 1) g in one p.0 (leb-true (times m r.body) 1 p.1)

at_rule : (m : ℕ) (rules : List Rule) (p : ℕ) → all_once m rules ≡ true → Once m (body_in (slice_get rules p))
at_rule m [] p h = none refl
at_rule m (r ∷ rules) zero h = once m r (and_true (holds_once m r) (all_once m rules) h).0
at_rule m (r ∷ rules) (suc p) h = at_rule m rules p (and_true (holds_once m r) (all_once m rules) h).1

same_stack : (a b : List Symbol) → Some a ≡ Some b → a ≡ b
same_stack a b h = cc

module _ (g : Grammar) (t : Table) (m c : ℕ) (new : List Symbol) where
  -- a terminal that is on top goes
  terminal_goes : (k : ℕ) (stack : List Symbol) → Some stack ≡ Some new → times m new ≤ times m (Terminal k ∷ stack)
  terminal_goes k stack e =
      let s : times m stack ≡ times m new = ap (times m) (same_stack stack new e) in
      let h : times m (Terminal k ∷ stack) ≡ 0 + times m stack = times_cons m (Terminal k) stack in
      omega (arith, s, h)

  terminal_leads : (f : ℕ) (body stack : List Symbol) → begins_terminal body ≡ true → lead g t f (body ++ stack) c ≡ Some new → times m new ≤ times m (body ++ stack)
  terminal_leads f [] stack b e = absurd (cc)
  terminal_leads f (Nonterminal n ∷ body) stack b e = absurd (cc)
  terminal_leads zero (Terminal k ∷ body) stack b e = absurd (cc)
  terminal_leads (suc f) (Terminal k ∷ body) stack b e = terminal_goes k (body ++ stack) e

  abbrev Grows : List Symbol → Type 0
  Grows stack = times m new ≤ suc (times m stack)

  body_leads : (f n : ℕ) (body stack : List Symbol) → Once m body → ((s : List Symbol) → lead g t f s c ≡ Some new → Grows s) → lead g t f (body ++ stack) c ≡ Some new → Grows (Nonterminal n ∷ stack)
  body_leads f n body stack o ih e = go o
    where
      top : times m (Nonterminal n ∷ stack) ≡ cond (nat_eq n m) 1 0 + times m stack
      top = times_cons m (Nonterminal n) stack

      both : times m (body ++ stack) ≡ times m body + times m stack
      both = times_append m body stack

      go : Once m body → Grows (Nonterminal n ∷ stack)
      go (none z) = let h = ih (body ++ stack) e in omega (arith, h, z, top, both)
      go (one b l) = let h = terminal_leads f body stack b e in omega (arith, h, l, top, both)

  lead_grows : all_once m g.rules ≡ true → (f : ℕ) (stack : List Symbol) → lead g t f stack c ≡ Some new → Grows stack
  lead_grows a zero stack e = absurd (cc)
  lead_grows a (suc f) [] e = absurd (cc)
  lead_grows a (suc f) (Terminal k ∷ stack) e = let h = terminal_goes k stack e in omega (arith, h)
  lead_grows a (suc f) (Nonterminal n ∷ stack) e = go (t.predict n c) e (λ s h. lead_grows a f s h)
    where
      go : (o : Option ℕ) → lead g t f (rule_body g o ++ stack) c ≡ Some new → ((s : List Symbol) → lead g t f s c ≡ Some new → Grows s) → Grows (Nonterminal n ∷ stack)
      go None h ih = body_leads f n [] stack (none refl) ih h
      go (Some p) h ih = body_leads f n (body_in (slice_get g.rules p)) stack (at_rule m g.rules p a) ih h

  taken_grows : all_once m g.rules ≡ true → (stack : List Symbol) → next_stack g t stack c ≡ Some new → Grows stack
  taken_grows a stack e = go (first_of g t stack c) e
    where
      go : (b : Bool) → cond b (lead g t (suc (cost_of t stack)) stack c) None ≡ Some new → Grows stack
      go true h = lead_grows a (suc (cost_of t stack)) stack h
      go false h = absurd (cc)

awaited_grows : (d : Tabulation) (m : ℕ) → all_once m (grammar_of d).rules ≡ true → (tokens : List Token) (u : Token) → awaited_count d m (tokens ++ u ∷ []) ≤ suc (awaited_count d m tokens)
awaited_grows d m a tokens u =
    subst (λ y. times_in m y ≤ suc (awaited_count d m tokens)) (sym (stack_append g t (Some (Nonterminal d.start ∷ [])) tokens (u ∷ [])))
    (go (stack_after g t (Some (Nonterminal d.start ∷ [])) tokens))
  where
    g : Grammar
    g = grammar_of d

    t : Table
    t = table_of d

    next : (stack : List Symbol) (y : Option (List Symbol)) → next_stack g t stack u.class ≡ y → times_in m (stack_after g t y []) ≤ suc (times m stack)
    next stack None e = omega arith
    next stack (Some new) e = taken_grows g t m u.class new a stack e

    go : (o : Option (List Symbol)) → times_in m (stack_after g t o (u ∷ [])) ≤ suc (times_in m o)
    go None = omega arith
    go (Some stack) = next stack (next_stack g t stack u.class) refl

substitution_once : all_once (number_of compound_end) (grammar_of substitution).rules ≡ true
unfolding substitution
substitution_once = refl

open_grows : (c : TokenClass) (tokens : List Token) → open_in (followed_by c tokens) ≤ suc (open_in tokens)
unfolding open_in
open_grows c tokens = go (is_prefix substitution tokens)
  where
    go : (b : Bool) → awaited_count substitution (number_of compound_end) (cond b (tokens ++ token_of c ∷ []) tokens) ≤ suc (awaited_count substitution (number_of compound_end) tokens)
    go true = awaited_grows substitution (number_of compound_end) substitution_once tokens (token_of c)
    go false = omega arith

pub levels_grow : (c : Told) (xs : List Context) → levels (with_token c xs) ≤ suc (levels xs)
levels_grow c [] = omega arith
levels_grow c (Top ∷ xs) = omega arith
levels_grow c (Commands ts ∷ xs) = let g = open_grows (class_of c) ts.tokens in omega (arith, g)
levels_grow c (Word n ∷ xs) = omega arith
levels_grow c (Quotes ∷ xs) = omega arith
levels_grow c (Braces q ∷ xs) = omega arith
levels_grow c (Arithmetic ∷ xs) = omega arith
levels_grow c (Parenthesis ∷ xs) = omega arith
levels_grow c (Body ∷ xs) = omega arith
