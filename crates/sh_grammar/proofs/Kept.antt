-- The stack of a recognizer is the computed one.
use Rattle.std.proofs.Common.{◌≡◌, ℕ, zero, suc, ◌+◌, ◌<◌, cond, true, List, [], ◌∷◌, ◌++◌, Option, Some, None, reverse, refl, sym, ap, ◌∙◌, subst, arith}
use Rattle.std.specs.List.{count_by, sum_by}
use Rattle.std.proofs.lemmas.List.{reverse-append}
use Rattle.std.proofs.lemmas.List.Sums.{sum_by_push, sum_by-cons}
use Rattle.sh_grammar.specs.declared.Symbol.{Symbol}
use Rattle.sh_grammar.specs.declared.Symbol.TheVariants.{Terminal, Nonterminal}
use Rattle.sh_grammar.specs.declared.Token.{Token}
use Rattle.sh_grammar.specs.declared.Action.{Action}
use Rattle.sh_grammar.specs.Awaited.{awaited_count, is_nonterminal, times_in}
use Rattle.sh_grammar.specs.Computed.{lead, next_stack, stack_after}
use Rattle.sh_grammar.specs.Grammar.{Grammar}
use Rattle.sh_grammar.specs.Leftmost.{tokens_of}
use Rattle.sh_grammar.specs.Passes.{IsPredictive}
use Rattle.sh_grammar.specs.Reach.{Any, Keeps, Stands}
use Rattle.sh_grammar.specs.Recognized.{Recognized}
use Rattle.sh_grammar.specs.Table.{Table, first_of, cost_of, table_of}
use Rattle.sh_grammar.specs.Tabulation.{Tabulation, grammar_of}
use Rattle.sh_grammar.proofs.Stack.{reverse_last}
use Rattle.sh_grammar.proofs.Standing.{stands_start}

-- so many productions are enough to come from the stack to the aim
pub record Leads (d : Tabulation) (aim : Option (List Symbol)) (c : ℕ) (stack : List Symbol) : Type 0 where
  pub bound : ℕ
  pub enough : cost_of (table_of d) stack < bound
  pub is : lead (grammar_of d) (table_of d) bound stack c ≡ aim

pub taken_is : (g : Grammar) (t : Table) (stack : List Symbol) (c : ℕ) → first_of g t stack c ≡ true → lead g t (suc (cost_of t stack)) stack c ≡ next_stack g t stack c
taken_is g t stack c h = rw h refl

pub leads_start : (d : Tabulation) (stack : List Symbol) (c : ℕ) → first_of (grammar_of d) (table_of d) stack c ≡ true → Leads d (next_stack (grammar_of d) (table_of d) stack c) c stack
leads_start d stack c h = record { bound = suc (cost_of (table_of d) stack); enough = omega arith; is = taken_is (grammar_of d) (table_of d) stack c h }

pub leads_on : (d : Tabulation) (aim : Option (List Symbol)) (c : ℕ) (old new : List Symbol) → Leads d aim c old → cost_of (table_of d) new < cost_of (table_of d) old → ((f : ℕ) → lead (grammar_of d) (table_of d) (suc f) old c ≡ lead (grammar_of d) (table_of d) f new c) → Leads d aim c new
leads_on d aim c old new s less same = go s.bound s.enough s.is
  where
    go : (f : ℕ) → cost_of (table_of d) old < f → lead (grammar_of d) (table_of d) f old c ≡ aim → Leads d aim c new
    go zero l e = absurd (omega (arith, l))
    go (suc f) l e = record { bound = f; enough = omega (arith, l, less); is = sym (same f) ∙ e }

pub leads_shift : (d : Tabulation) (aim : Option (List Symbol)) (c k : ℕ) (old stack : List Symbol) → Leads d aim c (reverse old) → old ≡ stack ++ Terminal k ∷ [] → aim ≡ Some (reverse stack)
leads_shift d aim c k old stack s e = go s.bound s.enough (subst (λ x. lead (grammar_of d) (table_of d) s.bound x c ≡ aim) (reverse_last old stack (Terminal k) e) s.is)
  where
    go : (f : ℕ) → cost_of (table_of d) (reverse old) < f → lead (grammar_of d) (table_of d) f (Terminal k ∷ reverse stack) c ≡ aim → aim ≡ Some (reverse stack)
    go zero l e = absurd (omega (arith, l))
    go (suc f) l e = sym e

-- tokens one after another
pub stack_append : (g : Grammar) (t : Table) (o : Option (List Symbol)) (first more : List Token) → stack_after g t o (first ++ more) ≡ stack_after g t (stack_after g t o first) more
stack_append g t None [] more = refl
stack_append g t None (u ∷ first) [] = refl
stack_append g t None (u ∷ first) (v ∷ more) = refl
stack_append g t (Some s) [] more = refl
stack_append g t (Some s) (u ∷ first) more = stack_append g t (next_stack g t s u.class) first more

pub keeps_start : (d : Tabulation) (done : List Action) (symbols : List Symbol) → IsPredictive d → done ≡ [] → symbols ≡ Nonterminal d.start ∷ [] → Keeps d done (reverse symbols)
keeps_start d done symbols p e q =
    record {
      stands = stands_start d done symbols p e q;
      computed =
          ap (λ x. stack_after (grammar_of d) (table_of d) (Some (Nonterminal d.start ∷ [])) (tokens_of x)) e
          ∙ ap (λ x. Some (reverse x)) (sym q);
    }

pub keeps_taken : (d : Tabulation) (done after : List Action) (old new : List Symbol) (u : Token) → Keeps d done old → Stands d Any after new → tokens_of after ≡ tokens_of done ++ u ∷ [] → next_stack (grammar_of d) (table_of d) old u.class ≡ Some new → Keeps d after new
keeps_taken d done after old new u k s e i =
    let g = grammar_of d in
    let t = table_of d in
    let start : Option (List Symbol) = Some (Nonterminal d.start ∷ []) in
    record {
      stands = s;
      computed =
          ap (stack_after g t start) e
          ∙ (stack_append g t start (tokens_of done) (u ∷ []) ∙ (ap (λ x. stack_after g t x (u ∷ [])) k.computed ∙ ap (λ x. stack_after g t x []) i));
    }

count_reverse : (n : ℕ) (symbols : List Symbol) → count_by (is_nonterminal n) symbols ≡ count_by (is_nonterminal n) (reverse symbols)
count_reverse n [] = refl
count_reverse n (s ∷ symbols) =
    let f : Symbol → ℕ = λ x. cond (is_nonterminal n x) 1 0 in
    let first : sum_by f (s ∷ symbols) ≡ f s + sum_by f symbols = sum_by-cons f s symbols in
    let below : sum_by f symbols ≡ sum_by f (reverse symbols) = count_reverse n symbols in
    let last : sum_by f (reverse symbols ++ s ∷ []) ≡ sum_by f (reverse symbols) + f s = sum_by_push f (reverse symbols) s in
    let turned : sum_by f (reverse (s ∷ symbols)) ≡ sum_by f (reverse symbols ++ s ∷ []) = ap (sum_by f) (reverse-append (s ∷ []) symbols) in
    let swapped : f s + sum_by f (reverse symbols) ≡ sum_by f (reverse symbols) + f s = omega arith in
    first ∙ (ap (λ x. f s + x) below ∙ (swapped ∙ (sym last ∙ sym turned)))

pub awaited_here : (d : Tabulation) (done : List Action) (stack symbols : List Symbol) (seen : Recognized) (n b : ℕ) → Keeps d done stack → record { grammar = d; tokens = tokens_of done } ≡ seen → reverse symbols ≡ stack → b ≡ count_by (is_nonterminal n) symbols → b ≡ awaited_count seen.grammar n seen.tokens
awaited_here d done stack symbols seen n b k e q i =
    subst (λ (x : Recognized). b ≡ awaited_count x.grammar n x.tokens) e (i ∙ (count_reverse n symbols ∙ (ap (count_by (is_nonterminal n)) q ∙ ap (times_in n) (sym k.computed))))
