-- What a stack awaits of a mark is the number of nodes around the last token.
use Rattle.std.proofs.Common.{◌≡◌, ⊎_elim, ℕ, zero, suc, ◌+◌, ◌-◌, ◌<◌, ◌≤◌, cond, Bool, true, false, List, [], ◌∷◌, ◌++◌, length, take, Some, refl, sym, ap, ◌∙◌, subst, append_assoc, arith}
use Rattle.std.specs.Prelude.{not, nat_eq, nat_lt, if◌then◌else◌}
use Rattle.std.specs.List.{count_by}
use Rattle.std.proofs.lemmas.Bool.{and_parts, cases_Bool, ltb-true, ltb-false, not-true}
use Rattle.std.proofs.lemmas.List.{append-nil, length-append}
use Rattle.std.proofs.lemmas.List.Sums.{sum_by-append, sum_by-cons}
use Rattle.sh_grammar.specs.declared.Symbol.{Symbol}
use Rattle.sh_grammar.specs.declared.Symbol.TheVariants.{Terminal, Nonterminal}
use Rattle.sh_grammar.specs.declared.Token.{Token}
use Rattle.sh_grammar.specs.declared.Action.{Action}
use Rattle.sh_grammar.specs.declared.Action.TheVariants.{Expand, Shift}
use Rattle.sh_grammar.specs.Around.{has_head, nodes_around, nodes_within, is_last_only, is_absent, is_empty, marks_rule, Marks}
use Rattle.sh_grammar.specs.Awaited.{awaited_count, is_nonterminal, times_in}
use Rattle.sh_grammar.specs.Computed.{body_in, rule_body, lead, stack_after}
use Rattle.sh_grammar.specs.Grammar.{AreTrees, Grammar, IsRule, IsTree, Tree, Forest, Leaf, Node, Empty, And, all_leaves, leaves, next_class}
use Rattle.sh_grammar.specs.Leftmost.{Leftmost, preorder, preorders, tokens_of}
use Rattle.sh_grammar.specs.Passes.{IsPredictive, evidence_of, with_rule}
use Rattle.sh_grammar.specs.Predictive.{Evidence, Fits, Predicts}
use Rattle.sh_grammar.specs.Reach.{at_end}
use Rattle.sh_grammar.specs.Table.{Table, cost_of, table_of}
use Rattle.sh_grammar.specs.Tabulation.{Tabulation, grammar_of}
use Rattle.sh_grammar.specs.Text.{IsTreeOf}
use Rattle.sh_grammar.proofs.Check.{passes_predicts, rules_at}
use Rattle.sh_grammar.proofs.Prefix.{cost_falls}
use Rattle.sh_grammar.proofs.Kept.{taken_is}
use Rattle.sh_grammar.proofs.Predict.{first_in}
use Rattle.sh_grammar.proofs.Reach.{fits_append, predicted, reach_start}
use Rattle.sh_grammar.proofs.SoFar.{led, led_text}

-- the stack behind the token of this number, where the actions lead
abbrev stack_at : Grammar → List Action → List Symbol → ℕ → List Symbol
stack_at g [] stack i = []
stack_at g (a ∷ actions) [] i = []
stack_at g (Expand p ∷ actions) (s ∷ stack) i = stack_at g actions (rule_body g (Some p) ++ stack) i
stack_at g (Shift u ∷ actions) (s ∷ stack) zero = stack
stack_at g (Shift u ∷ actions) (s ∷ stack) (suc i) = stack_at g actions stack i

first_same : (u v : Token) (us vs : List Token) → u ∷ us ≡ v ∷ vs → u ≡ v
first_same u v us vs e = cc

rest_same : (u v : Token) (us vs : List Token) → u ∷ us ≡ v ∷ vs → us ≡ vs
rest_same u v us vs e = cc

-- the computed stack is that one
module _ (g : Grammar) (t : Table) (evidence : Evidence) (ok : Predicts g t evidence) where
  record Goes (f : ℕ) (stack : List Symbol) (actions : List Action) (us : List Token) (c : ℕ) : Type 0 where
    new : List Symbol
    later : List Action
    is : lead g t f stack c ≡ Some new
    leads : Leftmost g g.ending new later
    fits : Fits g t evidence (at_end g) new
    text : tokens_of later ≡ us
    here : stack_at g actions stack 0 ≡ new
    further : (i : ℕ) → stack_at g actions stack (suc i) ≡ stack_at g later new i

  goes : (f : ℕ) (stack : List Symbol) (actions : List Action) (u : Token) (us : List Token) → cost_of t stack < f → Leftmost g g.ending stack actions → Fits g t evidence (at_end g) stack → tokens_of actions ≡ u ∷ us → Goes f stack actions us u.class
  goes zero stack actions u us c l h e = absurd (omega (arith, c))
  goes (suc f) [] [] u us c l h e = absurd (cc)
  goes (suc f) [] (a ∷ actions) u us c l h e = absurd l
  goes (suc f) (Terminal k ∷ stack) [] u us c l h e = absurd l
  goes (suc f) (Terminal k ∷ stack) (Expand p ∷ actions) u us c l h e = absurd l
  goes (suc f) (Terminal k ∷ stack) (Shift v ∷ actions) u us c l h e =
      record { new = stack; later = actions; is = refl; leads = l.1; fits = h; text = rest_same v u (tokens_of actions) us e; here = refl; further = λ i. refl }
  goes (suc f) (Nonterminal n ∷ stack) [] u us c l h e = absurd l
  goes (suc f) (Nonterminal n ∷ stack) (Shift v ∷ actions) u us c l h e = absurd l
  goes (suc f) (Nonterminal n ∷ stack) (Expand p ∷ actions) u us c l h e =
      let at = predicted g t evidence ok n stack p l.0 actions u us h l.1 l.2 l.3 e in
      let falls : cost_of t (l.0 ++ stack) < cost_of t (Nonterminal n ∷ stack) = cost_falls g t evidence ok p n l.0 stack l.1 in
      let less : cost_of t (l.0 ++ stack) < f = omega (arith, c, falls) in
      let behind = fits_append g t evidence (evidence.follow n) (at_end g) l.0 stack (ok.follow p n l.0 l.1) h.0 h.1 h.2 in
      let x = goes f (l.0 ++ stack) actions u us less l.3 behind e in
      record {
        new = x.new;
        later = x.later;
        is = ap (λ y. lead g t f (rule_body g y ++ stack) u.class) at ∙ (ap (λ y. lead g t f (body_in y ++ stack) u.class) l.1.there ∙ x.is);
        leads = x.leads;
        fits = x.fits;
        text = x.text;
        here = ap (λ y. stack_at g actions (body_in y ++ stack) 0) l.1.there ∙ x.here;
        further = λ i. ap (λ y. stack_at g actions (body_in y ++ stack) (suc i)) l.1.there ∙ x.further i;
      }

  behind : (tokens : List Token) (actions : List Action) (stack : List Symbol) (i : ℕ) → Leftmost g g.ending stack actions → Fits g t evidence (at_end g) stack → tokens_of actions ≡ tokens → i < length tokens → stack_after g t (Some stack) (take (suc i) tokens) ≡ Some (stack_at g actions stack i)
  behind [] actions stack i l h e b = absurd (omega (arith, b))
  behind (u ∷ tokens) actions stack zero l h e b =
      let x = goes (suc (cost_of t stack)) stack actions u tokens (omega arith) l h e in
      let at = sym (taken_is g t stack u.class (first_in g t evidence ok g.ending stack actions l u tokens e)) ∙ x.is in
      ap (λ y. stack_after g t y []) at ∙ ap Some (sym x.here)
  behind (u ∷ tokens) actions stack (suc i) l h e b =
      let x = goes (suc (cost_of t stack)) stack actions u tokens (omega arith) l h e in
      let at = sym (taken_is g t stack u.class (first_in g t evidence ok g.ending stack actions l u tokens e)) ∙ x.is in
      let less : i < length tokens = omega (arith, b) in
      ap (λ y. stack_after g t y (take (suc i) tokens)) at ∙ (behind tokens x.later x.new i x.leads x.fits x.text less ∙ ap Some (sym (x.further i)))

abbrev times : ℕ → List Symbol → ℕ
times m symbols = count_by (is_nonterminal m) symbols

times_append : (m : ℕ) (a b : List Symbol) → times m (a ++ b) ≡ times m a + times m b
times_append m a b = sum_by-append (λ x. cond (is_nonterminal m x) 1 0) a b

times_cons : (m : ℕ) (s : Symbol) (symbols : List Symbol) (b : Bool) → is_nonterminal m s ≡ b → times m (s ∷ symbols) ≡ (if b then 1 else 0) + times m symbols
times_cons m s symbols b e = sum_by-cons (λ x. cond (is_nonterminal m x) 1 0) s symbols ∙ ap (λ x. cond x 1 0 + times m symbols) e

-- behind each symbol but the mark, the mark stands c times; behind the mark nothing does
abbrev Tails : ℕ → ℕ → List Symbol → Type 0
Tails m c [] = Unit {0}
Tails m c (s ∷ rest) = (is_nonterminal m s ≡ false → times m rest ≡ c) × Tails m c rest

last_once : (m : ℕ) (symbols : List Symbol) → is_last_only m symbols ≡ true → times m symbols ≡ 1
last_once m [] h = absurd (cc)
last_once m (s ∷ []) h = let here : times m (s ∷ []) ≡ 1 + 0 = times_cons m s [] true h in omega (arith, here)
last_once m (s ∷ t ∷ symbols) h =
    let p = and_parts (not (is_nonterminal m s)) (is_last_only m (t ∷ symbols)) h in
    let here : times m (s ∷ t ∷ symbols) ≡ 0 + times m (t ∷ symbols) = times_cons m s (t ∷ symbols) false (not-true (is_nonterminal m s) p.0) in
    let rest = last_once m (t ∷ symbols) p.1 in
    omega (arith, here, rest)

absent_none : (m : ℕ) (symbols : List Symbol) → is_absent m symbols ≡ true → times m symbols ≡ 0
absent_none m [] h = refl
absent_none m (s ∷ symbols) h =
    let p = and_parts (not (is_nonterminal m s)) (is_absent m symbols) h in
    let here : times m (s ∷ symbols) ≡ 0 + times m symbols = times_cons m s symbols false (not-true (is_nonterminal m s) p.0) in
    let rest = absent_none m symbols p.1 in
    omega (arith, here, rest)

last_tails : (m : ℕ) (symbols : List Symbol) → is_last_only m symbols ≡ true → Tails m 1 symbols
last_tails m [] h = tt
last_tails m (s ∷ []) h = ((λ e. let f : true ≡ false = sym h ∙ e in absurd (cc)), tt)
last_tails m (s ∷ t ∷ symbols) h =
    let p = and_parts (not (is_nonterminal m s)) (is_last_only m (t ∷ symbols)) h in
    ((λ e. last_once m (t ∷ symbols) p.1), last_tails m (t ∷ symbols) p.1)

absent_tails : (m : ℕ) (symbols : List Symbol) → is_absent m symbols ≡ true → Tails m 0 symbols
absent_tails m [] h = tt
absent_tails m (s ∷ symbols) h =
    let p = and_parts (not (is_nonterminal m s)) (is_absent m symbols) h in
    ((λ e. absent_none m symbols p.1), absent_tails m symbols p.1)

-- what the test says of a production
record Marked (m n h : ℕ) (body : List Symbol) : Type 0 where
  tails : Tails m (if nat_eq h n then 1 else 0) body
  empty : nat_eq h m ≡ true → is_empty body ≡ true

marked : (m n h p : ℕ) (body : List Symbol) → marks_rule m n p (record { head = h; body = body }) ≡ true → Marked m n h body
marked m n h p body e =
    let q = and_parts (if nat_eq h n then is_last_only m body else is_absent m body) (if nat_eq h m then is_empty body else true) e in
    record { tails = tails (nat_eq h n) q.0; empty = λ i. sym (ap (λ b. if b then is_empty body else true) i) ∙ q.1 }
  where
    tails : (b : Bool) → (if b then is_last_only m body else is_absent m body) ≡ true → Tails m (if b then 1 else 0) body
    tails true f = last_tails m body f
    tails false f = absent_tails m body f

module _ (g : Grammar) (m n : ℕ) (all : (p h : ℕ) (body : List Symbol) → IsRule g p h body → Marked m n h body) where
  -- the mark holds no token
  no_leaves : (e : ℕ) (s : Symbol) (x : Tree) → IsTree g e s x → is_nonterminal m s ≡ true → leaves x ≡ []
  no_leaves e (Terminal k) x h i = absurd (cc)
  no_leaves e (Nonterminal k) (Leaf u) h i = absurd h
  no_leaves e (Nonterminal k) (Node p f) h i = go h.0 f h.3 ((all p k h.0 h.1).empty i)
    where
      go : (body : List Symbol) (f : Forest) → AreTrees g e body f → is_empty body ≡ true → all_leaves f ≡ []
      go [] Empty a b = refl
      go [] (And y f) a b = absurd a
      go (s ∷ body) f a b = absurd (cc)

  mutual
    skip : (e : ℕ) (s : Symbol) (x : Tree) (stack : List Symbol) (actions : List Action) (i j : ℕ) → IsTree g e s x → i ≡ length (leaves x) + j → stack_at g (preorder x ++ actions) (s ∷ stack) i ≡ stack_at g actions stack j
    skip e (Terminal k) (Leaf u) stack actions zero j h q = absurd (omega (arith, q))
    skip e (Terminal k) (Leaf u) stack actions (suc i) j h q = let r : i ≡ j = omega (arith, q) in ap (stack_at g actions stack) r
    skip e (Nonterminal k) (Node p f) stack actions i j h q = ap (λ y. stack_at g (preorders f ++ actions) (body_in y ++ stack) i) h.1.there ∙ skip_all e h.0 f stack actions i j h.3 q
    skip e (Terminal k) (Node p f) stack actions i j h q = absurd h
    skip e (Nonterminal k) (Leaf u) stack actions i j h q = absurd h

    skip_all : (e : ℕ) (body : List Symbol) (f : Forest) (stack : List Symbol) (actions : List Action) (i j : ℕ) → AreTrees g e body f → i ≡ length (all_leaves f) + j → stack_at g (preorders f ++ actions) (body ++ stack) i ≡ stack_at g actions stack j
    skip_all e [] Empty stack actions i j h q = let r : i ≡ j = omega (arith, q) in ap (stack_at g actions stack) r
    skip_all e (s ∷ body) (And x f) stack actions i j h q =
        let both : length (leaves x ++ all_leaves f) ≡ length (leaves x) + length (all_leaves f) = length-append (leaves x) (all_leaves f) in
        let k = length (all_leaves f) + j in
        let here : i ≡ length (leaves x) + k = omega (arith, q, both) in
        ap (λ y. stack_at g y (s ∷ (body ++ stack)) i) (append_assoc (preorder x) (preorders f) actions)
        ∙ (skip _ s x (body ++ stack) (preorders f ++ actions) i k h.0 here ∙ skip_all e body f stack actions k j h.1 refl)
    skip_all e [] (And x f) stack actions i j h q = absurd h
    skip_all e (s ∷ body) Empty stack actions i j h q = absurd h

  mutual
    around : (e : ℕ) (s : Symbol) (x : Tree) (stack : List Symbol) (actions : List Action) (i : ℕ) → IsTree g e s x → i < length (leaves x) → times m (stack_at g (preorder x ++ actions) (s ∷ stack) i) ≡ nodes_around g.rules n x i + times m stack
    around e (Terminal k) (Leaf u) stack actions zero h b = let none : times m stack ≡ 0 + times m stack = omega arith in none
    around e (Terminal k) (Leaf u) stack actions (suc i) h b = absurd (omega (arith, b))
    around e (Nonterminal k) (Node p f) stack actions i h b =
        let one : ℕ = if nat_eq k n then 1 else 0 in
        let same : one ≡ (if has_head g.rules n p then 1 else 0) = ap (λ y. if with_rule y (λ r. nat_eq r.head n) then 1 else 0) (sym h.1.there) in
        ap (λ y. times m (stack_at g (preorders f ++ actions) (body_in y ++ stack) i)) h.1.there
        ∙ (within e h.0 f stack actions i one h.3 b (all p k h.0 h.1).tails ∙ ap (λ y. y + nodes_within g.rules n f i + times m stack) same)
    around e (Terminal k) (Node p f) stack actions i h b = absurd h
    around e (Nonterminal k) (Leaf u) stack actions i h b = absurd h

    within : (e : ℕ) (body : List Symbol) (f : Forest) (stack : List Symbol) (actions : List Action) (i c : ℕ) → AreTrees g e body f → i < length (all_leaves f) → Tails m c body → times m (stack_at g (preorders f ++ actions) (body ++ stack) i) ≡ c + nodes_within g.rules n f i + times m stack
    within e [] Empty stack actions i c h b a = absurd (omega (arith, b))
    within e (s ∷ body) (And x f) stack actions i c h b a =
        ap (λ y. times m (stack_at g y (s ∷ (body ++ stack)) i)) (append_assoc (preorder x) (preorders f) actions)
        ∙ ⊎_elim
        (λ l. first l (around (next_class e (all_leaves f)) s x (body ++ stack) (preorders f ++ actions) i h.0))
        (λ l. later l (λ j less. within e body f stack actions j c h.1 less a.1))
        (cases_Bool (nat_lt i (length (leaves x))))
      where
        later : nat_lt i (length (leaves x)) ≡ false → ((j : ℕ) → j < length (all_leaves f) → times m (stack_at g (preorders f ++ actions) (body ++ stack) j) ≡ c + nodes_within g.rules n f j + times m stack) → times m (stack_at g (preorder x ++ (preorders f ++ actions)) (s ∷ (body ++ stack)) i) ≡ c + nodes_within g.rules n (And x f) i + times m stack
        later l below =
            let past : length (leaves x) ≤ i = ltb-false i (length (leaves x)) l in
            let both : length (leaves x ++ all_leaves f) ≡ length (leaves x) + length (all_leaves f) = length-append (leaves x) (all_leaves f) in
            let j = i - length (leaves x) in
            let less : j < length (all_leaves f) = omega (arith, b, both, past) in
            let place : i ≡ length (leaves x) + j = omega (arith, past) in
            ap (times m) (skip (next_class e (all_leaves f)) s x (body ++ stack) (preorders f ++ actions) i j h.0 place)
            ∙ (below j less ∙ ap (λ y. c + (if y then nodes_around g.rules n x i else nodes_within g.rules n f j) + times m stack) (sym l))

        none : is_nonterminal m s ≡ true → i < length (leaves x) → ⊥
        none k b = let z = subst (λ y. i < length y) (no_leaves (next_class e (all_leaves f)) s x h.0 k) b in absurd (omega (arith, z))

        first : nat_lt i (length (leaves x)) ≡ true → (i < length (leaves x) → times m (stack_at g (preorder x ++ (preorders f ++ actions)) (s ∷ (body ++ stack)) i) ≡ nodes_around g.rules n x i + times m (body ++ stack)) → times m (stack_at g (preorder x ++ (preorders f ++ actions)) (s ∷ (body ++ stack)) i) ≡ c + nodes_within g.rules n (And x f) i + times m stack
        first l inside =
            let less : i < length (leaves x) = ltb-true i (length (leaves x)) l in
            let both : times m (body ++ stack) ≡ times m body + times m stack = times_append m body stack in
            let tail : times m body ≡ c = ⊎_elim (λ k. absurd (none k less)) (λ k. a.0 k) (cases_Bool (is_nonterminal m s)) in
            let sum : nodes_around g.rules n x i + times m (body ++ stack) ≡ c + nodes_around g.rules n x i + times m stack = omega (arith, both, tail) in
            inside less ∙ (sum ∙ ap (λ y. c + (if y then nodes_around g.rules n x i else nodes_within g.rules n f (i - length (leaves x))) + times m stack) (sym l))
    within e [] (And x f) stack actions i c h b a = absurd h
    within e (s ∷ body) Empty stack actions i c h b a = absurd h

-- of a grammar that passes its test
pub awaited_around : (d : Tabulation) → IsPredictive d → (m n : ℕ) → Marks d m n → (tokens : List Token) (tree : Tree) → IsTreeOf d tokens tree → (i : ℕ) → i < length tokens → awaited_count d m (take (suc i) tokens) ≡ nodes_around (grammar_of d).rules n tree i
awaited_around d p m n marks tokens tree h i b =
    let g = grammar_of d in
    let t = table_of d in
    let evidence = evidence_of d p.0 in
    let ok = passes_predicts d p.0 p.1 in
    let start = Nonterminal d.start in
    let at = behind g t evidence ok tokens (preorder tree) (start ∷ []) i (led g start tokens tree h) (reach_start g t evidence ok).fits (led_text g start tokens tree h) b in
    let all : (q k : ℕ) (body : List Symbol) → IsRule g q k body → Marked m n k body = λ q k body is. rule_marked q k body is in
    let less : i < length (leaves tree) = subst (λ x. i < length x) (sym h.text) b in
    let count = around g m n all g.ending start tree [] [] i h.shape less in
    ap (times_in m) at ∙ (ap (λ x. times m (stack_at g x (start ∷ []) i)) (sym (append-nil (preorder tree))) ∙ (count ∙ omega arith))
  where
    rule_marked : (q k : ℕ) (body : List Symbol) → IsRule (grammar_of d) q k body → Marked m n k body
    rule_marked q k body is = marked m n k (0 + q) body (rules_at (marks_rule m n) 0 (grammar_of d).rules q (record { head = k; body = body }) marks.rules is.there)
