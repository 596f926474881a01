-- The computed value is the one that the text has.
use Rattle.std.proofs.Common.{◌≡◌, ◌⊎◌, inl, inr, ⊎_elim, ℕ, ℤ, Bool, true, false, List, [], ◌∷◌, ◌++◌, Option, Some, None, length, refl, sym, ap, ◌∙◌, subst, append-nil, append_assoc}
use Rattle.std.specs.Prelude.{◌↔◌, not, ◌&&◌}
use Rattle.std.proofs.lemmas.Bool.{and_parts}
use Rattle.sh_grammar.specs.declared.Token.{Token}
use Rattle.sh_grammar.specs.declared.Symbol.TheVariants.{Nonterminal}
use Rattle.sh_grammar.specs.Computed.{is_prefix, is_whole}
use Rattle.sh_grammar.specs.Derived.{tree_of}
use Rattle.sh_grammar.specs.Grammar.{Derives, Tree}
use Rattle.sh_grammar.specs.Tabulation.{grammar_of}
use Rattle.sh_grammar.specs.Text.{BeginsText, IsText, IsTreeOf}
use Rattle.sh_grammar.proofs.Computing.{prefix_text, whole_text}
use Rattle.sh_grammar.proofs.Deriving.{tree_computed}
use Rattle.sh_vars.specs.Environment.{Environment}
use Rattle.sh_arith_grammar.specs.Grammar.{arithmetic}
use Rattle.sh_arith_grammar.specs.Levels.{Open, are_shallow, is_deep, none_open, open_after, open_behind}
use Rattle.sh_arith_grammar.specs.Lexical.{tokens_of}
use Rattle.sh_arith_grammar.proofs.Passes.{arithmetic_predictive}
use Rattle.sh_arith.specs.declared.faults.ArithFault.{ArithFault}
use Rattle.sh_arith.specs.declared.faults.ArithFault.TheVariants.{Syntax, TooDeep}
use Rattle.sh_arith.specs.Evaluated.{evaluation, outcome_unless, refusal, refusal_at_end, refusal_by, refusal_from}
use Rattle.sh_arith.specs.Evaluation.{EndsEarly, GoesOn, HasFault, IsRefused, IsRefusedWithin, OpensTooMany, Says, StopsAt}
use Rattle.sh_arith.specs.Expression.{Expression}
use Rattle.sh_arith.specs.Outcome.{Outcome, Gives, Stops}
use Rattle.sh_arith.specs.Reading.{expression_of}
use Rattle.sh_arith.specs.Value.{value}

no_true : (b : Bool) → (b ≡ true → ⊥) → b ≡ false
no_true true h = absurd (h refl)
no_true false h = refl

not_true : (b : Bool) → not b ≡ true → b ≡ false
not_true true h = absurd (cc)
not_true false h = refl

-- what comes before a prefix is one
prefix_before : (front more : List Token) → BeginsText arithmetic (front ++ more) → BeginsText arithmetic front
prefix_before front more h = (more ++ h.0, h.1, subst (λ x. Derives (grammar_of arithmetic) (Nonterminal arithmetic.start) x h.1) (append_assoc front more h.0) h.2)

shallow_at : (o : Open) (front : List Token) (t : Token) (more : List Token) → are_shallow o (front ++ t ∷ more) ≡ true → is_deep (open_after o (front ++ t ∷ [])) ≡ false
shallow_at o [] t more h = not_true (is_deep (open_behind o t)) (and_parts (not (is_deep (open_behind o t))) (are_shallow (open_behind o t) more) h).0
shallow_at o (u ∷ front) t more h = shallow_at (open_behind o u) front t more (and_parts (not (is_deep (open_behind o u))) (are_shallow (open_behind o u) (front ++ t ∷ more)) h).1

prefixes : (tokens : List Token) → BeginsText arithmetic tokens → is_prefix arithmetic tokens ≡ true
prefixes tokens h = (prefix_text arithmetic arithmetic_predictive tokens).1 h

-- what goes on is taken
taken_on : (place : ℕ) (taken front more : List Token) → GoesOn (taken ++ front) → refusal_from place taken (front ++ more) ≡ refusal_from place (taken ++ front) more
taken_on place taken [] more h = ap (λ x. refusal_from place x more) (sym (append-nil taken))
taken_on place taken (t ∷ front) more h =
    let same : (taken ++ t ∷ []) ++ front ≡ taken ++ t ∷ front = append_assoc taken (t ∷ []) front in
    let begins : is_prefix arithmetic (taken ++ t ∷ []) ≡ true = prefixes (taken ++ t ∷ []) (prefix_before (taken ++ t ∷ []) front (subst (BeginsText arithmetic) (sym same) h.begins)) in
    let shallow : is_deep (open_after none_open (taken ++ t ∷ [])) ≡ false = shallow_at none_open taken t front h.shallow in
    let goes : GoesOn ((taken ++ t ∷ []) ++ front) = subst GoesOn (sym same) h in
    ap (λ b. refusal_by b (is_deep (open_after none_open (taken ++ t ∷ []))) t (refusal_from place (taken ++ t ∷ []) (front ++ more))) begins
    ∙ ap (λ b. refusal_by true b t (refusal_from place (taken ++ t ∷ []) (front ++ more))) shallow
    ∙ taken_on place (taken ++ t ∷ []) front more goes
    ∙ ap (λ x. refusal_from place x more) same

all_taken : (place : ℕ) (tokens : List Token) → GoesOn tokens → refusal_from place [] tokens ≡ refusal_at_end (is_whole arithmetic tokens) place
all_taken place tokens h = ap (refusal_from place []) (sym (append-nil tokens)) ∙ taken_on place [] tokens [] h

taken_to : (place : ℕ) (tokens front : List Token) (t : Token) (others : List Token) → front ++ t ∷ others ≡ tokens → GoesOn front → refusal_from place [] tokens ≡ refusal_by (is_prefix arithmetic (front ++ t ∷ [])) (is_deep (open_after none_open (front ++ t ∷ []))) t (refusal_from place (front ++ t ∷ []) others)
taken_to place tokens front t others e h = ap (refusal_from place []) (sym e) ∙ taken_on place [] front (t ∷ others) h

-- ---- what is refused
stopped : (end place : ℕ) (tokens : List Token) → StopsAt tokens place → refusal_from end [] tokens ≡ Some (Syntax place)
stopped end place tokens s =
    let no_prefix : is_prefix arithmetic (s.front ++ s.token ∷ []) ≡ false = no_true (is_prefix arithmetic (s.front ++ s.token ∷ [])) (λ h. s.none ((prefix_text arithmetic arithmetic_predictive (s.front ++ s.token ∷ [])).0 h)) in
    taken_to end tokens s.front s.token s.others s.parts s.before
    ∙ ap (λ b. refusal_by b (is_deep (open_after none_open (s.front ++ s.token ∷ []))) s.token (refusal_from end (s.front ++ s.token ∷ []) s.others)) no_prefix
    ∙ ap (λ k. Some (Syntax k)) s.at

too_many : (end : ℕ) (tokens : List Token) → OpensTooMany tokens → refusal_from end [] tokens ≡ Some TooDeep
too_many end tokens s =
    taken_to end tokens s.front s.token s.others s.parts s.before
    ∙ ap (λ b. refusal_by b (is_deep (open_after none_open (s.front ++ s.token ∷ []))) s.token (refusal_from end (s.front ++ s.token ∷ []) s.others)) (prefixes (s.front ++ s.token ∷ []) s.begins)
    ∙ ap (λ b. refusal_by true b s.token (refusal_from end (s.front ++ s.token ∷ []) s.others)) s.deep

early : (end : ℕ) (tokens : List Token) → EndsEarly tokens → refusal_from end [] tokens ≡ Some (Syntax end)
early end tokens s =
    all_taken end tokens s.before
    ∙ ap (λ b. refusal_at_end b end) (no_true (is_whole arithmetic tokens) (λ h. s.none ((whole_text arithmetic arithmetic_predictive tokens).0 h)))

refused : (text : List ℕ) (f : ArithFault) → IsRefused text f → refusal text ≡ Some f
unfolding refusal
refused text f h =
    ⊎_elim
    (λ (k : IsRefusedWithin (tokens_of text) f).
    ⊎_elim
    (λ (s : (place : ℕ) × (f ≡ Syntax place) × StopsAt (tokens_of text) place). stopped (length text) s.0 (tokens_of text) s.2 ∙ ap Some (sym s.1))
    (λ (s : (f ≡ TooDeep) × OpensTooMany (tokens_of text)). too_many (length text) (tokens_of text) s.1 ∙ ap Some (sym s.0))
    k)
    (λ (k : (f ≡ Syntax (length text)) × EndsEarly (tokens_of text)). early (length text) (tokens_of text) k.1 ∙ ap Some (sym k.0))
    h

-- ---- what isn't
begun : (tokens : List Token) (tree : Tree) → IsTreeOf arithmetic tokens tree → BeginsText arithmetic tokens
begun tokens tree h = ([], tree, subst (λ x. Derives (grammar_of arithmetic) (Nonterminal arithmetic.start) x tree) (sym (append-nil tokens)) h)

not_refused : (text : List ℕ) (e : Expression) → Says text e → refusal text ≡ None
unfolding refusal
not_refused text e s =
    all_taken (length text) (tokens_of text) (record { begins = begun (tokens_of text) s.tree s.derives; shallow = s.shallow })
    ∙ ap (λ b. refusal_at_end b (length text)) ((whole_text arithmetic arithmetic_predictive (tokens_of text)).1 (s.tree, s.derives))

pub computes : (text : List ℕ) (e : Expression) (env : Environment) → Says text e → evaluation text env ≡ value text e env
unfolding evaluation
computes text e env s =
    ap (λ r. outcome_unless r text env) (not_refused text e s)
    ∙ ap (λ x. value text (expression_of x) env) (tree_computed arithmetic arithmetic_predictive (tokens_of text) s.tree s.derives)
    ∙ ap (λ x. value text x env) s.says

pub computes_fault : (text : List ℕ) (f : ArithFault) (before after : Environment) → HasFault text before f after → evaluation text before ≡ Stops f after
unfolding evaluation
computes_fault text f before after h =
    ⊎_elim
    (λ (k : IsRefused text f × (after ≡ before)). ap (λ r. outcome_unless r text before) (refused text f k.0) ∙ ap (Stops f) (sym k.1))
    (λ (k : (e : Expression) × Says text e × (value text e before ≡ Stops f after)). computes text k.0 before k.1 ∙ k.2)
    h

-- ---- what the function answers is so
either : (b : Bool) → (b ≡ true) ⊎ (b ≡ false)
either true = inl refl
either false = inr refl

shallow_more : (o : Open) (front : List Token) (t : Token) → are_shallow o front ≡ true → is_deep (open_after o (front ++ t ∷ [])) ≡ false → are_shallow o (front ++ t ∷ []) ≡ true
shallow_more o [] t h k = ap (λ b. not b && true) k
shallow_more o (u ∷ front) t h k =
    let b = and_parts (not (is_deep (open_behind o u))) (are_shallow (open_behind o u) front) h in
    ap (λ x. x && are_shallow (open_behind o u) (front ++ t ∷ [])) b.0 ∙ shallow_more (open_behind o u) front t b.1 k

-- a reading that was refused, or wasn't
abbrev Verdict : ℕ → List Token → Option ArithFault → Type 0
Verdict place tokens None = GoesOn tokens × IsText arithmetic tokens
Verdict place tokens (Some f) = IsRefusedWithin tokens f ⊎ ((f ≡ Syntax place) × EndsEarly tokens)

false_true : {A : Type 0} (b : Bool) → b ≡ false → b ≡ true → A
false_true b h k = let e : false ≡ true = sym h ∙ k in absurd (cc)

at_end : (place : ℕ) (tokens : List Token) → GoesOn tokens → (b : Bool) → is_whole arithmetic tokens ≡ b → Verdict place tokens (refusal_at_end b place)
at_end place tokens g true e = (g, (whole_text arithmetic arithmetic_predictive tokens).0 e)
at_end place tokens g false e = inr (refl, record { before = g; none = λ t. false_true (is_whole arithmetic tokens) e ((whole_text arithmetic arithmetic_predictive tokens).1 t) })

at_token : (place : ℕ) (taken : List Token) (t : Token) (others : List Token) (r : Option ArithFault) → GoesOn taken → (b d : Bool) → is_prefix arithmetic (taken ++ t ∷ []) ≡ b → is_deep (open_after none_open (taken ++ t ∷ [])) ≡ d → (GoesOn (taken ++ t ∷ []) → Verdict place (taken ++ t ∷ others) r) → Verdict place (taken ++ t ∷ others) (refusal_by b d t r)
at_token place taken t others r g false d e f more = inl (inl (
  t.id,
  refl,
  record {
    front = taken;
    token = t;
    others = others;
    parts = refl;
    at = refl;
    before = g;
    none = λ h. false_true (is_prefix arithmetic (taken ++ t ∷ [])) e ((prefix_text arithmetic arithmetic_predictive (taken ++ t ∷ [])).1 h);
  },
))
at_token place taken t others r g true true e f more = inl (inr (
  refl,
  record {
    front = taken;
    token = t;
    others = others;
    parts = refl;
    before = g;
    begins = (prefix_text arithmetic arithmetic_predictive (taken ++ t ∷ [])).0 e;
    deep = f;
  },
))
at_token place taken t others r g true false e f more = more (record {
  begins = (prefix_text arithmetic arithmetic_predictive (taken ++ t ∷ [])).0 e;
  shallow = shallow_more none_open taken t g.shallow f;
})

judged : (place : ℕ) (taken tokens : List Token) → GoesOn taken → Verdict place (taken ++ tokens) (refusal_from place taken tokens)
judged place taken [] g = subst (λ x. Verdict place x (refusal_at_end (is_whole arithmetic taken) place)) (sym (append-nil taken)) (at_end place taken g (is_whole arithmetic taken) refl)
judged place taken (t ∷ tokens) g =
    at_token place taken t tokens (refusal_from place (taken ++ t ∷ []) tokens) g (is_prefix arithmetic (taken ++ t ∷ [])) (is_deep (open_after none_open (taken ++ t ∷ []))) refl refl
    (λ h. subst (λ x. Verdict place x (refusal_from place (taken ++ t ∷ []) tokens)) (append_assoc taken (t ∷ []) tokens) (judged place (taken ++ t ∷ []) tokens h))

none_goes_on : GoesOn []
none_goes_on = record { begins = (prefix_text arithmetic arithmetic_predictive []).0 refl; shallow = refl }

verdict : (text : List ℕ) → Verdict (length text) (tokens_of text) (refusal text)
unfolding refusal
verdict text = judged (length text) [] (tokens_of text) none_goes_on

abbrev HasOutcome : List ℕ → Environment → Outcome → Type 0
HasOutcome text before (Gives v after) = (e : Expression) × Says text e × (value text e before ≡ Gives v after)
HasOutcome text before (Stops f after) = HasFault text before f after

has_value : (text : List ℕ) (before : Environment) (e : Expression) (o : Outcome) → Says text e → value text e before ≡ o → HasOutcome text before o
has_value text before e (Gives v after) s h = (e, s, h)
has_value text before e (Stops f after) s h = inr (e, s, h)

has_outcome : (text : List ℕ) (before : Environment) (r : Option ArithFault) → Verdict (length text) (tokens_of text) r → HasOutcome text before (outcome_unless r text before)
has_outcome text before (Some f) h = inl (h, refl)
has_outcome text before None h =
    let tree : Tree = h.1.0 in
    let s : Says text (expression_of tree) = record { tree = tree; derives = h.1.1; says = refl; shallow = h.0.shallow } in
    has_value text before (expression_of tree) (value text (expression_of (tree_of arithmetic (tokens_of text))) before) s
    (ap (λ x. value text (expression_of x) before) (sym (tree_computed arithmetic arithmetic_predictive (tokens_of text) tree h.1.1)))

outcome_is : (text : List ℕ) (before : Environment) → HasOutcome text before (evaluation text before)
unfolding evaluation
outcome_is text before = has_outcome text before (refusal text) (verdict text)

pub value_both : (text : List ℕ) (v : ℤ) (before after : Environment) → ((e : Expression) × Says text e × (value text e before ≡ Gives v after)) ↔ (evaluation text before ≡ Gives v after)
value_both text v before after = (λ h. computes text h.0 before h.1 ∙ h.2, λ h. subst (HasOutcome text before) h (outcome_is text before))

pub fault_both : (text : List ℕ) (f : ArithFault) (before after : Environment) → HasFault text before f after ↔ (evaluation text before ≡ Stops f after)
fault_both text f before after = (computes_fault text f before after, λ h. subst (HasOutcome text before) h (outcome_is text before))
