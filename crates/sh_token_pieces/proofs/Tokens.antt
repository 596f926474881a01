-- The tokens of a substitution, as the recognizer has them.
use Rattle.std.proofs.Common.{◌≡◌, ◌↔◌, ℕ, Bool, true, false, IsTrue, List, [], ◌∷◌, ◌++◌, Option, Some, None, refl, sym, subst}
use Rattle.sh_grammar.specs.declared.Symbol.{Symbol}
use Rattle.sh_grammar.specs.declared.Token.{Token}
use Rattle.sh_grammar.specs.Tabulation.{Tabulation, grammar_of}
use Rattle.sh_grammar.specs.Table.{table_of}
use Rattle.sh_grammar.specs.Text.{IsText, BeginsText}
use Rattle.sh_grammar.specs.Recognized.{Recognized}
use Rattle.sh_grammar.specs.Computed.{is_whole, is_prefix, stack_after, may_stop, continues}
use Rattle.sh_grammar.proofs.Computing.{whole_text, prefix_text}
use Rattle.sh_grammar.specs.Awaited.{times_in}
use Rattle.sh_token_grammar.specs.Shell.{substitution, compound_end, number_of}
use Rattle.sh_token_grammar.proofs.Passing.{substitution_predictive}
use Rattle.sh_token_pieces.specs.Nested.{open_in}

both : (a b : Bool) → (a ≡ true → b ≡ true) → (b ≡ true → a ≡ true) → a ≡ b
both true b f g = sym (f refl)
both false true f g = absurd (let h = g refl in cc)
both false false f g = refl

pub whole_shown : (result : Bool) (r : Recognized) → r.grammar ≡ substitution → (IsTrue result ↔ IsText r.grammar r.tokens) → result ≡ is_whole substitution r.tokens
whole_shown result r g h =
    let w = whole_text substitution substitution_predictive r.tokens in
    both result (is_whole substitution r.tokens) (λ t. w.1 (subst (λ d. IsText d r.tokens) g (h.0 t))) (λ t. h.1 (subst (λ d. IsText d r.tokens) (sym g) (w.0 t)))

pub prefix_shown : (result : Bool) (r : Recognized) (t : Token) → r.grammar ≡ substitution → (IsTrue result ↔ BeginsText r.grammar (r.tokens ++ t ∷ [])) → result ≡ is_prefix substitution (r.tokens ++ t ∷ [])
prefix_shown result r t g h =
    let w = prefix_text substitution substitution_predictive (r.tokens ++ t ∷ []) in
    both result (is_prefix substitution (r.tokens ++ t ∷ [])) (λ x. w.1 (subst (λ d. BeginsText d (r.tokens ++ t ∷ [])) g (h.0 x))) (λ x. h.1 (subst (λ d. BeginsText d (r.tokens ++ t ∷ [])) (sym g) (w.0 x)))

stops_continue : (d : Tabulation) (s : Option (List Symbol)) → may_stop (grammar_of d) (table_of d) s ≡ true → continues s ≡ true
stops_continue d None h = absurd (cc)
stops_continue d (Some s) h = refl

whole_prefix : (d : Tabulation) (ts : List Token) → is_whole d ts ≡ true → is_prefix d ts ≡ true
whole_prefix d ts h = stops_continue d (stack_after (grammar_of d) (table_of d) (Some (Symbol.Nonterminal d.start ∷ [])) ts) h

-- what is no prefix is no whole text
pub no_prefix : (ts : List Token) → is_prefix substitution ts ≡ false → false ≡ is_whole substitution ts
no_prefix ts h = both false (is_whole substitution ts) (λ x. absurd (cc)) (λ w. let f = whole_prefix substitution ts w in absurd (cc))

none_awaited : (n : ℕ) (s : Option (List Symbol)) → continues s ≡ false → 0 ≡ times_in n s
none_awaited n None h = refl
none_awaited n (Some s) h = absurd (cc)

-- behind a token that was refused no compound command is open
pub none_open : (ts : List Token) → is_prefix substitution ts ≡ false → 0 ≡ open_in ts
unfolding open_in
none_open ts h = none_awaited (number_of compound_end) (stack_after (grammar_of substitution) (table_of substitution) (Some (Symbol.Nonterminal substitution.start ∷ [])) ts) h
