-- What a predictive table says of leftmost derivations.
use Rattle.std.proofs.Common.{◌≡◌, ◌⊎◌, inl, inr, ⊎_elim, ℕ, Bool, true, false, List, [], ◌∷◌, ◌++◌, refl, sym, ap, ◌∙◌, subst}
use Rattle.std.specs.Prelude.{◌&&◌, ◌||◌}
use Rattle.sh_grammar.specs.declared.Symbol.{Symbol}
use Rattle.sh_grammar.specs.declared.Symbol.TheVariants.{Terminal, Nonterminal}
use Rattle.sh_grammar.specs.declared.Token.{Token}
use Rattle.sh_grammar.specs.declared.Action.{Action}
use Rattle.sh_grammar.specs.declared.Action.TheVariants.{Expand, Shift}
use Rattle.sh_grammar.specs.Grammar.{Grammar, next_class}
use Rattle.sh_grammar.specs.Leftmost.{tokens_of, Leftmost}
use Rattle.sh_grammar.specs.Table.{Table, nullable_of, first_of}
use Rattle.sh_grammar.specs.Predictive.{Evidence, Predicts}

pub cases_or : (a b : Bool) → (a || b) ≡ true → (a ≡ true) ⊎ (b ≡ true)
cases_or true b h = inl refl
cases_or false b h = inr h

pub or_first : (a b : Bool) → a ≡ true → (a || b) ≡ true
or_first true b h = refl
or_first false b h = absurd (cc)

pub or_second : (a b : Bool) → b ≡ true → (a || b) ≡ true
or_second true b h = refl
or_second false b h = h

pub and_parts : (a b : Bool) → (a && b) ≡ true → (a ≡ true) × (b ≡ true)
and_parts true b h = (refl, h)
and_parts false b h = absurd (cc)

pub and_both : (a b : Bool) → a ≡ true → b ≡ true → (a && b) ≡ true
and_both true b h k = k
and_both false b h k = absurd (cc)

regroup : (a b d e x : Bool) → (a || (b && (d || (e && x)))) ≡ ((a || (b && d)) || ((b && e) && x))
regroup true b d e x = refl
regroup false true d e x = refl
regroup false false d e x = refl

and_assoc : (a b c : Bool) → (a && (b && c)) ≡ ((a && b) && c)
and_assoc true b c = refl
and_assoc false b c = refl

module _ (g : Grammar) (t : Table) where
  pub first_append : (body stack : List Symbol) (c : ℕ) → first_of g t (body ++ stack) c ≡ (first_of g t body c || (nullable_of g t body c && first_of g t stack c))
  first_append [] stack c = refl
  first_append (Nonterminal n ∷ body) stack c =
      ap (λ x. t.first n c || (t.nullable n c && x)) (first_append body stack c)
      ∙ regroup (t.first n c) (t.nullable n c) (first_of g t body c) (nullable_of g t body c) (first_of g t stack c)
  first_append (Terminal k ∷ body) stack c = or_false (g.accepts k c)
    where
      or_false : (a : Bool) → a ≡ (a || false)
      or_false true = refl
      or_false false = refl

  pub nullable_append : (body stack : List Symbol) (c : ℕ) → nullable_of g t (body ++ stack) c ≡ (nullable_of g t body c && nullable_of g t stack c)
  nullable_append [] stack c = refl
  nullable_append (Nonterminal n ∷ body) stack c = ap (λ x. t.nullable n c && x) (nullable_append body stack c) ∙ and_assoc (t.nullable n c) (nullable_of g t body c) (nullable_of g t stack c)
  nullable_append (Terminal k ∷ body) stack c = refl

  pub first_split : (body stack : List Symbol) (c : ℕ) → first_of g t (body ++ stack) c ≡ true → (first_of g t body c ≡ true) ⊎ ((nullable_of g t body c ≡ true) × (first_of g t stack c ≡ true))
  first_split body stack c h =
      ⊎_elim inl (λ k. inr (and_parts (nullable_of g t body c) (first_of g t stack c) k)) (cases_or (first_of g t body c) (nullable_of g t body c && first_of g t stack c) (sym (first_append body stack c) ∙ h))

  pub nullable_split : (body stack : List Symbol) (c : ℕ) → nullable_of g t (body ++ stack) c ≡ true → (nullable_of g t body c ≡ true) × (nullable_of g t stack c ≡ true)
  nullable_split body stack c h = and_parts (nullable_of g t body c) (nullable_of g t stack c) (sym (nullable_append body stack c) ∙ h)

  module _ (evidence : Evidence) (ok : Predicts g t evidence) where
    -- what a derivation begins with is in the first set
    pub first_in : (e : ℕ) (stack : List Symbol) (actions : List Action) → Leftmost g e stack actions → (u : Token) (us : List Token) → tokens_of actions ≡ u ∷ us → first_of g t stack u.class ≡ true
    first_in e [] [] h u us i = absurd (cc)
    first_in e (Terminal k ∷ stack) (Shift v ∷ actions) h u us i =
        let vu : v ≡ u = cc in
        subst (λ (w : Token). g.accepts k w.class ≡ true) vu h.0
    first_in e (Nonterminal n ∷ stack) (Expand p ∷ actions) h u us i =
        let below = first_in e (h.0 ++ stack) actions h.3 u us i in
        let guard = subst (λ x. g.allows p (next_class e x) ≡ true) i h.2 in
        ⊎_elim
        (λ k. or_first (t.first n u.class) _ (ok.first p n h.0 h.1 u.class k guard))
        (λ k. or_second (t.first n u.class) _ (and_both (t.nullable n u.class) _ (ok.nullable p n h.0 h.1 u.class k.0 guard) k.1))
        (first_split h.0 stack u.class below)
    first_in e (s ∷ stack) [] h u us i = absurd h
    first_in e [] (a ∷ actions) h u us i = absurd h
    first_in e (Terminal k ∷ stack) (Expand p ∷ actions) h u us i = absurd h
    first_in e (Nonterminal n ∷ stack) (Shift v ∷ actions) h u us i = absurd h

    -- what derives nothing is nullable
    pub nullable_in : (e : ℕ) (stack : List Symbol) (actions : List Action) → Leftmost g e stack actions → tokens_of actions ≡ [] → nullable_of g t stack e ≡ true
    nullable_in e [] [] h i = refl
    nullable_in e (Terminal k ∷ stack) (Shift v ∷ actions) h i = absurd (cc)
    nullable_in e (Nonterminal n ∷ stack) (Expand p ∷ actions) h i =
        let both = nullable_split h.0 stack e (nullable_in e (h.0 ++ stack) actions h.3 i) in
        let guard = subst (λ x. g.allows p (next_class e x) ≡ true) i h.2 in
        and_both (t.nullable n e) (nullable_of g t stack e) (ok.nullable p n h.0 h.1 e both.0 guard) both.1
    nullable_in e (s ∷ stack) [] h i = absurd h
    nullable_in e [] (a ∷ actions) h i = absurd h
    nullable_in e (Terminal k ∷ stack) (Expand p ∷ actions) h i = absurd h
    nullable_in e (Nonterminal n ∷ stack) (Shift v ∷ actions) h i = absurd h
