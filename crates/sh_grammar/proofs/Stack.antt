-- A stack whose last symbol is on top.
use Rattle.std.proofs.Common.{◌≡◌, ℕ, zero, suc, Bool, true, false, List, [], ◌∷◌, ◌++◌, reverse, get_or, Some, refl, sym, ap, ◌∙◌}
use Rattle.std.specs.Prelude.{◌&&◌, ◌||◌, slice_get}
use Rattle.std.proofs.lemmas.List.{reverse-append}
use Rattle.sh_grammar.specs.declared.Symbol.{Symbol}
use Rattle.sh_grammar.specs.declared.Symbol.TheVariants.{Terminal, Nonterminal}
use Rattle.sh_grammar.specs.Grammar.{Grammar, Rule}
use Rattle.sh_grammar.specs.Table.{Table, first_of, nullable_of}
use Rattle.sh_grammar.specs.Tabulation.{rules_of}

pub reverse_last : (rest below : List Symbol) (x : Symbol) → rest ≡ below ++ x ∷ [] → reverse rest ≡ x ∷ reverse below
reverse_last rest below x e = ap reverse e ∙ reverse-append below (x ∷ [])

or_false : (a : Bool) → (a || false) ≡ a
or_false true = refl
or_false false = refl

module _ (g : Grammar) (t : Table) (rest below : List Symbol) (c : ℕ) where
  pub begins_terminal : (k : ℕ) → rest ≡ below ++ Terminal k ∷ [] → first_of g t (reverse rest) c ≡ g.accepts k c
  begins_terminal k e = ap (λ x. first_of g t x c) (reverse_last rest below (Terminal k) e)

  pub begins_name : (n : ℕ) → rest ≡ below ++ Nonterminal n ∷ [] → first_of g t (reverse rest) c ≡ (t.first n c || (t.nullable n c && first_of g t (reverse below) c))
  begins_name n e = ap (λ x. first_of g t x c) (reverse_last rest below (Nonterminal n) e)

  pub begins_here : (n : ℕ) → rest ≡ below ++ Nonterminal n ∷ [] → t.first n c ≡ true → first_of g t (reverse rest) c ≡ true
  begins_here n e f = begins_name n e ∙ ap (λ b. b || (t.nullable n c && first_of g t (reverse below) c)) f

  pub begins_not : (n : ℕ) → rest ≡ below ++ Nonterminal n ∷ [] → t.first n c ≡ false → t.nullable n c ≡ false → first_of g t (reverse rest) c ≡ false
  begins_not n e f h = begins_name n e ∙ (ap (λ b. b || (t.nullable n c && first_of g t (reverse below) c)) f ∙ ap (λ b. b && first_of g t (reverse below) c) h)

  pub begins_below : (n : ℕ) → rest ≡ below ++ Nonterminal n ∷ [] → t.first n c ≡ false → t.nullable n c ≡ true → first_of g t (reverse below) c ≡ first_of g t (reverse rest) c
  begins_below n e f h = sym (begins_name n e ∙ (ap (λ b. b || (t.nullable n c && first_of g t (reverse below) c)) f ∙ ap (λ b. b && first_of g t (reverse below) c) h))

  pub vanish_terminal : (k : ℕ) → rest ≡ below ++ Terminal k ∷ [] → nullable_of g t (reverse rest) c ≡ false
  vanish_terminal k e = ap (λ x. nullable_of g t x c) (reverse_last rest below (Terminal k) e)

  vanish_name : (n : ℕ) → rest ≡ below ++ Nonterminal n ∷ [] → nullable_of g t (reverse rest) c ≡ (t.nullable n c && nullable_of g t (reverse below) c)
  vanish_name n e = ap (λ x. nullable_of g t x c) (reverse_last rest below (Nonterminal n) e)

  pub vanish_not : (n : ℕ) → rest ≡ below ++ Nonterminal n ∷ [] → t.nullable n c ≡ false → nullable_of g t (reverse rest) c ≡ false
  vanish_not n e h = vanish_name n e ∙ ap (λ b. b && nullable_of g t (reverse below) c) h

  pub vanish_below : (n : ℕ) → rest ≡ below ++ Nonterminal n ∷ [] → t.nullable n c ≡ true → nullable_of g t (reverse below) c ≡ nullable_of g t (reverse rest) c
  vanish_below n e h = sym (vanish_name n e ∙ ap (λ b. b && nullable_of g t (reverse below) c) h)

same_rule : (a b : Rule) → Some a ≡ Some b → a ≡ b
same_rule a b e = cc

abbrev body_of : Rule → List Symbol
body_of r = r.body

-- the body of a production, in the list of bodies
pub body_listed : (heads : List ℕ) (bodies : List (List Symbol)) (p n : ℕ) (body : List Symbol) → slice_get (rules_of heads bodies) p ≡ Some (record { head = n; body = body }) → get_or bodies p [] ≡ body
body_listed [] bodies p n body e = absurd (cc)
body_listed (m ∷ heads) [] p n body e = absurd (cc)
body_listed (m ∷ heads) (b ∷ bodies) zero n body e = ap body_of (same_rule (record { head = m; body = b }) (record { head = n; body = body }) e)
body_listed (m ∷ heads) (b ∷ bodies) (suc p) n body e = body_listed heads bodies p n body e
