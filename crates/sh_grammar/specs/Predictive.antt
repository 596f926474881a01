-- What makes a table one for its grammar, so that one token of lookahead decides. Only proofs need this.
use Rattle.std.specs.Prelude.{◌≡◌, ℕ, ◌<◌, Bool, true, List, [], ◌∷◌, ◌++◌, Some}
use Rattle.sh_grammar.specs.declared.Symbol.{Symbol}
use Rattle.sh_grammar.specs.declared.Symbol.TheVariants.{Terminal, Nonterminal}
use Rattle.sh_grammar.specs.declared.Token.{Token}
use Rattle.sh_grammar.specs.declared.Action.{Action}
use Rattle.sh_grammar.specs.declared.Action.TheVariants.{Shift}
use Rattle.sh_grammar.specs.Grammar.{Grammar, IsRule, next_class}
use Rattle.sh_grammar.specs.Leftmost.{Leftmost, tokens_of}
use Rattle.sh_grammar.specs.Table.{Table, nullable_of, first_of, vanishing, cost_of}

pub record Evidence : Type 0 where
  -- follow n c: the class c may come after the nonterminal
  pub follow : ℕ → ℕ → Bool
  -- some token of a terminal, some derivation of a nonterminal, and the classes that may come after the
  -- derivation
  pub token : ℕ → Token
  pub sample : ℕ → List Action
  pub safe : ℕ → ℕ → Bool

-- what may come after each nonterminal of the symbols is in the follow set of that nonterminal, if `after` is
-- what may come after all the symbols
abbrev pub Fits : Grammar → Table → Evidence → (ℕ → Bool) → List Symbol → Type 0
Fits g t evidence after [] = Unit {0}
Fits g t evidence after (Terminal k ∷ symbols) = Fits g t evidence after symbols
Fits g t evidence after (Nonterminal n ∷ symbols) =
    ((c : ℕ) → first_of g t symbols c ≡ true → evidence.follow n c ≡ true)
    × ((c : ℕ) → nullable_of g t symbols c ≡ true → after c ≡ true → evidence.follow n c ≡ true)
    × Fits g t evidence after symbols

-- the samples of the symbols, one after another
abbrev pub samples : Evidence → List Symbol → List Action
samples evidence [] = []
samples evidence (Terminal k ∷ symbols) = Shift (evidence.token k) ∷ samples evidence symbols
samples evidence (Nonterminal n ∷ symbols) = evidence.sample n ++ samples evidence symbols

-- the samples of the symbols may come one after another, before the class e
abbrev pub Ends : Grammar → Evidence → ℕ → List Symbol → Type 0
Ends g evidence e [] = Unit {0}
Ends g evidence e (Terminal k ∷ symbols) = (g.accepts k (evidence.token k).class ≡ true) × Ends g evidence e symbols
Ends g evidence e (Nonterminal n ∷ symbols) = (evidence.safe n (next_class e (tokens_of (samples evidence symbols))) ≡ true) × Ends g evidence e symbols

pub record Predicts (g : Grammar) (t : Table) (evidence : Evidence) : Type 0 where
  pub first : (p n : ℕ) (body : List Symbol) → IsRule g p n body → (c : ℕ) → first_of g t body c ≡ true → g.allows p c ≡ true → t.first n c ≡ true
  pub nullable : (p n : ℕ) (body : List Symbol) → IsRule g p n body → (c : ℕ) → nullable_of g t body c ≡ true → g.allows p c ≡ true → t.nullable n c ≡ true
  pub follow : (p n : ℕ) (body : List Symbol) → IsRule g p n body → Fits g t evidence (evidence.follow n) body
  pub start : evidence.follow t.start g.ending ≡ true
  -- one production for each class
  pub by_first : (p n : ℕ) (body : List Symbol) → IsRule g p n body → (c : ℕ) → first_of g t body c ≡ true → g.allows p c ≡ true → t.predict n c ≡ Some p
  pub by_follow : (p n : ℕ) (body : List Symbol) → IsRule g p n body → (c : ℕ) → nullable_of g t body c ≡ true → g.allows p c ≡ true → evidence.follow n c ≡ true → t.predict n c ≡ Some p
  -- no more is in first and nullable than belongs there
  pub first_known : (n c : ℕ) → t.first n c ≡ true → (p : ℕ) × (body : List Symbol) × IsRule g p n body × (first_of g t body c ≡ true) × (g.allows p c ≡ true)
  pub nullable_known : (n c : ℕ) → t.nullable n c ≡ true → (p : ℕ) × (body : List Symbol) × IsRule g p n body × (nullable_of g t body c ≡ true) × (g.allows p c ≡ true)
  -- no left recursion
  pub vanishes : (p n : ℕ) (body : List Symbol) → IsRule g p n body → vanishing t body ≡ true → t.vanishes n ≡ true
  pub weight : (p n : ℕ) (body : List Symbol) → IsRule g p n body → cost_of t body < t.weight n
  -- each stack derives some tokens
  pub sample : (n c : ℕ) → evidence.safe n c ≡ true → Leftmost g c (Nonterminal n ∷ []) (evidence.sample n)
  pub ends : (p n : ℕ) (body : List Symbol) → IsRule g p n body → (c : ℕ) → evidence.safe n c ≡ true → Ends g evidence c body
  pub start_ends : evidence.safe t.start g.ending ≡ true
