-- Each node of a derivation has as many children as its production has symbols.
use Rattle.std.proofs.Common.{◌≡◌, refl, ap, ◌∙◌, ℕ, suc, List, [], ◌∷◌, length}
use Rattle.sh_grammar.specs.declared.Symbol.{Symbol}
use Rattle.sh_grammar.specs.declared.Symbol.TheVariants.{Terminal, Nonterminal}
use Rattle.sh_grammar.specs.Grammar.{Grammar, IsRule, IsTree, AreTrees, Tree, Forest, Leaf, Node, Empty, And, next_class, all_leaves}
use Rattle.sh_parse_words.specs.Meaning.{kept_by}

abbrev pub count : Forest → ℕ
count Empty = 0
count (And x xs) = suc (count xs)

abbrev mutual
  pub Whole : Tree → Type 0
  Whole (Leaf t) = Unit {0}
  Whole (Node p children) = (count children ≡ length (kept_by p)) × AllWhole children

  pub AllWhole : Forest → Type 0
  AllWhole Empty = Unit {0}
  AllWhole (And x xs) = Whole x × AllWhole xs

-- the rules have as many symbols as the table says
pub record Counts (g : Grammar) : Type 0 where
  pub same : (p n : ℕ) (body : List Symbol) → IsRule g p n body → length body ≡ length (kept_by p)

mutual
  pub whole : (g : Grammar) → Counts g → (x : Tree) (e : ℕ) (s : Symbol) → IsTree g e s x → Whole x
  whole g h (Leaf t) e s d = tt
  whole g h (Node p children) e (Nonterminal n) (body, rule, allowed, trees) =
      let w = all_whole g h children e body trees in (w.0 ∙ h.same p n body rule, w.1)
  whole g h (Node p children) e (Terminal k) d = absurd d

  all_whole : (g : Grammar) → Counts g → (xs : Forest) (e : ℕ) (symbols : List Symbol) → AreTrees g e symbols xs
      → (count xs ≡ length symbols) × AllWhole xs
  all_whole g h Empty e [] d = (refl, tt)
  all_whole g h (And x xs) e (s ∷ symbols) (d, ds) =
      let ws = all_whole g h xs e symbols ds in (ap suc ws.0, (whole g h x (next_class e (all_leaves xs)) s d, ws.1))
  all_whole g h Empty e (s ∷ symbols) d = absurd d
  all_whole g h (And x xs) e [] d = absurd d
