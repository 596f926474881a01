-- What C's grammar writes a text says: a tree of the grammar is built along it.
use Rattle.std.proofs.Common.{◌≡◌, ℕ, zero, suc, ◌+◌, ◌-◌, ◌*◌, ◌<◌, ◌≤◌, Bool, true, false, List, [], ◌∷◌, ◌++◌, refl, ap, subst, ⊎_elim, arith}
use Rattle.std.specs.Prelude.{nat_lt, if◌then◌else◌}
use Rattle.std.proofs.lemmas.Bool.{cases_lt}
use Rattle.sh_grammar.specs.declared.Token.{Token}
use Rattle.sh_grammar.specs.declared.Symbol.{Symbol}
use Rattle.sh_grammar.specs.declared.Symbol.TheVariants.{Terminal, Nonterminal}
use Rattle.sh_grammar.specs.Grammar.{IsRule, Tree, Forest, Leaf, Node, Empty, And, IsTree, AreTrees, leaves, all_leaves, next_class}
use Rattle.sh_grammar.specs.Passes.{all_below}
use Rattle.sh_arith_grammar.specs.declared.grammar.Kind.{Kind}
use Rattle.sh_arith_grammar.specs.declared.grammar.Kind.TheVariants as kind
use Rattle.sh_arith_grammar.specs.Grammar.{arithmetic, arithmetic_grammar}
use Rattle.sh_arith_grammar.specs.Productions.{productions}
use Rattle.sh_arith_grammar.specs.Roles.{kind_of, kinds}
use Rattle.sh_arith_grammar.proofs.Computed.{below_at, has_class}
use Rattle.sh_arith.specs.Reading.{Left, first_token, says, read, readers}

-- ---- trees of a symbol, before whatever class

abbrev pub Good : Symbol → Tree → Type 0
Good s t = (e : ℕ) → e < 39 → IsTree arithmetic_grammar e s t

abbrev pub AllFit : List Token → Type 0
AllFit [] = Unit {0}
AllFit (t ∷ ts) = (t.class < 39) × AllFit ts

pub record Fine (s : Symbol) (t : Tree) : Type 0 where
  pub good : Good s t
  pub fit : AllFit (leaves t)

pub record Goods (body : List Symbol) (f : Forest) : Type 0 where
  pub good : (e : ℕ) → e < 39 → AreTrees arithmetic_grammar e body f
  pub fit : AllFit (all_leaves f)

next_fits : (e : ℕ) (ts : List Token) → e < 39 → AllFit ts → next_class e ts < 39
next_fits e [] l f = l
next_fits e (t ∷ ts) l f = f.0

pub all_fit : (xs ys : List Token) → AllFit xs → AllFit ys → AllFit (xs ++ ys)
all_fit [] ys f g = g
all_fit (x ∷ xs) ys f g = (f.0, all_fit xs ys f.1 g)

abbrev free_at : ℕ → ℕ → Bool
free_at c p = arithmetic_grammar.allows p c

all_free : all_below (λ c. all_below (free_at c) 51) 39 ≡ true
unfolding arithmetic_grammar arithmetic productions
all_free = refl

free : (p c : ℕ) → p < 51 → c < 39 → arithmetic_grammar.allows p c ≡ true
free p c l k = below_at (free_at c) 51 p (below_at (λ c. all_below (free_at c) 51) 39 c all_free k) l

pub none : Goods [] Empty
none = record { good = λ e l. tt; fit = tt }

pub more : (s : Symbol) (body : List Symbol) (t : Tree) (f : Forest) → Fine s t → Goods body f → Goods (s ∷ body) (And t f)
more s body t f h g = record { good = λ e l. (h.good (next_class e (all_leaves f)) (next_fits e (all_leaves f) l g.fit), g.good e l); fit = all_fit (leaves t) (all_leaves f) h.fit g.fit }

pub leaf : (k : ℕ) (t : Token) → arithmetic_grammar.accepts k t.class ≡ true → Fine (Terminal k) (Leaf t)
unfolding arithmetic_grammar arithmetic
leaf k t h = record { good = λ e l. h; fit = (has_class arithmetic.ending arithmetic.terminals k t.class h, tt) }

-- a production of the grammar with its meaning
pub record IsKnown (p n : ℕ) (body : List Symbol) (k : Kind) : Type 0 where
  pub rule : IsRule arithmetic_grammar p n body
  pub means : kind_of p ≡ k
  pub few : p < 51

pub node : (p n : ℕ) (body : List Symbol) (k : Kind) (f : Forest) → IsKnown p n body k → Goods body f → Fine (Nonterminal n) (Node p f)
node p n body k f r g = record { good = λ e l. (body, r.rule, free p (next_class e (all_leaves f)) r.few (next_fits e (all_leaves f) l g.fit), g.good e l); fit = g.fit }

pub reads : (p n : ℕ) (body : List Symbol) (k : Kind) (f : Forest) (l : Left) → IsKnown p n body k → read (Node p f) l ≡ says k (first_token f) (readers f) l
reads p n body k f l r = ap (λ x. says x (first_token f) (readers f) l) r.means

-- ---- the productions of the levels, by the level's number

abbrev AllBelow : (ℕ → Type 0) → ℕ → Type 0
AllBelow P zero = Unit {0}
AllBelow P (suc m) = P m × AllBelow P m

below : (P : ℕ → Type 0) (m i : ℕ) → AllBelow P m → i < m → P i
below P zero i h l = absurd (omega arith)
below P (suc m) i h l = ⊎_elim (λ (k : i < m). below P m i h.1 k) (λ (k : m ≤ i). let e : m ≡ i = omega arith in subst P e h.0) (cases_lt i m)

abbrev pub opd : ℕ → Symbol
opd i = Nonterminal (2 * i + 2)

abbrev pub rst : ℕ → Symbol
rst i = Nonterminal (2 * i + 3)

abbrev pub rests : ℕ → List Symbol
rests zero = []
rests (suc i) = rst (suc i) ∷ rests i

abbrev pub operand_rule : ℕ → Type 0
operand_rule i = 1 ≤ i → IsKnown (3 * i + 4) (2 * i + 2) (opd (suc i) ∷ rst i ∷ []) kind.Chain

abbrev pub nothing_rule : ℕ → Type 0
nothing_rule i = 1 ≤ i → IsKnown (3 * i + 5) (2 * i + 3) [] kind.Rest

abbrev pub means_by : Bool → Kind
means_by b = if b then kind.Logic else kind.Binary

abbrev pub mark_by : Bool → ℕ
mark_by b = if b then 31 else 32

abbrev pub operator_rule : ℕ → Type 0
operator_rule i = 2 ≤ i → IsKnown (3 * i + 6) (2 * i + 3) (Terminal (14 - i) ∷ opd (suc i) ∷ Nonterminal (mark_by (nat_lt i 4)) ∷ rst i ∷ []) (means_by (nat_lt i 4))

operand_rules : AllBelow operand_rule 12
unfolding arithmetic_grammar arithmetic productions kind_of kinds
operand_rules = (λ l. record { rule = record { there = refl }; means = refl; few = omega arith }, (λ l. record { rule = record { there = refl }; means = refl; few = omega arith }, (λ l. record { rule = record { there = refl }; means = refl; few = omega arith }, (λ l. record { rule = record { there = refl }; means = refl; few = omega arith }, (λ l. record { rule = record { there = refl }; means = refl; few = omega arith }, (λ l. record { rule = record { there = refl }; means = refl; few = omega arith }, (λ l. record { rule = record { there = refl }; means = refl; few = omega arith }, (λ l. record { rule = record { there = refl }; means = refl; few = omega arith }, (λ l. record { rule = record { there = refl }; means = refl; few = omega arith }, (λ l. record { rule = record { there = refl }; means = refl; few = omega arith }, (λ l. record { rule = record { there = refl }; means = refl; few = omega arith }, (λ l. absurd (omega (arith, l)), tt))))))))))))

pub operand_known : (i : ℕ) → i < 12 → operand_rule i
operand_known i l = below operand_rule 12 i operand_rules l

nothing_rules : AllBelow nothing_rule 12
unfolding arithmetic_grammar arithmetic productions kind_of kinds
nothing_rules = (λ l. record { rule = record { there = refl }; means = refl; few = omega arith }, (λ l. record { rule = record { there = refl }; means = refl; few = omega arith }, (λ l. record { rule = record { there = refl }; means = refl; few = omega arith }, (λ l. record { rule = record { there = refl }; means = refl; few = omega arith }, (λ l. record { rule = record { there = refl }; means = refl; few = omega arith }, (λ l. record { rule = record { there = refl }; means = refl; few = omega arith }, (λ l. record { rule = record { there = refl }; means = refl; few = omega arith }, (λ l. record { rule = record { there = refl }; means = refl; few = omega arith }, (λ l. record { rule = record { there = refl }; means = refl; few = omega arith }, (λ l. record { rule = record { there = refl }; means = refl; few = omega arith }, (λ l. record { rule = record { there = refl }; means = refl; few = omega arith }, (λ l. absurd (omega (arith, l)), tt))))))))))))

pub nothing_known : (i : ℕ) → i < 12 → nothing_rule i
nothing_known i l = below nothing_rule 12 i nothing_rules l

operator_rules : AllBelow operator_rule 12
unfolding arithmetic_grammar arithmetic productions kind_of kinds
operator_rules = (λ l. record { rule = record { there = refl }; means = refl; few = omega arith }, (λ l. record { rule = record { there = refl }; means = refl; few = omega arith }, (λ l. record { rule = record { there = refl }; means = refl; few = omega arith }, (λ l. record { rule = record { there = refl }; means = refl; few = omega arith }, (λ l. record { rule = record { there = refl }; means = refl; few = omega arith }, (λ l. record { rule = record { there = refl }; means = refl; few = omega arith }, (λ l. record { rule = record { there = refl }; means = refl; few = omega arith }, (λ l. record { rule = record { there = refl }; means = refl; few = omega arith }, (λ l. record { rule = record { there = refl }; means = refl; few = omega arith }, (λ l. record { rule = record { there = refl }; means = refl; few = omega arith }, (λ l. absurd (omega (arith, l)), (λ l. absurd (omega (arith, l)), tt))))))))))))

pub operator_known : (i : ℕ) → i < 12 → operator_rule i
operator_known i l = below operator_rule 12 i operator_rules l

pub known_0 : IsKnown 0 0 ([]) kind.Zero
unfolding arithmetic_grammar arithmetic productions kind_of kinds
known_0 = record { rule = record { there = refl }; means = refl; few = omega arith }

pub known_1 : IsKnown 1 0 (Nonterminal 1 ∷ []) kind.Chain
unfolding arithmetic_grammar arithmetic productions kind_of kinds
known_1 = record { rule = record { there = refl }; means = refl; few = omega arith }

pub known_2 : IsKnown 2 1 (Terminal 1 ∷ Nonterminal 2 ∷ []) kind.Named
unfolding arithmetic_grammar arithmetic productions kind_of kinds
known_2 = record { rule = record { there = refl }; means = refl; few = omega arith }

pub known_3 : IsKnown 3 1 (Nonterminal 27 ∷ Nonterminal 3 ∷ []) kind.Chain
unfolding arithmetic_grammar arithmetic productions kind_of kinds
known_3 = record { rule = record { there = refl }; means = refl; few = omega arith }

pub known_4 : IsKnown 4 2 (Terminal 14 ∷ Nonterminal 1 ∷ Nonterminal 28 ∷ []) kind.Assigns
unfolding arithmetic_grammar arithmetic productions kind_of kinds
known_4 = record { rule = record { there = refl }; means = refl; few = omega arith }

pub known_5 : IsKnown 5 2 (Nonterminal 29 ∷ Nonterminal 3 ∷ []) kind.Takes
unfolding arithmetic_grammar arithmetic productions kind_of kinds
known_5 = record { rule = record { there = refl }; means = refl; few = omega arith }

pub known_6 : IsKnown 6 3 (rests 11) kind.Rest
unfolding arithmetic_grammar arithmetic productions kind_of kinds
known_6 = record { rule = record { there = refl }; means = refl; few = omega arith }

pub known_9 : IsKnown 9 5 (Terminal 13 ∷ Nonterminal 1 ∷ Terminal 15 ∷ Nonterminal 4 ∷ Nonterminal 30 ∷ []) kind.Chooses
unfolding arithmetic_grammar arithmetic productions kind_of kinds
known_9 = record { rule = record { there = refl }; means = refl; few = omega arith }

pub known_40 : IsKnown 40 26 (Terminal 1 ∷ Nonterminal 29 ∷ []) kind.Named
unfolding arithmetic_grammar arithmetic productions kind_of kinds
known_40 = record { rule = record { there = refl }; means = refl; few = omega arith }

pub known_41 : IsKnown 41 26 (Nonterminal 27 ∷ []) kind.Chain
unfolding arithmetic_grammar arithmetic productions kind_of kinds
known_41 = record { rule = record { there = refl }; means = refl; few = omega arith }

pub known_42 : IsKnown 42 27 (Terminal 0 ∷ []) kind.Number
unfolding arithmetic_grammar arithmetic productions kind_of kinds
known_42 = record { rule = record { there = refl }; means = refl; few = omega arith }

pub known_43 : IsKnown 43 27 (Terminal 16 ∷ Nonterminal 1 ∷ Terminal 17 ∷ []) kind.Within
unfolding arithmetic_grammar arithmetic productions kind_of kinds
known_43 = record { rule = record { there = refl }; means = refl; few = omega arith }

pub known_44 : IsKnown 44 27 (Terminal 2 ∷ Nonterminal 26 ∷ Nonterminal 33 ∷ []) kind.Prefix
unfolding arithmetic_grammar arithmetic productions kind_of kinds
known_44 = record { rule = record { there = refl }; means = refl; few = omega arith }

pub known_45 : IsKnown 45 28 ([]) kind.Store
unfolding arithmetic_grammar arithmetic productions kind_of kinds
known_45 = record { rule = record { there = refl }; means = refl; few = omega arith }

pub known_46 : IsKnown 46 29 ([]) kind.Load
unfolding arithmetic_grammar arithmetic productions kind_of kinds
known_46 = record { rule = record { there = refl }; means = refl; few = omega arith }

pub known_47 : IsKnown 47 30 ([]) kind.Join
unfolding arithmetic_grammar arithmetic productions kind_of kinds
known_47 = record { rule = record { there = refl }; means = refl; few = omega arith }

pub known_48 : IsKnown 48 31 ([]) kind.Decide
unfolding arithmetic_grammar arithmetic productions kind_of kinds
known_48 = record { rule = record { there = refl }; means = refl; few = omega arith }

pub known_49 : IsKnown 49 32 ([]) kind.Do
unfolding arithmetic_grammar arithmetic productions kind_of kinds
known_49 = record { rule = record { there = refl }; means = refl; few = omega arith }

pub known_50 : IsKnown 50 33 ([]) kind.Turn
unfolding arithmetic_grammar arithmetic productions kind_of kinds
known_50 = record { rule = record { there = refl }; means = refl; few = omega arith }

-- ---- marks

pub blank : (p n : ℕ) (k : Kind) → IsKnown p n [] k → Fine (Nonterminal n) (Node p Empty)
blank p n k r = node p n [] k Empty r none

abbrev pub mark_tree : Bool → Tree
mark_tree b = Node (if b then 48 else 49) Empty

pub marked : (b : Bool) → Fine (Nonterminal (mark_by b)) (mark_tree b)
marked true = blank 48 31 kind.Decide known_48
marked false = blank 49 32 kind.Do known_49
