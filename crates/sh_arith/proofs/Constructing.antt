-- What C's grammar writes, some tree of the grammar says: built along the writing, an operator with its right operand put
-- before the rest of its level.
use Rattle.std.proofs.Common.{◌≡◌, ℕ, suc, ◌+◌, ◌-◌, ◌*◌, ◌<◌, ◌≤◌, Bool, true, false, List, [], ◌∷◌, ◌++◌, refl, sym, ap, ◌∙◌, subst, append_assoc, arith}
use Rattle.std.specs.Prelude.{nat_lt}
use Rattle.std.proofs.lemmas.List.{append-nil}
use Rattle.sh_grammar.specs.declared.Token.{Token}
use Rattle.sh_grammar.specs.declared.Symbol.{Symbol}
use Rattle.sh_grammar.specs.declared.Symbol.TheVariants.{Terminal, Nonterminal}
use Rattle.sh_grammar.specs.Grammar.{Tree, Forest, Leaf, Node, Empty, And, leaves, all_leaves}
use Rattle.sh_arith_grammar.specs.declared.grammar.Kind.TheVariants as kind
use Rattle.sh_arith_grammar.specs.declared.operators.Operator.{Operator}
use Rattle.sh_arith_grammar.specs.Grammar.{arithmetic_grammar}
use Rattle.sh_arith_grammar.specs.Roles.{operator_of}
use Rattle.sh_arith.specs.Expression.{Expression, Name, Binary, Logic}
use Rattle.sh_arith.specs.Reading.{Left, Nothing, Named, Done, expression, through, says, read, readers}
use Rattle.sh_arith.proofs.Building.{Fine, Goods, blank, leaf, mark_by, mark_tree, marked, means_by, more, node, none, nothing_known, operand_known, operator_known, opd, reads, rests, rst, known_2, known_3, known_5, known_6, known_40, known_41, known_46}

abbrev pub Accepts : ℕ → Token → Type 0
Accepts k t = arithmetic_grammar.accepts k t.class ≡ true

-- a tree of a symbol says e by these tokens
pub record Tells (s : Symbol) (ts : List Token) (e : Expression) : Type 0 where
  pub tree : Tree
  pub fine : Fine s tree
  pub shown : leaves tree ≡ ts
  pub told : read tree Nothing ≡ Done e

pub data Head : List Token → Expression → Type 0 where
  by_name : (n : Token) → Accepts 1 n → Head (n ∷ []) (Name n.id)
  by_other : (ts : List Token) → (e : Expression) → Tells (Nonterminal 27) ts e → Head ts e

pub retold : (s : Symbol) (xs ys : List Token) (e : Expression) → xs ≡ ys → Tells s xs e → Tells s ys e
retold s xs ys e p w = subst (λ z. Tells s z e) p w

-- with a rest of the level i behind the tokens there is an operand
abbrev pub Nested : ℕ → List Token → Expression → Type 0
Nested i ts e = (r : Tree) (f : Expression) → Fine (rst i) r → read r (Done e) ≡ Done f → Tells (opd i) (ts ++ leaves r) f

-- with rests of the levels from suc i down behind the tokens there is an expression
abbrev pub Flat : ℕ → List Token → Expression → Type 0
Flat i ts e = (r : Tree) (g : Forest) (f : Expression) → Fine (rst (suc i)) r → Goods (rests i) g → through (readers g) (read r (Done e)) ≡ Done f → Tells (Nonterminal 1) (ts ++ (leaves r ++ all_leaves g)) f

-- ---- what an expression begins with

loads : (n : Token) → read (Node 46 Empty) (Named n.id) ≡ Done (Name n.id)
loads n = reads 46 29 [] kind.Load Empty (Named n.id) known_46

pub head_operand : (ts : List Token) (e : Expression) → Head ts e → Tells (opd 12) ts e
head_operand ts e (by_name n a) =
    let f = And (Leaf n) (And (Node 46 Empty) Empty) in
    let g = more (Terminal 1) (Nonterminal 29 ∷ []) (Leaf n) (And (Node 46 Empty) Empty) (leaf 1 n a) (more (Nonterminal 29) [] (Node 46 Empty) Empty (blank 46 29 kind.Load known_46) none) in
    record {
      tree = Node 40 f;
      fine = node 40 26 (Terminal 1 ∷ Nonterminal 29 ∷ []) kind.Named f known_40 g;
      shown = refl;
      told = reads 40 26 (Terminal 1 ∷ Nonterminal 29 ∷ []) kind.Named f Nothing known_40 ∙ loads n;
    }
head_operand ts e (by_other us d t) =
    let f = And t.tree Empty in
    record {
      tree = Node 41 f;
      fine = node 41 26 (Nonterminal 27 ∷ []) kind.Chain f known_41 (more (Nonterminal 27) [] t.tree Empty t.fine none);
      shown = append-nil (leaves t.tree) ∙ t.shown;
      told = reads 41 26 (Nonterminal 27 ∷ []) kind.Chain f Nothing known_41 ∙ t.told;
    }

tail_tree : (c : Forest) (x f : Expression) → through (readers c) (Done x) ≡ Done f → read (Node 6 c) (Done x) ≡ Done f
tail_tree c x f h = reads 6 3 (rests 11) kind.Rest c (Done x) known_6 ∙ h

pub head_flat : (ts : List Token) (e : Expression) → Head ts e → Flat 10 ts e
head_flat ts e (by_name n a) = λ r g f w v h.
    let c = And r g in
    let tail = node 6 3 (rests 11) kind.Rest c known_6 (more (rst 11) (rests 10) r g w v) in
    let d = And (Node 46 Empty) (And (Node 6 c) Empty) in
    let after = node 5 2 (Nonterminal 29 ∷ Nonterminal 3 ∷ []) kind.Takes d known_5 (more (Nonterminal 29) (Nonterminal 3 ∷ []) (Node 46 Empty) (And (Node 6 c) Empty) (blank 46 29 kind.Load known_46) (more (Nonterminal 3) [] (Node 6 c) Empty tail none)) in
    let b = And (Leaf n) (And (Node 5 d) Empty) in
    record {
      tree = Node 2 b;
      fine = node 2 1 (Terminal 1 ∷ Nonterminal 2 ∷ []) kind.Named b known_2 (more (Terminal 1) (Nonterminal 2 ∷ []) (Leaf n) (And (Node 5 d) Empty) (leaf 1 n a) (more (Nonterminal 2) [] (Node 5 d) Empty after none));
      shown = ap (λ z. n ∷ z) (append-nil (all_leaves c ++ []) ∙ append-nil (all_leaves c));
      told =
          reads 2 1 (Terminal 1 ∷ Nonterminal 2 ∷ []) kind.Named b Nothing known_2
          ∙ (reads 5 2 (Nonterminal 29 ∷ Nonterminal 3 ∷ []) kind.Takes d (Named n.id) known_5
          ∙ (ap (read (Node 6 c)) (loads n) ∙ tail_tree c (Name n.id) f h));
    }
head_flat ts e (by_other us x t) = λ r g f w v h.
    let c = And r g in
    let tail = node 6 3 (rests 11) kind.Rest c known_6 (more (rst 11) (rests 10) r g w v) in
    let d = And t.tree (And (Node 6 c) Empty) in
    record {
      tree = Node 3 d;
      fine = node 3 1 (Nonterminal 27 ∷ Nonterminal 3 ∷ []) kind.Chain d known_3 (more (Nonterminal 27) (Nonterminal 3 ∷ []) t.tree (And (Node 6 c) Empty) t.fine (more (Nonterminal 3) [] (Node 6 c) Empty tail none));
      shown = ap (λ z. z ++ (all_leaves c ++ [])) t.shown ∙ ap (λ z. us ++ z) (append-nil (all_leaves c));
      told = reads 3 1 (Nonterminal 27 ∷ Nonterminal 3 ∷ []) kind.Chain d Nothing known_3 ∙ (ap (read (Node 6 c)) t.told ∙ tail_tree c x f h);
    }

-- ---- an operator between two operands

abbrev pub made : Bool → Operator → Expression → Expression → Expression
made true op x y = Logic op x y
made false op x y = Binary op x y

says_made : (b : Bool) (t : Token) (y m r : Tree) (x z : Expression) → read y Nothing ≡ Done z → says (means_by b) t (readers (And (Leaf t) (And y (And m (And r Empty))))) (Done x) ≡ read r (Done (made b (operator_of t.class) x z))
says_made true t y m r x z h = ap (λ l. read r (Done (Logic (operator_of t.class) x (expression l)))) h
says_made false t y m r x z h = ap (λ l. read r (Done (Binary (operator_of t.class) x (expression l)))) h

-- the operator and its right operand before a rest of the level
pub record Put (i : ℕ) (t : Token) (ys : List Token) (y : Expression) (r : Tree) : Type 0 where
  pub tree : Tree
  pub fine : Fine (rst i) tree
  pub shown : leaves tree ≡ t ∷ (ys ++ leaves r)
  pub told : (x : Expression) → read tree (Done x) ≡ read r (Done (made (nat_lt i 4) (operator_of t.class) x y))

pub put : (i : ℕ) (t : Token) (ys : List Token) (y : Expression) (r : Tree) → 2 ≤ i → i < 12 → Accepts (14 - i) t → Tells (opd (suc i)) ys y → Fine (rst i) r → Put i t ys y r
put i t ys y r k l a w v =
    let b = nat_lt i 4 in
    let known = operator_known i l k in
    let body = Terminal (14 - i) ∷ opd (suc i) ∷ Nonterminal (mark_by b) ∷ rst i ∷ [] in
    let f = And (Leaf t) (And w.tree (And (mark_tree b) (And r Empty))) in
    let g = more (Terminal (14 - i)) (opd (suc i) ∷ Nonterminal (mark_by b) ∷ rst i ∷ []) (Leaf t) (And w.tree (And (mark_tree b) (And r Empty))) (leaf (14 - i) t a)
    (more (opd (suc i)) (Nonterminal (mark_by b) ∷ rst i ∷ []) w.tree (And (mark_tree b) (And r Empty)) w.fine
    (more (Nonterminal (mark_by b)) (rst i ∷ []) (mark_tree b) (And r Empty) (marked b) (more (rst i) [] r Empty v none))) in
    record {
      tree = Node (3 * i + 6) f;
      fine = node (3 * i + 6) (2 * i + 3) body (means_by b) f known g;
      shown = ap (λ z. t ∷ (z ++ (leaves r ++ []))) w.shown ∙ ap (λ z. t ∷ (ys ++ z)) (append-nil (leaves r));
      told = λ x. reads (3 * i + 6) (2 * i + 3) body (means_by b) f (Done x) known ∙ says_made b t w.tree (mark_tree b) r x y w.told;
    }

after : (xs : List Token) (t : Token) (ys rs zs : List Token) → zs ≡ t ∷ (ys ++ rs) → xs ++ zs ≡ (xs ++ t ∷ ys) ++ rs
after xs t ys rs zs e = ap (λ z. xs ++ z) e ∙ sym (append_assoc xs (t ∷ ys) rs)

pub nested_more : (i : ℕ) (xs : List Token) (t : Token) (ys : List Token) (x y : Expression) → 2 ≤ i → i < 12 → Accepts (14 - i) t → Nested i xs x → Tells (opd (suc i)) ys y → Nested i (xs ++ t ∷ ys) (made (nat_lt i 4) (operator_of t.class) x y)
nested_more i xs t ys x y k l a n w = λ r f v h.
    let p = put i t ys y r k l a w v in
    retold (opd i) (xs ++ leaves p.tree) ((xs ++ t ∷ ys) ++ leaves r) f (after xs t ys (leaves r) (leaves p.tree) p.shown) (n p.tree f p.fine (p.told x ∙ h))

pub flat_more : (j : ℕ) (xs : List Token) (t : Token) (ys : List Token) (x y : Expression) → 2 ≤ suc j → suc j < 12 → Accepts (14 - suc j) t → Flat j xs x → Tells (opd (suc (suc j))) ys y → Flat j (xs ++ t ∷ ys) (made (nat_lt (suc j) 4) (operator_of t.class) x y)
flat_more j xs t ys x y k l a n w = λ r g f v u h.
    let p = put (suc j) t ys y r k l a w v in
    retold (Nonterminal 1) (xs ++ (leaves p.tree ++ all_leaves g)) ((xs ++ t ∷ ys) ++ (leaves r ++ all_leaves g)) f
    (after xs t ys (leaves r ++ all_leaves g) (leaves p.tree ++ all_leaves g) (ap (λ z. z ++ all_leaves g) p.shown ∙ ap (λ z. t ∷ z) (append_assoc ys (leaves r) (all_leaves g))))
    (n p.tree g f p.fine u (ap (through (readers g)) (p.told x) ∙ h))

-- ---- from a level to the looser one

abbrev pub nothing_tree : ℕ → Tree
nothing_tree i = Node (3 * i + 5) Empty

pub nothing_fine : (i : ℕ) → 1 ≤ i → i < 12 → Fine (rst i) (nothing_tree i)
nothing_fine i k l = blank (3 * i + 5) (2 * i + 3) kind.Rest (nothing_known i l k)

pub nothing_read : (i : ℕ) (x : Left) → 1 ≤ i → i < 12 → read (nothing_tree i) x ≡ x
nothing_read i x k l = reads (3 * i + 5) (2 * i + 3) [] kind.Rest Empty x (nothing_known i l k)

pub closed : (i : ℕ) (ts : List Token) (e : Expression) → 1 ≤ i → i < 12 → Nested i ts e → Tells (opd i) ts e
closed i ts e k l n = retold (opd i) (ts ++ []) ts e (append-nil ts) (n (nothing_tree i) e (nothing_fine i k l) (nothing_read i (Done e) k l))

-- an operand of the tighter level, and a rest
pub chained : (i : ℕ) (ts : List Token) (e : Expression) → 1 ≤ i → i < 12 → Tells (opd (suc i)) ts e → Nested i ts e
chained i ts e k l w = λ r f v h.
    let known = operand_known i l k in
    let c = And w.tree (And r Empty) in
    record {
      tree = Node (3 * i + 4) c;
      fine = node (3 * i + 4) (2 * i + 2) (opd (suc i) ∷ rst i ∷ []) kind.Chain c known (more (opd (suc i)) (rst i ∷ []) w.tree (And r Empty) w.fine (more (rst i) [] r Empty v none));
      shown = ap (λ z. z ++ (leaves r ++ [])) w.shown ∙ ap (λ z. ts ++ z) (append-nil (leaves r));
      told = reads (3 * i + 4) (2 * i + 2) (opd (suc i) ∷ rst i ∷ []) kind.Chain c Nothing known ∙ (ap (read r) w.told ∙ h);
    }

pub flattened : (j : ℕ) (ts : List Token) (e : Expression) → suc (suc j) < 12 → Flat (suc j) ts e → Flat j ts e
flattened j ts e l n = λ r g f v u h.
    n (nothing_tree (suc (suc j))) (And r g) f (nothing_fine (suc (suc j)) (omega arith) l) (more (rst (suc j)) (rests j) r g v u)
    (ap (λ x. through (readers g) (read r x)) (nothing_read (suc (suc j)) (Done e) (omega arith) l) ∙ h)
