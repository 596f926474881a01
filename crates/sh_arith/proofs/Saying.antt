-- What C's grammar writes, the text says.
use Rattle.std.proofs.Common.{◌≡◌, ℕ, zero, suc, ◌-◌, ◌<◌, ◌≤◌, Bool, true, false, List, [], ◌∷◌, ◌++◌, refl, sym, ap, ◌∙◌, subst, arith, rules, ⊎_elim}
use Rattle.std.specs.Prelude.{nat_lt}
use Rattle.std.proofs.lemmas.List.{append-nil}
use Rattle.sh_grammar.specs.declared.Token.{Token}
use Rattle.sh_grammar.specs.declared.Symbol.TheVariants.{Terminal, Nonterminal}
use Rattle.sh_grammar.specs.Grammar.{Tree, Leaf, Node, Empty, And, leaves}
use Rattle.sh_arith_grammar.specs.declared.grammar.Kind.TheVariants as kind
use Rattle.sh_arith_grammar.specs.Grammar.{arithmetic, arithmetic_grammar}
use Rattle.sh_arith_grammar.specs.Levels.{are_shallow, none_open}
use Rattle.sh_arith_grammar.specs.Lexical.{tokens_of}
use Rattle.sh_arith_grammar.specs.Precedence.{Before, Between, Deciding, Choosing, Assigning, Grouping, FromRight}
use Rattle.sh_arith_grammar.specs.Roles.{operator_of}
use Rattle.sh_arith.specs.Evaluation.{Says}
use Rattle.sh_arith.specs.Expression.{Expression, Zero, Number, Prefix, Binary, Logic, Choice, Assign}
use Rattle.sh_arith.specs.Reading.{Nothing, Named, Done, expression, read}
use Rattle.sh_arith.specs.Written.{IsOperator, IsWritten, Writes, first_level, last_level}
use Rattle.sh_arith.specs.Written as writes
use Rattle.sh_arith.proofs.Accepting.{assigning_range, before_range, between_range, choice_groups_right, choosing_range, closing_accepted, colon_accepted, deciding_range, groups_left, name_accepted, number_accepted, opening_accepted, operator_accepted}
use Rattle.sh_arith.proofs.Building.{Fine, blank, known_0, known_1, known_2, known_4, known_9, known_42, known_43, known_44, known_45, known_47, known_50, leaf, more, node, none, opd, reads, rst}
use Rattle.sh_arith.proofs.Constructing.{Accepts, Flat, Head, Nested, Tells, by_name, by_other, chained, closed, flat_more, flattened, head_flat, head_operand, made, nested_more, nothing_fine, nothing_read, nothing_tree, retold}

-- what is built of the levels: behind the first two, with rests to come
pub record Middle (j : ℕ) (ts : List Token) (e : Expression) : Type 0 where
  pub nested : Nested (suc (suc j)) ts e
  pub flat : Flat (suc j) ts e

pub record Low (ts : List Token) (e : Expression) : Type 0 where
  pub operand : Tells (opd 1) ts e
  pub whole : Tells (Nonterminal 1) ts e

abbrev Pick : Bool → Type 0 → Type 0 → Type 0
Pick true A B = A
Pick false A B = B

abbrev Built : ℕ → List Token → Expression → Type 0
Built zero ts e = Tells (Nonterminal 1) ts e
Built (suc zero) ts e = Low ts e
Built (suc (suc j)) ts e = Pick (nat_lt j 10) (Middle j ts e) (Pick (nat_lt j 12) (Head ts e) ⊥)

yes : (b : Bool) (A B : Type 0) → b ≡ true → Pick b A B → A
yes b A B e h = subst (λ x. Pick x A B) e h

no : (b : Bool) (A B : Type 0) → b ≡ false → Pick b A B → B
no b A B e h = subst (λ x. Pick x A B) e h

if_yes : (b : Bool) (A B : Type 0) → b ≡ true → A → Pick b A B
if_yes b A B e h = subst (λ x. Pick x A B) (sym e) h

if_no : (b : Bool) (A B : Type 0) → b ≡ false → B → Pick b A B
if_no b A B e h = subst (λ x. Pick x A B) (sym e) h

either_way : (b : Bool) (A : Type 0) → (b ≡ true → A) → (b ≡ false → A) → A
either_way true A f g = f refl
either_way false A f g = g refl

lower : (j : ℕ) → nat_lt (suc j) 10 ≡ true → nat_lt j 10 ≡ true
lower j h = let k : suc j < 10 = search (rules, h) in let l : j < 10 = omega (arith, k) in search (rules, l)

less : (j n : ℕ) → nat_lt j n ≡ true → j < n
less j n h = search (rules, h)

not_less : (j n : ℕ) → nat_lt j n ≡ false → n ≤ j
not_less j n h = search (rules, h)

is_less : (j n : ℕ) → j < n → nat_lt j n ≡ true
is_less j n h = search (rules, h)

is_not_less : (j n : ℕ) → n ≤ j → nat_lt j n ≡ false
is_not_less j n h = search (rules, h)

-- ---- the two loosest levels

low_with : (ts : List Token) (e f : Expression) (r : Tree) → Middle 0 ts e → Fine (rst 1) r → read r (Done e) ≡ Done f → Low (ts ++ leaves r) f
low_with ts e f r m v h =
    record {
      operand = chained 1 ts e (omega arith) (omega arith) (closed 2 ts e (omega arith) (omega arith) m.nested) r f v h;
      whole =
          retold (Nonterminal 1) (ts ++ (leaves r ++ [])) (ts ++ leaves r) f (ap (λ z. ts ++ z) (append-nil (leaves r)))
          (m.flat (nothing_tree 2) (And r Empty) f (nothing_fine 2 (omega arith) (omega arith)) (more (rst 1) [] r Empty v none)
          (ap (read r) (nothing_read 2 (Done e) (omega arith) (omega arith)) ∙ h));
    }

low : (ts : List Token) (e : Expression) → Middle 0 ts e → Low ts e
low ts e m =
    subst (λ z. Low z e) (append-nil ts)
    (low_with ts e e (nothing_tree 1) m (nothing_fine 1 (omega arith) (omega arith)) (nothing_read 1 (Done e) (omega arith) (omega arith)))

-- ---- from a level to the looser one

from_head : (ts : List Token) (e : Expression) → Head ts e → Middle 9 ts e
from_head ts e h = record { nested = chained 11 ts e (omega arith) (omega arith) (head_operand ts e h); flat = head_flat ts e h }

middle : (j : ℕ) (ts : List Token) (e : Expression) → suc j < 10 → Middle (suc j) ts e → Middle j ts e
middle j ts e l m =
    record {
      nested = chained (suc (suc j)) ts e (omega arith) (omega (arith, l)) (closed (suc (suc (suc j))) ts e (omega arith) (omega (arith, l)) m.nested);
      flat = flattened (suc j) ts e (omega (arith, l)) m.flat;
    }

at_nine : (j : ℕ) (ts : List Token) (e : Expression) → 9 ≡ j → Head ts e → Built (suc (suc j)) ts e
at_nine j ts e p h = subst (λ j. Built (suc (suc j)) ts e) p (from_head ts e h)

looser : (i : ℕ) (ts : List Token) (e : Expression) → Built (suc i) ts e → Built i ts e
looser zero ts e b = b.whole
looser (suc zero) ts e b = low ts e b
looser (suc (suc j)) ts e b =
    either_way (nat_lt (suc j) 10) _
    (λ d. if_yes (nat_lt j 10) (Middle j ts e) _ (lower j d) (middle j ts e (less (suc j) 10 d) (yes (nat_lt (suc j) 10) (Middle (suc j) ts e) _ d b)))
    (λ d. either_way (nat_lt (suc j) 12) _
    (λ f.
    let h : Head ts e = yes (nat_lt (suc j) 12) (Head ts e) ⊥ f (no (nat_lt (suc j) 10) (Middle (suc j) ts e) _ d b) in
    let k = not_less (suc j) 10 d in
    let l = less (suc j) 12 f in
    either_way (nat_lt j 10) _
    (λ g. let m = less j 10 g in let p : 9 ≡ j = omega (arith, k, m) in at_nine j ts e p h)
    (λ g. if_no (nat_lt j 10) (Middle j ts e) _ g (if_yes (nat_lt j 12) (Head ts e) ⊥ (is_less j 12 (omega (arith, l))) h)))
    (λ f. absurd (no (nat_lt (suc j) 12) (Head ts e) ⊥ f (no (nat_lt (suc j) 10) (Middle (suc j) ts e) _ d b))))

-- ---- operands

head_at : (ts : List Token) (e : Expression) → Built 12 ts e → Head ts e
head_at ts e b = b

middle_at : (j : ℕ) (ts : List Token) (e : Expression) → j < 10 → Built (suc (suc j)) ts e → Middle j ts e
middle_at j ts e l b = yes (nat_lt j 10) (Middle j ts e) _ (is_less j 10 l) b

operand_at : (j : ℕ) (ts : List Token) (e : Expression) → j ≤ 10 → Built (suc (suc j)) ts e → Tells (opd (suc (suc j))) ts e
operand_at j ts e l b =
    either_way (nat_lt j 10) _
    (λ d. closed (suc (suc j)) ts e (omega arith) (let k = less j 10 d in omega (arith, k)) (yes (nat_lt j 10) (Middle j ts e) _ d b).nested)
    (λ d. let k = not_less j 10 d in let p : 10 ≡ j = omega (arith, k, l) in subst (λ j. Tells (opd (suc (suc j))) ts e) p (head_operand ts e (subst (λ j. Built (suc (suc j)) ts e) (sym p) b)))

infix_at : (i : ℕ) (xs : List Token) (t : Token) (ys : List Token) (x y : Expression) → 2 ≤ i → i ≤ 11 → Accepts (14 - i) t → Built i xs x → Built (suc i) ys y → Built i (xs ++ t ∷ ys) (made (nat_lt i 4) (operator_of t.class) x y)
infix_at zero xs t ys x y k l a b c = absurd (omega (arith, k))
infix_at (suc zero) xs t ys x y k l a b c = absurd (omega (arith, k))
infix_at (suc (suc j)) xs t ys x y k l a b c =
    let m = middle_at j xs x (omega (arith, l)) b in
    let w = operand_at (suc j) ys y (omega (arith, l)) c in
    if_yes (nat_lt j 10) (Middle j (xs ++ t ∷ ys) (made (nat_lt (suc (suc j)) 4) (operator_of t.class) x y)) _ (is_less j 10 (omega (arith, l)))
    (record {
      nested = nested_more (suc (suc j)) xs t ys x y k (omega (arith, l)) a m.nested w;
      flat = flat_more (suc j) xs t ys x y k (omega (arith, l)) a m.flat w;
    })

-- ---- the other forms

choice : (xs : List Token) (t : Token) (ys : List Token) (u : Token) (zs : List Token) (x y z : Expression) → Accepts 13 t → Accepts 15 u → Middle 0 xs x → Tells (Nonterminal 1) ys y → Low zs z → Low (xs ++ t ∷ (ys ++ u ∷ zs)) (Choice x y z)
choice xs t ys u zs x y z a b m v low_z =
    let w = low_z.operand in
    let f5 = And (Node 47 Empty) Empty in
    let f4 = And w.tree f5 in
    let f3 = And (Leaf u) f4 in
    let f2 = And v.tree f3 in
    let f1 = And (Leaf t) f2 in
    let body = Terminal 13 ∷ Nonterminal 1 ∷ Terminal 15 ∷ Nonterminal 4 ∷ Nonterminal 30 ∷ [] in
    let g = more (Terminal 13) (Nonterminal 1 ∷ Terminal 15 ∷ Nonterminal 4 ∷ Nonterminal 30 ∷ []) (Leaf t) f2 (leaf 13 t a)
    (more (Nonterminal 1) (Terminal 15 ∷ Nonterminal 4 ∷ Nonterminal 30 ∷ []) v.tree f3 v.fine
    (more (Terminal 15) (Nonterminal 4 ∷ Nonterminal 30 ∷ []) (Leaf u) f4 (leaf 15 u b)
    (more (Nonterminal 4) (Nonterminal 30 ∷ []) w.tree f5 w.fine
    (more (Nonterminal 30) [] (Node 47 Empty) Empty (blank 47 30 kind.Join known_47) none)))) in
    subst (λ l. Low (xs ++ t ∷ l) (Choice x y z)) (ap (λ l. l ++ u ∷ (leaves w.tree ++ [])) v.shown ∙ ap (λ l. ys ++ u ∷ l) (append-nil (leaves w.tree) ∙ w.shown))
    (low_with xs x (Choice x y z) (Node 9 f1) m (node 9 5 body kind.Chooses f1 known_9 g)
    (reads 9 5 body kind.Chooses f1 (Done x) known_9
    ∙ (ap (λ l. Done (Choice x (expression l) (expression (read w.tree Nothing)))) v.told
    ∙ ap (λ l. Done (Choice x y (expression l))) w.told)))

assignment : (t u : Token) (ys : List Token) (y : Expression) → Accepts 1 t → Accepts 14 u → Tells (Nonterminal 1) ys y → Tells (Nonterminal 1) (t ∷ u ∷ ys) (Assign (operator_of u.class) t.id y)
assignment t u ys y a b v =
    let f3 = And (Node 45 Empty) Empty in
    let f2 = And v.tree f3 in
    let f1 = And (Leaf u) f2 in
    let body = Terminal 14 ∷ Nonterminal 1 ∷ Nonterminal 28 ∷ [] in
    let g = more (Terminal 14) (Nonterminal 1 ∷ Nonterminal 28 ∷ []) (Leaf u) f2 (leaf 14 u b)
    (more (Nonterminal 1) (Nonterminal 28 ∷ []) v.tree f3 v.fine (more (Nonterminal 28) [] (Node 45 Empty) Empty (blank 45 28 kind.Store known_45) none)) in
    let c = And (Leaf t) (And (Node 4 f1) Empty) in
    record {
      tree = Node 2 c;
      fine = node 2 1 (Terminal 1 ∷ Nonterminal 2 ∷ []) kind.Named c known_2 (more (Terminal 1) (Nonterminal 2 ∷ []) (Leaf t) (And (Node 4 f1) Empty) (leaf 1 t a) (more (Nonterminal 2) [] (Node 4 f1) Empty (node 4 2 body kind.Assigns f1 known_4 g) none));
      shown = ap (λ z. t ∷ z) (append-nil (u ∷ (leaves v.tree ++ [])) ∙ ap (λ z. u ∷ z) (append-nil (leaves v.tree) ∙ v.shown));
      told =
          reads 2 1 (Terminal 1 ∷ Nonterminal 2 ∷ []) kind.Named c Nothing known_2
          ∙ (reads 4 2 body kind.Assigns f1 (Named t.id) known_4 ∙ ap (λ l. Done (Assign (operator_of u.class) t.id (expression l))) v.told);
    }

prefixed : (t : Token) (ts : List Token) (x : Expression) → Accepts 2 t → Head ts x → Head (t ∷ ts) (Prefix (operator_of t.class) x)
prefixed t ts x a h =
    let v = head_operand ts x h in
    let f3 = And (Node 50 Empty) Empty in
    let f2 = And v.tree f3 in
    let f1 = And (Leaf t) f2 in
    let body = Terminal 2 ∷ Nonterminal 26 ∷ Nonterminal 33 ∷ [] in
    by_other (t ∷ ts) (Prefix (operator_of t.class) x)
    (record {
      tree = Node 44 f1;
      fine = node 44 27 body kind.Prefix f1 known_44 (more (Terminal 2) (Nonterminal 26 ∷ Nonterminal 33 ∷ []) (Leaf t) f2 (leaf 2 t a) (more (Nonterminal 26) (Nonterminal 33 ∷ []) v.tree f3 v.fine (more (Nonterminal 33) [] (Node 50 Empty) Empty (blank 50 33 kind.Turn known_50) none)));
      shown = ap (λ z. t ∷ z) (append-nil (leaves v.tree) ∙ v.shown);
      told = reads 44 27 body kind.Prefix f1 Nothing known_44 ∙ ap (λ l. Done (Prefix (operator_of t.class) (expression l))) v.told;
    })

enclosed : (t u : Token) (ts : List Token) (x : Expression) → Accepts 16 t → Accepts 17 u → Tells (Nonterminal 1) ts x → Head (t ∷ (ts ++ u ∷ [])) x
enclosed t u ts x a b v =
    let f3 = And (Leaf u) Empty in
    let f2 = And v.tree f3 in
    let f1 = And (Leaf t) f2 in
    let body = Terminal 16 ∷ Nonterminal 1 ∷ Terminal 17 ∷ [] in
    by_other (t ∷ (ts ++ u ∷ [])) x
    (record {
      tree = Node 43 f1;
      fine = node 43 27 body kind.Within f1 known_43 (more (Terminal 16) (Nonterminal 1 ∷ Terminal 17 ∷ []) (Leaf t) f2 (leaf 16 t a) (more (Nonterminal 1) (Terminal 17 ∷ []) v.tree f3 v.fine (more (Terminal 17) [] (Leaf u) Empty (leaf 17 u b) none)));
      shown = ap (λ z. t ∷ (z ++ u ∷ [])) v.shown;
      told = reads 43 27 body kind.Within f1 Nothing known_43 ∙ v.told;
    })

numbered : (t : Token) → Accepts 0 t → Head (t ∷ []) (Number t.id)
numbered t a =
    by_other (t ∷ []) (Number t.id)
    (record {
      tree = Node 42 (And (Leaf t) Empty);
      fine = node 42 27 (Terminal 0 ∷ []) kind.Number (And (Leaf t) Empty) known_42 (more (Terminal 0) [] (Leaf t) Empty (leaf 0 t a) none);
      shown = refl;
      told = reads 42 27 (Terminal 0 ∷ []) kind.Number (And (Leaf t) Empty) Nothing known_42;
    })

-- ---- all of them

is_binary : (i : ℕ) (g : Grouping) (xs : List Token) (t : Token) (ys : List Token) (x y : Expression) → IsOperator i Between g t → Built (first_level g i) xs x → Built (last_level g i) ys y → Built i (xs ++ t ∷ ys) (Binary (operator_of t.class) x y)
is_binary i g xs t ys x y o b c =
    let l = between_range i g t o in
    let k : 2 ≤ i = omega (arith, l.0) in
    let p = groups_left i Between g t k l.1 o in
    let w = subst (λ g. Built (first_level g i) xs x) (sym p) b in
    let v = subst (λ g. Built (last_level g i) ys y) (sym p) c in
    subst (λ z. Built i (xs ++ t ∷ ys) (made z (operator_of t.class) x y)) (is_not_less i 4 l.0) (infix_at i xs t ys x y k l.1 (operator_accepted i Between g t o) w v)

is_logic : (i : ℕ) (g : Grouping) (xs : List Token) (t : Token) (ys : List Token) (x y : Expression) → IsOperator i Deciding g t → Built (first_level g i) xs x → Built (last_level g i) ys y → Built i (xs ++ t ∷ ys) (Logic (operator_of t.class) x y)
is_logic i g xs t ys x y o b c =
    let l = deciding_range i g t o in
    let m : i ≤ 11 = omega (arith, l.1) in
    let n : i < 4 = omega (arith, l.1) in
    let p = groups_left i Deciding g t l.0 m o in
    let w = subst (λ g. Built (first_level g i) xs x) (sym p) b in
    let v = subst (λ g. Built (last_level g i) ys y) (sym p) c in
    subst (λ z. Built i (xs ++ t ∷ ys) (made z (operator_of t.class) x y)) (is_less i 4 n) (infix_at i xs t ys x y l.0 m (operator_accepted i Deciding g t o) w v)

choice_one : (g : Grouping) (xs : List Token) (t : Token) (ys : List Token) (u : Token) (zs : List Token) (x y z : Expression) → IsOperator 1 Choosing g t → Accepts 15 u → Built (first_level g 1) xs x → Built 0 ys y → Built (last_level g 1) zs z → Built 1 (xs ++ t ∷ (ys ++ u ∷ zs)) (Choice x y z)
choice_one g xs t ys u zs x y z o a b c d =
    let p = choice_groups_right g t o in
    choice xs t ys u zs x y z (operator_accepted 1 Choosing g t o) a (subst (λ g. Built (first_level g 1) xs x) (sym p) b) c (subst (λ g. Built (last_level g 1) zs z) (sym p) d)

is_choice : (i : ℕ) (g : Grouping) (xs : List Token) (t : Token) (ys : List Token) (u : Token) (zs : List Token) (x y z : Expression) → IsOperator i Choosing g t → Accepts 15 u → Built (first_level g i) xs x → Built 0 ys y → Built (last_level g i) zs z → Built i (xs ++ t ∷ (ys ++ u ∷ zs)) (Choice x y z)
is_choice i g xs t ys u zs x y z o a b c d =
    let l = choosing_range i g t o in
    let p : 1 ≡ i = omega (arith, l.0, l.1) in
    subst (λ i. IsOperator i Choosing g t → Built (first_level g i) xs x → Built (last_level g i) zs z → Built i (xs ++ t ∷ (ys ++ u ∷ zs)) (Choice x y z)) p (λ o b d. choice_one g xs t ys u zs x y z o a b c d) o b d

is_assignment : (i : ℕ) (t u : Token) (ys : List Token) (y : Expression) → Accepts 1 t → IsOperator i Assigning FromRight u → Built i ys y → Built i (t ∷ u ∷ ys) (Assign (operator_of u.class) t.id y)
is_assignment i t u ys y a o b =
    let l = assigning_range i FromRight u o in
    let p : 0 ≡ i = omega (arith, l.0, l.1) in
    subst (λ i. IsOperator i Assigning FromRight u → Built i ys y → Built i (t ∷ u ∷ ys) (Assign (operator_of u.class) t.id y)) p (λ o b. assignment t u ys y a (operator_accepted 0 Assigning FromRight u o) b) o b

is_prefix : (i : ℕ) (t : Token) (ts : List Token) (x : Expression) → IsOperator i Before FromRight t → Built i ts x → Built i (t ∷ ts) (Prefix (operator_of t.class) x)
is_prefix i t ts x o b =
    let l = before_range i FromRight t o in
    let p : 12 ≡ i = omega (arith, l.0, l.1) in
    subst (λ i. IsOperator i Before FromRight t → Built i ts x → Built i (t ∷ ts) (Prefix (operator_of t.class) x)) p (λ o b. prefixed t ts x (operator_accepted 12 Before FromRight t o) b) o b

built : (i : ℕ) (ts : List Token) (e : Expression) → Writes i ts e → Built i ts e
built i ts e (writes.constant t r) = numbered t (number_accepted t r)
built i ts e (writes.name t r) = by_name t (name_accepted t r)
built i ts e (writes.parentheses t u tokens x r q w) = enclosed t u tokens x (opening_accepted t r) (closing_accepted u q) (built 0 tokens x w)
built i ts e (writes.tighter j tokens x w) = looser j tokens x (built (suc j) tokens x w)
built i ts e (writes.before j t tokens x o w) = is_prefix j t tokens x o (built j tokens x w)
built i ts e (writes.between j g xs t ys x y o w v) = is_binary j g xs t ys x y o (built (first_level g j) xs x w) (built (last_level g j) ys y v)
built i ts e (writes.deciding j g xs t ys x y o w v) = is_logic j g xs t ys x y o (built (first_level g j) xs x w) (built (last_level g j) ys y v)
built i ts e (writes.choosing j g xs t ys u zs x y z o r w v q) = is_choice j g xs t ys u zs x y z o (colon_accepted u r) (built (first_level g j) xs x w) (built 0 ys y v) (built (last_level g j) zs z q)
built i ts e (writes.assigning j t u ys y r o w) = is_assignment j t u ys y (name_accepted t r) o (built j ys y w)

said_by : (text : List ℕ) (e : Expression) → Tells (Nonterminal 0) (tokens_of text) e → are_shallow none_open (tokens_of text) ≡ true → Says text e
unfolding arithmetic arithmetic_grammar
said_by text e v s = record { tree = v.tree; derives = record { shape = v.fine.good 38 (omega arith); text = v.shown }; says = ap expression v.told; shallow = s }

pub says_written : (text : List ℕ) (e : Expression) → IsWritten (tokens_of text) e → are_shallow none_open (tokens_of text) ≡ true → Says text e
says_written text e h s =
    ⊎_elim
    (λ (p : (tokens_of text ≡ []) × (e ≡ Zero)).
    said_by text e (record { tree = Node 0 Empty; fine = blank 0 0 kind.Zero known_0; shown = sym p.0; told = reads 0 0 [] kind.Zero Empty Nothing known_0 ∙ ap Done (sym p.1) }) s)
    (λ (w : Writes 0 (tokens_of text) e).
    let v = built 0 (tokens_of text) e w in
    said_by text e
    (record {
      tree = Node 1 (And v.tree Empty);
      fine = node 1 0 (Nonterminal 1 ∷ []) kind.Chain (And v.tree Empty) known_1 (more (Nonterminal 1) [] v.tree Empty v.fine none);
      shown = append-nil (leaves v.tree) ∙ v.shown;
      told = reads 1 0 (Nonterminal 1 ∷ []) kind.Chain (And v.tree Empty) Nothing known_1 ∙ v.told;
    }) s)
    h
