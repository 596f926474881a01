-- What a text says is what C's grammar writes.
use Rattle.std.proofs.Common.{◌≡◌, ℕ, zero, suc, ◌-◌, ◌<◌, true, List, [], ◌∷◌, ◌++◌, refl, sym, ap, ◌∙◌, subst, append_assoc, inl, inr, Some, map, arith}
use Rattle.std.specs.Prelude.{Bool, slice_get, get_or}
use Rattle.std.proofs.lemmas.List.{append-nil}
use Rattle.sh_grammar.specs.declared.Token.{Token}
use Rattle.sh_grammar.specs.declared.Symbol.{Symbol}
use Rattle.sh_grammar.specs.declared.Symbol.TheVariants.{Terminal, Nonterminal}
use Rattle.sh_grammar.specs.Grammar.{Rule, Tree, Forest, Leaf, Node, Empty, And, IsTree, AreTrees, leaves, all_leaves}
use Rattle.sh_grammar.specs.Passes.{all_below, implies}
use Rattle.sh_grammar.specs.Tabulation.{has, rules_of}
use Rattle.sh_arith_grammar.specs.declared.grammar.Kind.{Kind}
use Rattle.sh_arith_grammar.specs.declared.grammar.Kind.TheVariants as kind
use Rattle.sh_arith_grammar.specs.declared.operators.Role.{Role}
use Rattle.sh_arith_grammar.specs.declared.operators.Role.TheVariants as role
use Rattle.sh_arith_grammar.specs.Grammar.{arithmetic, arithmetic_grammar}
use Rattle.sh_arith_grammar.specs.Lexical.{tokens_of}
use Rattle.sh_arith_grammar.specs.Precedence.{Sign, Position, Before, Between, Deciding, Choosing, Assigning, Grouping, FromLeft, FromRight, level, levels}
use Rattle.sh_arith_grammar.specs.Productions.{Production, productions}
use Rattle.sh_arith_grammar.specs.Roles.{kind_of, kinds, nth, operator_of, role_of}
use Rattle.sh_arith_grammar.proofs.Computed.{below_at, has_class, then_true}
use Rattle.sh_arith_grammar.proofs.Shape.{role_known, sig}
use Rattle.sh_arith_grammar.proofs.Sig.{Sig, Value, After, Target, DoMark, TurnMark, DecideMark, JoinMark, StoreMark, Shows, TERMINAL_SORTS}
use Rattle.sh_arith.specs.Evaluation.{Says}
use Rattle.sh_arith.specs.Expression.{Expression, Zero, Number, Name, Prefix, Binary, Logic, Choice, Assign}
use Rattle.sh_arith.specs.Reading.{Left, Nothing, Named, Done, expression, first_token, name, through, says, read, readers}
use Rattle.sh_arith.specs.Written.{IsOperator, IsWritten, Writes, first_level, is_listed}
use Rattle.sh_arith.specs.Written as writes
use Rattle.sh_arith.proofs.Sorts.{Sort, Whole, Loosest, AfterName, AfterOperand, Operand, Rest, Mark, LoadMark, Shown, sort, sorts}

-- the class is one of a terminal's
abbrev Accepts : ℕ → ℕ → Type 0
Accepts k c = arithmetic_grammar.accepts k c ≡ true

-- ---- what a tree of a sort is read as

abbrev Q : Sort → (Left → Left) → List Token → Type 0
Q Whole r ts = (e : Expression) × (r Nothing ≡ Done e) × IsWritten ts e
Q Loosest r ts = (e : Expression) × (r Nothing ≡ Done e) × Writes 0 ts e
Q AfterName r ts = (n : Token) → role_of n.class ≡ role.Name → (e : Expression) × (r (Named n.id) ≡ Done e) × Writes 0 (n ∷ ts) e
Q AfterOperand r ts = (xs : List Token) (x : Expression) → Writes 12 xs x → (e : Expression) × (r (Done x) ≡ Done e) × Writes 0 (xs ++ ts) e
Q (Operand i) r ts = (e : Expression) × (r Nothing ≡ Done e) × Writes i ts e
Q (Rest g i) r ts = (xs : List Token) (x : Expression) → Writes (first_level g i) xs x → (e : Expression) × (r (Done x) ≡ Done e) × Writes i (xs ++ ts) e
Q Mark r ts = ((l : Left) → r l ≡ l) × (ts ≡ [])
Q LoadMark r ts = ((l : Left) → r l ≡ Done (Name (name l))) × (ts ≡ [])
Q (Shown k) r ts = ⊥

abbrev R : Sort → Tree → Type 0
R (Shown k) (Leaf u) = Accepts k u.class
R (Shown k) (Node p c) = ⊥
R Whole t = Q Whole (read t) (leaves t)
R Loosest t = Q Loosest (read t) (leaves t)
R AfterName t = Q AfterName (read t) (leaves t)
R AfterOperand t = Q AfterOperand (read t) (leaves t)
R (Operand i) t = Q (Operand i) (read t) (leaves t)
R (Rest g i) t = Q (Rest g i) (read t) (leaves t)
R Mark t = Q Mark (read t) (leaves t)
R LoadMark t = Q LoadMark (read t) (leaves t)

abbrev AllR : List Sort → Forest → Type 0
AllR [] Empty = Unit {0}
AllR (s ∷ body) (And x others) = R s x × AllR body others
AllR [] (And x others) = ⊥
AllR (s ∷ body) Empty = ⊥

abbrev Case : Sort → List Sort → Kind → Type 0
Case s body k = (c : Forest) → AllR body c → Q s (says k (first_token c) (readers c)) (all_leaves c)

-- ---- what the tokens of a terminal are

abbrev role_in : Sig → Role
role_in (Shows r) = r
role_in Value = role.Nothing
role_in After = role.Nothing
role_in Target = role.Nothing
role_in DoMark = role.Nothing
role_in TurnMark = role.Nothing
role_in DecideMark = role.Nothing
role_in JoinMark = role.Nothing
role_in StoreMark = role.Nothing

known : (k c : ℕ) → Accepts k c → role_of c ≡ role_in (sig (Terminal k))
unfolding arithmetic_grammar arithmetic
known k c h = ap role_in (role_known k c h)

constant_known : (c : ℕ) → Accepts 0 c → role_of c ≡ role.Number
unfolding TERMINAL_SORTS
constant_known c h = known 0 c h

name_known : (c : ℕ) → Accepts 1 c → role_of c ≡ role.Name
unfolding TERMINAL_SORTS
name_known c h = known 1 c h

colon_known : (c : ℕ) → Accepts 15 c → role_of c ≡ role.Colon
unfolding TERMINAL_SORTS
colon_known c h = known 15 c h

opening_known : (c : ℕ) → Accepts 16 c → role_of c ≡ role.Opening
unfolding TERMINAL_SORTS
opening_known c h = known 16 c h

closing_known : (c : ℕ) → Accepts 17 c → role_of c ≡ role.Closing
unfolding TERMINAL_SORTS
closing_known c h = known 17 c h

abbrev signs_of : ℕ → List Sign
signs_of i = (get_or levels i (level Before FromRight [])).signs

abbrev listed_at : ℕ → ℕ → Bool
listed_at c i = implies (has arithmetic.ending arithmetic.terminals (14 - i) c) (is_listed c (signs_of i))

all_listed : all_below (λ c. all_below (listed_at c) 13) (suc arithmetic.ending) ≡ true
unfolding arithmetic
all_listed = refl

operator : (i : ℕ) (p : Position) (g : Grouping) → i < 13 → slice_get levels i ≡ Some (level p g (signs_of i)) → (t : Token) → Accepts (14 - i) t.class → IsOperator i p g t
unfolding arithmetic_grammar
operator i p g l e t h =
    record {
      signs = signs_of i;
      there = e;
      listed = then_true _ _ (below_at (listed_at t.class) 13 i (below_at (λ c. all_below (listed_at c) 13) (suc arithmetic.ending) t.class all_listed (has_class arithmetic.ending arithmetic.terminals (14 - i) t.class h)) l) h;
    }

-- ---- lists of tokens

moved : (i : ℕ) (e : Expression) (xs ys : List Token) → xs ≡ ys → Writes i xs e → Writes i ys e
moved i e xs ys p w = subst (λ z. Writes i z e) p w

no_more : (ys ms : List Token) → ms ≡ [] → ys ≡ ys ++ (ms ++ [])
no_more ys ms e = sym (ap (λ m. ys ++ (m ++ [])) e ∙ append-nil ys)

last_of : (xs ys : List Token) → xs ++ ys ≡ xs ++ (ys ++ [])
last_of xs ys = ap (λ z. xs ++ z) (sym (append-nil ys))

joined : (xs : List Token) (t : Token) (ys ms rs : List Token) → ms ≡ [] → (xs ++ t ∷ ys) ++ rs ≡ xs ++ t ∷ (ys ++ (ms ++ (rs ++ [])))
joined xs t ys ms rs e = append_assoc xs (t ∷ ys) rs ∙ ap (λ z. xs ++ t ∷ (ys ++ z)) (sym (ap (λ m. m ++ (rs ++ [])) e ∙ append-nil rs))

-- ---- levels

enter : (g : Grouping) (i : ℕ) (ts : List Token) (e : Expression) → Writes (suc i) ts e → Writes (first_level g i) ts e
enter FromLeft i ts e w = writes.tighter i ts e w
enter FromRight i ts e w = w

leave : (g : Grouping) (i : ℕ) (ts : List Token) (e : Expression) → Writes (first_level g i) ts e → Writes i ts e
leave FromLeft i ts e w = w
leave FromRight i ts e w = writes.tighter i ts e w

-- ---- the productions

blank : Case Whole [] kind.Zero
blank Empty h = (Zero, refl, inl (refl, refl))
blank (And v f) h = absurd h

whole : Case Whole (Loosest ∷ []) kind.Chain
whole (And x Empty) h = (h.0.0, h.0.1, inr (moved 0 h.0.0 (leaves x) (leaves x ++ []) (sym (append-nil (leaves x))) h.0.2))
whole Empty h = absurd h
whole (And x (And v f)) h = absurd h.1

named : Case Loosest (Shown 1 ∷ AfterName ∷ []) kind.Named
named (And (Leaf n) (And a Empty)) h =
    let q = h.1.0 n (name_known n.class h.0) in
    (q.0, q.1, moved 0 q.0 (n ∷ leaves a) (n ∷ (leaves a ++ [])) (last_of (n ∷ []) (leaves a)) q.2)
named Empty h = absurd h
named (And (Node p c) f) h = absurd h.0
named (And (Leaf n) Empty) h = absurd h.1
named (And (Leaf n) (And a (And v f))) h = absurd h.1.1

other : Case Loosest (Operand 12 ∷ AfterOperand ∷ []) kind.Chain
other (And x (And a Empty)) h =
    let q = h.1.0 (leaves x) h.0.0 h.0.2 in
    (q.0, ap (read a) h.0.1 ∙ q.1, moved 0 q.0 (leaves x ++ leaves a) (leaves x ++ (leaves a ++ [])) (last_of (leaves x) (leaves a)) q.2)
other Empty h = absurd h
other (And x Empty) h = absurd h.1
other (And x (And a (And v f))) h = absurd h.1.1

assigns : Case AfterName (Shown 14 ∷ Loosest ∷ Mark ∷ []) kind.Assigns
assigns (And (Leaf t) (And y (And m Empty))) h = λ n k.
    let q = h.1.0 in
    let e = Assign (operator_of t.class) n.id q.0 in
    (e, ap (λ v. Done (Assign (operator_of t.class) n.id (expression v))) q.1, moved 0 e (n ∷ t ∷ leaves y) (n ∷ t ∷ (leaves y ++ (leaves m ++ []))) (ap (λ z. n ∷ t ∷ z) (no_more (leaves y) (leaves m) h.1.1.0.1)) (writes.assigning 0 n t (leaves y) q.0 k (operator 0 Assigning FromRight (omega arith) refl t h.0) q.2))
assigns Empty h = absurd h
assigns (And (Node p c) f) h = absurd h.0
assigns (And (Leaf t) Empty) h = absurd h.1
assigns (And (Leaf t) (And y Empty)) h = absurd h.1.1
assigns (And (Leaf t) (And y (And m (And v f)))) h = absurd h.1.1.1

takes : Case AfterName (LoadMark ∷ AfterOperand ∷ []) kind.Takes
takes (And l (And a Empty)) h = λ n k.
    let q = h.1.0 (n ∷ []) (Name n.id) (writes.tighter 12 (n ∷ []) (Name n.id) (writes.name n k)) in
    (q.0, ap (read a) (h.0.0 (Named n.id)) ∙ q.1, moved 0 q.0 (n ∷ leaves a) (n ∷ (leaves l ++ (leaves a ++ []))) (ap (λ z. n ∷ z) (sym (ap (λ z. z ++ (leaves a ++ [])) h.0.1 ∙ append-nil (leaves a)))) q.2)
takes Empty h = absurd h
takes (And l Empty) h = absurd h.1
takes (And l (And a (And v f))) h = absurd h.1.1

abbrev grouping_of : ℕ → Grouping
grouping_of i = (get_or levels i (level Before FromRight [])).grouping

abbrev rest_sorts : ℕ → List Sort
rest_sorts zero = []
rest_sorts (suc i) = Rest (grouping_of (suc i)) (suc i) ∷ rest_sorts i

along : (i : ℕ) (c : Forest) → AllR (rest_sorts i) c → (xs : List Token) (x : Expression) → Writes (suc i) xs x → (e : Expression) × (through (readers c) (Done x) ≡ Done e) × Writes 1 (xs ++ all_leaves c) e
along zero Empty h = λ xs x w. (x, refl, moved 1 x xs (xs ++ []) (sym (append-nil xs)) w)
along zero (And y f) h = absurd h
along (suc i) Empty h = absurd h
along (suc i) (And y f) h = λ xs x w.
    let q = h.0 xs x (enter (grouping_of (suc i)) (suc i) xs x w) in
    let s = along i f h.1 (xs ++ leaves y) q.0 q.2 in
    (s.0, ap (through (readers f)) q.1 ∙ s.1, moved 1 s.0 ((xs ++ leaves y) ++ all_leaves f) (xs ++ (leaves y ++ all_leaves f)) (append_assoc xs (leaves y) (all_leaves f)) s.2)

tail : Case AfterOperand (rest_sorts 11) kind.Rest
tail c h = λ xs x w. let s = along 11 c h xs x w in (s.0, s.1, writes.tighter 0 (xs ++ all_leaves c) s.0 s.2)

chain : (i : ℕ) (g : Grouping) → Case (Operand i) (Operand (suc i) ∷ Rest g i ∷ []) kind.Chain
chain i g (And x (And r Empty)) h =
    let q = h.1.0 (leaves x) h.0.0 (enter g i (leaves x) h.0.0 h.0.2) in
    (q.0, ap (read r) h.0.1 ∙ q.1, moved i q.0 (leaves x ++ leaves r) (leaves x ++ (leaves r ++ [])) (last_of (leaves x) (leaves r)) q.2)
chain i g Empty h = absurd h
chain i g (And x Empty) h = absurd h.1
chain i g (And x (And r (And v f))) h = absurd h.1.1

no_rest : (i : ℕ) (g : Grouping) → Case (Rest g i) [] kind.Rest
no_rest i g Empty h = λ xs x w. (x, refl, moved i x xs (xs ++ []) (sym (append-nil xs)) (leave g i xs x w))
no_rest i g (And v f) h = absurd h

binary : (i k : ℕ) → ((t : Token) → Accepts k t.class → IsOperator i Between FromLeft t) → Case (Rest FromLeft i) (Shown k ∷ Operand (suc i) ∷ Mark ∷ Rest FromLeft i ∷ []) kind.Binary
binary i k at (And (Leaf t) (And y (And m (And r Empty)))) h = λ xs x w.
    let q = h.1.0 in
    let e = Binary (operator_of t.class) x q.0 in
    let s = h.1.1.1.0 (xs ++ t ∷ leaves y) e (writes.between i FromLeft xs t (leaves y) x q.0 (at t h.0) w q.2) in
    (s.0, ap (λ v. read r (Done (Binary (operator_of t.class) x (expression v)))) q.1 ∙ s.1, moved i s.0 ((xs ++ t ∷ leaves y) ++ leaves r) (xs ++ t ∷ (leaves y ++ (leaves m ++ (leaves r ++ [])))) (joined xs t (leaves y) (leaves m) (leaves r) h.1.1.0.1) s.2)
binary i k at Empty h = absurd h
binary i k at (And (Node p c) f) h = absurd h.0
binary i k at (And (Leaf t) Empty) h = absurd h.1
binary i k at (And (Leaf t) (And y Empty)) h = absurd h.1.1
binary i k at (And (Leaf t) (And y (And m Empty))) h = absurd h.1.1.1
binary i k at (And (Leaf t) (And y (And m (And r (And v f))))) h = absurd h.1.1.1.1

logic : (i k : ℕ) → ((t : Token) → Accepts k t.class → IsOperator i Deciding FromLeft t) → Case (Rest FromLeft i) (Shown k ∷ Operand (suc i) ∷ Mark ∷ Rest FromLeft i ∷ []) kind.Logic
logic i k at (And (Leaf t) (And y (And m (And r Empty)))) h = λ xs x w.
    let q = h.1.0 in
    let e = Logic (operator_of t.class) x q.0 in
    let s = h.1.1.1.0 (xs ++ t ∷ leaves y) e (writes.deciding i FromLeft xs t (leaves y) x q.0 (at t h.0) w q.2) in
    (s.0, ap (λ v. read r (Done (Logic (operator_of t.class) x (expression v)))) q.1 ∙ s.1, moved i s.0 ((xs ++ t ∷ leaves y) ++ leaves r) (xs ++ t ∷ (leaves y ++ (leaves m ++ (leaves r ++ [])))) (joined xs t (leaves y) (leaves m) (leaves r) h.1.1.0.1) s.2)
logic i k at Empty h = absurd h
logic i k at (And (Node p c) f) h = absurd h.0
logic i k at (And (Leaf t) Empty) h = absurd h.1
logic i k at (And (Leaf t) (And y Empty)) h = absurd h.1.1
logic i k at (And (Leaf t) (And y (And m Empty))) h = absurd h.1.1.1
logic i k at (And (Leaf t) (And y (And m (And r (And v f))))) h = absurd h.1.1.1.1

choice : Case (Rest FromRight 1) (Shown 13 ∷ Loosest ∷ Shown 15 ∷ Operand 1 ∷ Mark ∷ []) kind.Chooses
choice (And (Leaf t) (And y (And (Leaf u) (And z (And m Empty))))) h = λ xs x w.
    let q = h.1.0 in
    let s = h.1.1.1.0 in
    let e = Choice x q.0 s.0 in
    (e, ap (λ v. Done (Choice x (expression v) (expression (read z Nothing)))) q.1 ∙ ap (λ v. Done (Choice x q.0 (expression v))) s.1, moved 1 e (xs ++ t ∷ (leaves y ++ u ∷ leaves z)) (xs ++ t ∷ (leaves y ++ u ∷ (leaves z ++ (leaves m ++ [])))) (ap (λ v. xs ++ t ∷ (leaves y ++ u ∷ v)) (no_more (leaves z) (leaves m) h.1.1.1.1.0.1)) (writes.choosing 1 FromRight xs t (leaves y) u (leaves z) x q.0 s.0 (operator 1 Choosing FromRight (omega arith) refl t h.0) (colon_known u.class h.1.1.0) w q.2 s.2))
choice Empty h = absurd h
choice (And (Node p c) f) h = absurd h.0
choice (And (Leaf t) Empty) h = absurd h.1
choice (And (Leaf t) (And y Empty)) h = absurd h.1.1
choice (And (Leaf t) (And y (And (Node p c) f))) h = absurd h.1.1.0
choice (And (Leaf t) (And y (And (Leaf u) Empty))) h = absurd h.1.1.1
choice (And (Leaf t) (And y (And (Leaf u) (And z Empty)))) h = absurd h.1.1.1.1
choice (And (Leaf t) (And y (And (Leaf u) (And z (And m (And v f)))))) h = absurd h.1.1.1.1.1

name_operand : Case (Operand 12) (Shown 1 ∷ LoadMark ∷ []) kind.Named
name_operand (And (Leaf n) (And l Empty)) h = (Name n.id, h.1.0.0 (Named n.id), moved 12 (Name n.id) (n ∷ []) (n ∷ (leaves l ++ [])) (no_more (n ∷ []) (leaves l) h.1.0.1) (writes.tighter 12 (n ∷ []) (Name n.id) (writes.name n (name_known n.class h.0))))
name_operand Empty h = absurd h
name_operand (And (Node p c) f) h = absurd h.0
name_operand (And (Leaf n) Empty) h = absurd h.1
name_operand (And (Leaf n) (And l (And v f))) h = absurd h.1.1

same_operand : Case (Operand 12) (Operand 12 ∷ []) kind.Chain
same_operand (And x Empty) h = (h.0.0, h.0.1, moved 12 h.0.0 (leaves x) (leaves x ++ []) (sym (append-nil (leaves x))) h.0.2)
same_operand Empty h = absurd h
same_operand (And x (And v f)) h = absurd h.1

number_operand : Case (Operand 12) (Shown 0 ∷ []) kind.Number
number_operand (And (Leaf t) Empty) h = (Number t.id, refl, writes.tighter 12 (t ∷ []) (Number t.id) (writes.constant t (constant_known t.class h.0)))
number_operand Empty h = absurd h
number_operand (And (Node p c) f) h = absurd h.0
number_operand (And (Leaf t) (And v f)) h = absurd h.1

within : Case (Operand 12) (Shown 16 ∷ Loosest ∷ Shown 17 ∷ []) kind.Within
within (And (Leaf t) (And x (And (Leaf u) Empty))) h =
    (h.1.0.0, h.1.0.1, writes.tighter 12 (t ∷ (leaves x ++ u ∷ [])) h.1.0.0 (writes.parentheses t u (leaves x) h.1.0.0 (opening_known t.class h.0) (closing_known u.class h.1.1.0) h.1.0.2))
within Empty h = absurd h
within (And (Node p c) f) h = absurd h.0
within (And (Leaf t) Empty) h = absurd h.1
within (And (Leaf t) (And x Empty)) h = absurd h.1.1
within (And (Leaf t) (And x (And (Node p c) f))) h = absurd h.1.1.0
within (And (Leaf t) (And x (And (Leaf u) (And v f)))) h = absurd h.1.1.1

prefix : Case (Operand 12) (Shown 2 ∷ Operand 12 ∷ Mark ∷ []) kind.Prefix
prefix (And (Leaf t) (And x (And m Empty))) h =
    let q = h.1.0 in
    let e = Prefix (operator_of t.class) q.0 in
    (e, ap (λ v. Done (Prefix (operator_of t.class) (expression v))) q.1, moved 12 e (t ∷ leaves x) (t ∷ (leaves x ++ (leaves m ++ []))) (ap (λ z. t ∷ z) (no_more (leaves x) (leaves m) h.1.1.0.1)) (writes.before 12 t (leaves x) q.0 (operator 12 Before FromRight (omega arith) refl t h.0) q.2))
prefix Empty h = absurd h
prefix (And (Node p c) f) h = absurd h.0
prefix (And (Leaf t) Empty) h = absurd h.1
prefix (And (Leaf t) (And x Empty)) h = absurd h.1.1
prefix (And (Leaf t) (And x (And m (And v f)))) h = absurd h.1.1.1

store_mark : Case Mark [] kind.Store
store_mark Empty h = ((λ l. refl), refl)
store_mark (And v f) h = absurd h

join_mark : Case Mark [] kind.Join
join_mark Empty h = ((λ l. refl), refl)
join_mark (And v f) h = absurd h

decide_mark : Case Mark [] kind.Decide
decide_mark Empty h = ((λ l. refl), refl)
decide_mark (And v f) h = absurd h

do_mark : Case Mark [] kind.Do
do_mark Empty h = ((λ l. refl), refl)
do_mark (And v f) h = absurd h

turn_mark : Case Mark [] kind.Turn
turn_mark Empty h = ((λ l. refl), refl)
turn_mark (And v f) h = absurd h

load_mark : Case LoadMark [] kind.Load
load_mark Empty h = ((λ l. refl), refl)
load_mark (And v f) h = absurd h

-- ---- all of them

abbrev AllCases : List Production → Type 0
AllCases [] = Unit {0}
AllCases (p ∷ others) = Case (sort (Nonterminal p.head)) (sorts p.body) p.means × AllCases others

case_at : (ps : List Production) (p : ℕ) (r : Rule) → AllCases ps → slice_get (rules_of (map (λ q. q.head) ps) (map (λ q. q.body) ps)) p ≡ Some r → Case (sort (Nonterminal r.head)) (sorts r.body) (nth kind.Rest (map (λ q. q.means) ps) p)
case_at [] p r h e = absurd (cc)
case_at (q ∷ ps) zero r h e = let same : record { head = q.head; body = q.body } ≡ r = cc in subst (λ x. Case (sort (Nonterminal x.head)) (sorts x.body) q.means) same h.0
case_at (q ∷ ps) (suc p) r h e = case_at ps p r h.1 e

all_cases : AllCases productions
unfolding productions
all_cases = (blank, (whole, (named, (other, (assigns, (takes, (tail, (chain 1 FromRight, (no_rest 1 FromRight, (choice, (chain 2 FromLeft, (no_rest 2 FromLeft, (logic 2 12 (operator 2 Deciding FromLeft (omega arith) refl), (chain 3 FromLeft, (no_rest 3 FromLeft, (logic 3 11 (operator 3 Deciding FromLeft (omega arith) refl), (chain 4 FromLeft, (no_rest 4 FromLeft, (binary 4 10 (operator 4 Between FromLeft (omega arith) refl), (chain 5 FromLeft, (no_rest 5 FromLeft, (binary 5 9 (operator 5 Between FromLeft (omega arith) refl), (chain 6 FromLeft, (no_rest 6 FromLeft, (binary 6 8 (operator 6 Between FromLeft (omega arith) refl), (chain 7 FromLeft, (no_rest 7 FromLeft, (binary 7 7 (operator 7 Between FromLeft (omega arith) refl), (chain 8 FromLeft, (no_rest 8 FromLeft, (binary 8 6 (operator 8 Between FromLeft (omega arith) refl), (chain 9 FromLeft, (no_rest 9 FromLeft, (binary 9 5 (operator 9 Between FromLeft (omega arith) refl), (chain 10 FromLeft, (no_rest 10 FromLeft, (binary 10 4 (operator 10 Between FromLeft (omega arith) refl), (chain 11 FromLeft, (no_rest 11 FromLeft, (binary 11 3 (operator 11 Between FromLeft (omega arith) refl), (name_operand, (same_operand, (number_operand, (within, (prefix, (store_mark, (load_mark, (join_mark, (decide_mark, (do_mark, (turn_mark, tt)))))))))))))))))))))))))))))))))))))))))))))))))))

node_case : (p n : ℕ) (body : List Symbol) → slice_get arithmetic_grammar.rules p ≡ Some (record { head = n; body = body }) → Case (sort (Nonterminal n)) (sorts body) (kind_of p)
unfolding arithmetic_grammar arithmetic kind_of kinds
node_case p n body h = case_at productions p (record { head = n; body = body }) all_cases h

as_tree : (s : Sort) (p : ℕ) (c : Forest) → Q s (says (kind_of p) (first_token c) (readers c)) (all_leaves c) → R s (Node p c)
as_tree Whole p c h = h
as_tree Loosest p c h = h
as_tree AfterName p c h = h
as_tree AfterOperand p c h = h
as_tree (Operand i) p c h = h
as_tree (Rest g i) p c h = h
as_tree Mark p c h = h
as_tree LoadMark p c h = h
as_tree (Shown k) p c h = h

mutual
  unfolding arithmetic_grammar

  formed : (e : ℕ) (s : Symbol) (t : Tree) → IsTree arithmetic_grammar e s t → R (sort s) t
  formed e (Terminal k) (Leaf t) h = h
  formed e (Nonterminal n) (Node p c) h = as_tree (sort (Nonterminal n)) p c (node_case p n h.0 h.1.there c (all_formed e h.0 c h.3))
  formed e (Terminal k) (Node p c) h = absurd h
  formed e (Nonterminal n) (Leaf t) h = absurd h

  all_formed : (e : ℕ) (body : List Symbol) (f : Forest) → AreTrees arithmetic_grammar e body f → AllR (sorts body) f
  all_formed e [] Empty h = tt
  all_formed e (s ∷ body) (And x o) h = (formed _ s x h.0, all_formed e body o h.1)
  all_formed e [] (And x o) h = absurd h
  all_formed e (s ∷ body) Empty h = absurd h

pub written : (text : List ℕ) (e : Expression) → Says text e → IsWritten (tokens_of text) e
unfolding arithmetic_grammar arithmetic
written text e s =
    let q = formed arithmetic_grammar.ending (Nonterminal arithmetic.start) s.tree s.derives.shape in
    subst (λ ts. IsWritten ts e) s.derives.text (subst (IsWritten (leaves s.tree)) (sym (ap expression q.1) ∙ s.says) q.2)
