-- The tokens of a tree open at most 500 levels exactly where its levels are few.
use Rattle.std.proofs.Common.{◌≡◌, ℕ, zero, suc, ◌+◌, ◌-◌, ◌≤◌, Bool, true, false, List, [], ◌∷◌, ◌++◌, refl, sym, ap, ◌∙◌, subst, Some, map, append_assoc, arith, rules}
use Rattle.std.specs.Prelude.{not, ◌&&◌, nat_lt, slice_get, if◌then◌else◌}
use Rattle.std.proofs.lemmas.List.{append-nil}
use Rattle.sh_grammar.specs.declared.Token.{Token}
use Rattle.sh_grammar.specs.declared.Symbol.{Symbol}
use Rattle.sh_grammar.specs.declared.Symbol.TheVariants.{Terminal, Nonterminal}
use Rattle.sh_grammar.specs.Grammar.{Rule, IsRule, Tree, Forest, Leaf, Node, Empty, And, IsTree, AreTrees, leaves, all_leaves}
use Rattle.sh_grammar.specs.Text.{IsTreeOf}
use Rattle.sh_arith_grammar.specs.declared.grammar.Kind.TheVariants as kind
use Rattle.sh_arith_grammar.specs.Productions.{productions}
use Rattle.sh_arith_grammar.specs.declared.operators.Role.{Role}
use Rattle.sh_arith_grammar.specs.declared.operators.Role.TheVariants as role
use Rattle.sh_arith_grammar.specs.Grammar.{arithmetic, arithmetic_grammar}
use Rattle.sh_arith_grammar.specs.Levels.{Open, are_shallow, is_deep, none_open, open_behind, opened}
use Rattle.sh_arith_grammar.specs.Nesting.{are_few, is_few, is_level}
use Rattle.sh_arith_grammar.specs.Roles.{nth, kind_of, kinds, role_of}
use Rattle.sh_arith_grammar.proofs.Forms.{Sort, Expression, Closed, Operand, Trail, Chain, Mark, Shown, Form, Blank, Same, NameTrail, OperandTrail, ClosedTrail, Assigns, LoadTrail, Tail, NoTrail, Chooses, ClosedChain, OperandChain, NoChain, LogicChain, BinaryChain, FactorChain, NameOperand, SameOperand, NumberOperand, Within, Prefix, NoMark, chains, head_of, body_of, opening_of, FORMS, LEVEL_SORTS}
use Rattle.sh_arith_grammar.proofs.Shape.{role_known}
use Rattle.sh_arith_grammar.proofs.Sig.{Sig, Value, After, Target, DoMark, TurnMark, DecideMark, JoinMark, StoreMark, Shows, TERMINAL_SORTS}

abbrev st : ℕ → ℕ → List ℕ → Bool → Open
st n p b d = record { levels = n; prefixes = p; behind = b; operand = d }

-- from o the tokens are shallow exactly where ok holds and what follows them is, from o2
abbrev G : Open → List Token → List Token → Bool → Open → Type 0
G o ts more ok o2 = are_shallow o (ts ++ more) ≡ (ok && are_shallow o2 more)

abbrev Q : Sort → List Token → (ℕ → Bool) → Type 0
Q Expression ts ok = (n : ℕ) (b : List ℕ) (more : List Token) → nat_lt 500 n ≡ false → (o : Open) × (o.behind ≡ b) × G (st n 0 b false) ts more (ok n) o
Q Closed ts ok = (n : ℕ) (b : List ℕ) (more : List Token) → nat_lt 500 n ≡ false → G (st n 0 b false) ts more (ok n) (st n 0 b true)
Q Operand ts ok = (n p : ℕ) (b : List ℕ) (more : List Token) → nat_lt 500 n ≡ false → G (st n p b false) ts more (ok n) (st (n - p) 0 b true)
Q Trail ts ok = (n : ℕ) (b : List ℕ) (more : List Token) → nat_lt 500 n ≡ false → (o : Open) × (o.behind ≡ b) × G (st n 0 b true) ts more (ok n) o
Q Chain ts ok = (n : ℕ) (b : List ℕ) (more : List Token) → nat_lt 500 n ≡ false → G (st n 0 b true) ts more (ok n) (st n 0 b true)
Q Mark ts ok = (o : Open) (n : ℕ) (more : List Token) → G o ts more (ok n) o
Q (Shown r) ts ok = (o : Open) (n : ℕ) (more : List Token) → (are_shallow o (ts ++ more) ≡ (not (is_deep (opened r o)) && are_shallow (opened r o) more)) × (ok n ≡ true)

abbrev P : Sort → Tree → Type 0
P s x = Q s (leaves x) (is_few x)

abbrev AllQ : List Sort → Forest → Type 0
AllQ [] c = c ≡ Empty
AllQ (s ∷ body) c = (x : Tree) × (f : Forest) × (c ≡ And x f) × P s x × AllQ body f

abbrev inner : Bool → Forest → ℕ → Bool
inner b c m = if b then not (nat_lt 500 (m + 1)) && are_few c (m + 1) else are_few c m

abbrev PN : Sort → Bool → Forest → Type 0
PN s b c = Q s (all_leaves c) (inner b c)

-- ---- one after another

and_assoc : (a b c : Bool) → (a && b) && c ≡ a && (b && c)
and_assoc true b c = refl
and_assoc false b c = refl

push : (o o1 o2 : Open) (c : Forest) (x : Tree) (f : Forest) (m : ℕ) (more : List Token) → c ≡ And x f → G o (leaves x) (all_leaves f ++ more) (is_few x m) o1 → G o1 (all_leaves f) more (are_few f m) o2 → G o (all_leaves c) more (are_few c m) o2
push o o1 o2 c x f m more e g h =
    subst (λ y. G o (all_leaves y) more (are_few y m) o2) (sym e)
    (ap (are_shallow o) (append_assoc (leaves x) (all_leaves f) more) ∙ (g ∙ (ap (λ z. is_few x m && z) h ∙ sym (and_assoc (is_few x m) (are_few f m) (are_shallow o2 more)))))

nothing : (o : Open) (c : Forest) (m : ℕ) (more : List Token) → c ≡ Empty → G o (all_leaves c) more (are_few c m) o
nothing o c m more e = subst (λ y. G o (all_leaves y) more (are_few y m) o) (sym e) refl

last : (o o2 : Open) (c : Forest) (x : Tree) (f : Forest) (m : ℕ) (more : List Token) → c ≡ And x f → f ≡ Empty → G o (leaves x) (all_leaves f ++ more) (is_few x m) o2 → G o (all_leaves c) more (are_few c m) o2
last o o2 c x f m more e i g = push o o2 o2 c x f m more e g (nothing o2 f m more i)

shown : (r : Role) (x : Tree) (o : Open) (n : ℕ) (more : List Token) → P (Shown r) x → is_deep (opened r o) ≡ false → G o (leaves x) more (is_few x n) (opened r o)
shown r x o n more q k =
    (q o n more).0 ∙ (ap (λ d. not d && are_shallow (opened r o) more) k ∙ sym (ap (λ z. z && are_shallow (opened r o) more) (q o n more).1))

small : (n p : ℕ) → nat_lt 500 n ≡ false → nat_lt 500 (n - p) ≡ false
small n p h =
    let l : n ≤ 500 = search (rules, h) in
    let k : n - p ≤ 500 = omega (arith, l) in
    search (rules, k)

minus_zero : (n : ℕ) → n - 0 ≡ n
minus_zero n = omega arith

-- an operand without prefix operators before it
bare : (x : Tree) → P Operand x → (n : ℕ) (b : List ℕ) (more : List Token) → nat_lt 500 n ≡ false → G (st n 0 b false) (leaves x) more (is_few x n) (st n 0 b true)
bare x q n b more k = subst (λ y. G (st n 0 b false) (leaves x) more (is_few x n) (st y 0 b true)) (minus_zero n) (q n 0 b more k)

-- ---- a token that opens a level

deep_level : (r : Role) (o o2 : Open) (c : Forest) (x : Tree) (f : Forest) (m k : ℕ) (more : List Token) → c ≡ And x f → P (Shown r) x → nat_lt 500 (opened r o).levels ≡ nat_lt 500 k → nat_lt 500 k ≡ true → G o (all_leaves c) more (not (nat_lt 500 k) && are_few c k) o2
deep_level r o o2 c x f m k more e q i d =
    subst (λ y. G o (all_leaves y) more (not (nat_lt 500 k) && are_few y k) o2) (sym e)
    (ap (are_shallow o) (append_assoc (leaves x) (all_leaves f) more)
    ∙ ((q o m (all_leaves f ++ more)).0 ∙ (ap (λ z. not z && are_shallow (opened r o) (all_leaves f ++ more)) (i ∙ d)
    ∙ sym (ap (λ z. (not z && are_few (And x f) k) && are_shallow o2 more) d))))

fine_level : (o o2 : Open) (c : Forest) (k : ℕ) (more : List Token) → nat_lt 500 k ≡ false → G o (all_leaves c) more (are_few c k) o2 → G o (all_leaves c) more (not (nat_lt 500 k) && are_few c k) o2
fine_level o o2 c k more d g = g ∙ sym (ap (λ z. (not z && are_few c k) && are_shallow o2 more) d)

-- ---- the forms

along : (k : ℕ) (c : Forest) → AllQ (chains k) c → PN Trail false c
along zero c h = λ n b more k. let q = h.3 n b (all_leaves h.1 ++ more) k in (q.0, q.1, last (st n 0 b true) q.0 c h.0 h.1 n more h.2 h.4 q.2)
along (suc i) c h = λ n b more k.
    let r = along i h.1 h.4 n b more k in
    (r.0, r.1, push (st n 0 b true) (st n 0 b true) r.0 c h.0 h.1 n more h.2 (h.3 n b (all_leaves h.1 ++ more) k) r.2)

same_case : (c : Forest) → AllQ (Expression ∷ []) c → PN Expression false c
same_case c h = λ n b more k. let q = h.3 n b (all_leaves h.1 ++ more) k in (q.0, q.1, last (st n 0 b false) q.0 c h.0 h.1 n more h.2 h.4 q.2)

name_trail : (c : Forest) → AllQ (Shown role.Name ∷ Trail ∷ []) c → PN Expression false c
name_trail c h = λ n b more k.
    let g = subst (λ y. G (st n 0 b false) (leaves h.0) (all_leaves h.1 ++ more) (is_few h.0 n) (st y 0 b true)) (minus_zero n) (shown role.Name h.0 (st n 0 b false) n (all_leaves h.1 ++ more) h.3 (small n 0 k)) in
    let r = along 0 h.1 h.4 n b more k in
    (r.0, r.1, push (st n 0 b false) (st n 0 b true) r.0 c h.0 h.1 n more h.2 g r.2)

operand_trail : (c : Forest) → AllQ (Operand ∷ Trail ∷ []) c → PN Expression false c
operand_trail c h = λ n b more k.
    let r = along 0 h.1 h.4 n b more k in
    (r.0, r.1, push (st n 0 b false) (st n 0 b true) r.0 c h.0 h.1 n more h.2 (bare h.0 h.3 n b (all_leaves h.1 ++ more) k) r.2)

closed_trail : (c : Forest) → AllQ (Closed ∷ Trail ∷ []) c → PN Expression false c
closed_trail c h = λ n b more k.
    let r = along 0 h.1 h.4 n b more k in
    (r.0, r.1, push (st n 0 b false) (st n 0 b true) r.0 c h.0 h.1 n more h.2 (h.3 n b (all_leaves h.1 ++ more) k) r.2)

load_trail : (c : Forest) → AllQ (Mark ∷ Trail ∷ []) c → PN Trail false c
load_trail c h = λ n b more k.
    let r = along 0 h.1 h.4 n b more k in
    (r.0, r.1, push (st n 0 b true) (st n 0 b true) r.0 c h.0 h.1 n more h.2 (h.3 (st n 0 b true) n (all_leaves h.1 ++ more)) r.2)

one_chain : (c : Forest) → AllQ (Chain ∷ []) c → PN Chain false c
one_chain c h = λ n b more k. last (st n 0 b true) (st n 0 b true) c h.0 h.1 n more h.2 h.4 (h.3 n b (all_leaves h.1 ++ more) k)

marked_chain : (c : Forest) → AllQ (Mark ∷ Chain ∷ []) c → PN Chain false c
marked_chain c h = λ n b more k. push (st n 0 b true) (st n 0 b true) (st n 0 b true) c h.0 h.1 n more h.2 (h.3 (st n 0 b true) n (all_leaves h.1 ++ more)) (one_chain h.1 h.4 n b more k)

closed_chain : (c : Forest) → AllQ (Closed ∷ Chain ∷ []) c → PN Closed false c
closed_chain c h = λ n b more k. push (st n 0 b false) (st n 0 b true) (st n 0 b true) c h.0 h.1 n more h.2 (h.3 n b (all_leaves h.1 ++ more) k) (one_chain h.1 h.4 n b more k)

operand_chain : (c : Forest) → AllQ (Operand ∷ Chain ∷ []) c → PN Closed false c
operand_chain c h = λ n b more k. push (st n 0 b false) (st n 0 b true) (st n 0 b true) c h.0 h.1 n more h.2 (bare h.0 h.3 n b (all_leaves h.1 ++ more) k) (one_chain h.1 h.4 n b more k)

closed_marked : (c : Forest) → AllQ (Closed ∷ Mark ∷ Chain ∷ []) c → PN Closed false c
closed_marked c h = λ n b more k. push (st n 0 b false) (st n 0 b true) (st n 0 b true) c h.0 h.1 n more h.2 (h.3 n b (all_leaves h.1 ++ more) k) (marked_chain h.1 h.4 n b more k)

operand_marked : (c : Forest) → AllQ (Operand ∷ Mark ∷ Chain ∷ []) c → PN Closed false c
operand_marked c h = λ n b more k. push (st n 0 b false) (st n 0 b true) (st n 0 b true) c h.0 h.1 n more h.2 (bare h.0 h.3 n b (all_leaves h.1 ++ more) k) (marked_chain h.1 h.4 n b more k)

logic_chain : (c : Forest) → AllQ (Shown role.Logic ∷ Closed ∷ Mark ∷ Chain ∷ []) c → PN Chain false c
logic_chain c h = λ n b more k. push (st n 0 b true) (st n 0 b false) (st n 0 b true) c h.0 h.1 n more h.2 (shown role.Logic h.0 (st n 0 b true) n (all_leaves h.1 ++ more) h.3 k) (closed_marked h.1 h.4 n b more k)

binary_chain : (c : Forest) → AllQ (Shown role.Operator ∷ Closed ∷ Mark ∷ Chain ∷ []) c → PN Chain false c
binary_chain c h = λ n b more k. push (st n 0 b true) (st n 0 b false) (st n 0 b true) c h.0 h.1 n more h.2 (shown role.Operator h.0 (st n 0 b true) n (all_leaves h.1 ++ more) h.3 k) (closed_marked h.1 h.4 n b more k)

factor_chain : (c : Forest) → AllQ (Shown role.Operator ∷ Operand ∷ Mark ∷ Chain ∷ []) c → PN Chain false c
factor_chain c h = λ n b more k. push (st n 0 b true) (st n 0 b false) (st n 0 b true) c h.0 h.1 n more h.2 (shown role.Operator h.0 (st n 0 b true) n (all_leaves h.1 ++ more) h.3 k) (operand_marked h.1 h.4 n b more k)

same_operand : (c : Forest) → AllQ (Operand ∷ []) c → PN Operand false c
same_operand c h = λ n p b more k. last (st n p b false) (st (n - p) 0 b true) c h.0 h.1 n more h.2 h.4 (h.3 n p b (all_leaves h.1 ++ more) k)

number_operand : (c : Forest) → AllQ (Shown role.Number ∷ []) c → PN Operand false c
number_operand c h = λ n p b more k. last (st n p b false) (st (n - p) 0 b true) c h.0 h.1 n more h.2 h.4 (shown role.Number h.0 (st n p b false) n (all_leaves h.1 ++ more) h.3 (small n p k))

one_mark : (o : Open) (c : Forest) (n : ℕ) (more : List Token) → AllQ (Mark ∷ []) c → G o (all_leaves c) more (are_few c n) o
one_mark o c n more h = last o o c h.0 h.1 n more h.2 h.4 (h.3 o n (all_leaves h.1 ++ more))

name_operand : (c : Forest) → AllQ (Shown role.Name ∷ Mark ∷ []) c → PN Operand false c
name_operand c h = λ n p b more k. push (st n p b false) (st (n - p) 0 b true) (st (n - p) 0 b true) c h.0 h.1 n more h.2 (shown role.Name h.0 (st n p b false) n (all_leaves h.1 ++ more) h.3 (small n p k)) (one_mark (st (n - p) 0 b true) h.1 n more h.4)

both_off : (n p : ℕ) → (n + 1) - (p + 1) ≡ n - p
both_off n p = omega arith

-- an operator before its operand
prefix_fine : (c : Forest) (n p : ℕ) (b : List ℕ) (more : List Token) → AllQ (Shown role.Operator ∷ Operand ∷ Mark ∷ []) c → nat_lt 500 (n + 1) ≡ false → G (st n p b false) (all_leaves c) more (are_few c (n + 1)) (st (n - p) 0 b true)
prefix_fine c n p b more h k =
    let g = shown role.Operator h.0 (st n p b false) (n + 1) (all_leaves h.1 ++ more) h.3 k in
    let q = h.4.3 (n + 1) (p + 1) b (all_leaves h.4.1 ++ more) k in
    let r = push (st (n + 1) (p + 1) b false) (st ((n + 1) - (p + 1)) 0 b true) (st ((n + 1) - (p + 1)) 0 b true) h.1 h.4.0 h.4.1 (n + 1) more h.4.2 q (one_mark (st ((n + 1) - (p + 1)) 0 b true) h.4.1 (n + 1) more h.4.4) in
    subst (λ y. G (st n p b false) (all_leaves c) more (are_few c (n + 1)) (st y 0 b true)) (both_off n p)
    (push (st n p b false) (st (n + 1) (p + 1) b false) (st ((n + 1) - (p + 1)) 0 b true) c h.0 h.1 (n + 1) more h.2 g r)

-- what stands in parentheses
closes : (o : Open) (n p m : ℕ) (b : List ℕ) (c : Forest) (more : List Token) → AllQ (Shown role.Closing ∷ []) c → o.behind ≡ (n - p) ∷ b → nat_lt 500 n ≡ false → G o (all_leaves c) more (are_few c m) (st (n - p) 0 b true)
closes o n p m b c more h e k =
    let same : opened role.Closing o ≡ st (n - p) 0 b true = ap (λ y. opened role.Closing (st 0 0 y true)) e in
    subst (G o (all_leaves c) more (are_few c m)) same
    (last o (opened role.Closing o) c h.0 h.1 m more h.2 h.4 (shown role.Closing h.0 o m (all_leaves h.1 ++ more) h.3 (ap is_deep same ∙ small n p k)))

within_fine : (c : Forest) (n p : ℕ) (b : List ℕ) (more : List Token) → AllQ (Shown role.Opening ∷ Expression ∷ Shown role.Closing ∷ []) c → nat_lt 500 n ≡ false → nat_lt 500 (n + 1) ≡ false → G (st n p b false) (all_leaves c) more (are_few c (n + 1)) (st (n - p) 0 b true)
within_fine c n p b more h j k =
    let g = shown role.Opening h.0 (st n p b false) (n + 1) (all_leaves h.1 ++ more) h.3 k in
    let q = h.4.3 (n + 1) ((n - p) ∷ b) (all_leaves h.4.1 ++ more) k in
    push (st n p b false) (st (n + 1) 0 ((n - p) ∷ b) false) (st (n - p) 0 b true) c h.0 h.1 (n + 1) more h.2 g
    (push (st (n + 1) 0 ((n - p) ∷ b) false) q.0 (st (n - p) 0 b true) h.1 h.4.0 h.4.1 (n + 1) more h.4.2 q.2 (closes q.0 n p (n + 1) b h.4.1 more h.4.4 q.1 j))

-- an assignment
assign_fine : (c : Forest) (n : ℕ) (b : List ℕ) (more : List Token) → AllQ (Shown role.Assign ∷ Expression ∷ Mark ∷ []) c → nat_lt 500 (n + 1) ≡ false → (o : Open) × (o.behind ≡ b) × G (st n 0 b true) (all_leaves c) more (are_few c (n + 1)) o
assign_fine c n b more h k =
    let g = shown role.Assign h.0 (st n 0 b true) (n + 1) (all_leaves h.1 ++ more) h.3 k in
    let q = h.4.3 (n + 1) b (all_leaves h.4.1 ++ more) k in
    (q.0, q.1, push (st n 0 b true) (st (n + 1) 0 b false) q.0 c h.0 h.1 (n + 1) more h.2 g (push (st (n + 1) 0 b false) q.0 q.0 h.1 h.4.0 h.4.1 (n + 1) more h.4.2 q.2 (one_mark q.0 h.4.1 (n + 1) more h.4.4)))

-- the else part of a choice
else_part : (o : Open) (m : ℕ) (b : List ℕ) (c : Forest) (more : List Token) → AllQ (Shown role.Colon ∷ Expression ∷ Mark ∷ []) c → o.behind ≡ m ∷ b → nat_lt 500 m ≡ false → (o2 : Open) × (o2.behind ≡ b) × G o (all_leaves c) more (are_few c m) o2
else_part o m b c more h e k =
    let same : opened role.Colon o ≡ st m 0 b false = ap (λ y. opened role.Colon (st 0 0 y true)) e in
    let q = h.4.3 m b (all_leaves h.4.1 ++ more) k in
    let g = subst (G o (leaves h.0) (all_leaves h.1 ++ more) (is_few h.0 m)) same (shown role.Colon h.0 o m (all_leaves h.1 ++ more) h.3 (ap is_deep same ∙ k)) in
    (q.0, q.1, push o (st m 0 b false) q.0 c h.0 h.1 m more h.2 g (push (st m 0 b false) q.0 q.0 h.1 h.4.0 h.4.1 m more h.4.2 q.2 (one_mark q.0 h.4.1 m more h.4.4)))

choose_fine : (c : Forest) (n : ℕ) (b : List ℕ) (more : List Token) → AllQ (Shown role.Question ∷ Expression ∷ Shown role.Colon ∷ Expression ∷ Mark ∷ []) c → nat_lt 500 (n + 1) ≡ false → (o : Open) × (o.behind ≡ b) × G (st n 0 b true) (all_leaves c) more (are_few c (n + 1)) o
choose_fine c n b more h k =
    let g = shown role.Question h.0 (st n 0 b true) (n + 1) (all_leaves h.1 ++ more) h.3 k in
    let q = h.4.3 (n + 1) ((n + 1) ∷ b) (all_leaves h.4.1 ++ more) k in
    let r = else_part q.0 (n + 1) b h.4.1 more h.4.4 q.1 k in
    (r.0, r.1, push (st n 0 b true) (st (n + 1) 0 ((n + 1) ∷ b) false) r.0 c h.0 h.1 (n + 1) more h.2 g (push (st (n + 1) 0 ((n + 1) ∷ b) false) q.0 r.0 h.1 h.4.0 h.4.1 (n + 1) more h.4.2 q.2 r.2))

either_way : (b : Bool) (A : Type 0) → (b ≡ true → A) → (b ≡ false → A) → A
either_way true A f g = f refl
either_way false A f g = g refl

prefix_case : (c : Forest) → AllQ (Shown role.Operator ∷ Operand ∷ Mark ∷ []) c → PN Operand true c
prefix_case c h = λ n p b more k.
    either_way (nat_lt 500 (n + 1)) _
    (λ d. deep_level role.Operator (st n p b false) (st (n - p) 0 b true) c h.0 h.1 n (n + 1) more h.2 h.3 refl d)
    (λ d. fine_level (st n p b false) (st (n - p) 0 b true) c (n + 1) more d (prefix_fine c n p b more h d))

within_case : (c : Forest) → AllQ (Shown role.Opening ∷ Expression ∷ Shown role.Closing ∷ []) c → PN Operand true c
within_case c h = λ n p b more k.
    either_way (nat_lt 500 (n + 1)) _
    (λ d. deep_level role.Opening (st n p b false) (st (n - p) 0 b true) c h.0 h.1 n (n + 1) more h.2 h.3 refl d)
    (λ d. fine_level (st n p b false) (st (n - p) 0 b true) c (n + 1) more d (within_fine c n p b more h k d))

assign_case : (c : Forest) → AllQ (Shown role.Assign ∷ Expression ∷ Mark ∷ []) c → PN Trail true c
assign_case c h = λ n b more k.
    either_way (nat_lt 500 (n + 1)) _
    (λ d. (st n 0 b true, refl, deep_level role.Assign (st n 0 b true) (st n 0 b true) c h.0 h.1 n (n + 1) more h.2 h.3 refl d))
    (λ d. let r = assign_fine c n b more h d in (r.0, r.1, fine_level (st n 0 b true) r.0 c (n + 1) more d r.2))

choose_case : (c : Forest) → AllQ (Shown role.Question ∷ Expression ∷ Shown role.Colon ∷ Expression ∷ Mark ∷ []) c → PN Trail true c
choose_case c h = λ n b more k.
    either_way (nat_lt 500 (n + 1)) _
    (λ d. (st n 0 b true, refl, deep_level role.Question (st n 0 b true) (st n 0 b true) c h.0 h.1 n (n + 1) more h.2 h.3 refl d))
    (λ d. let r = choose_fine c n b more h d in (r.0, r.1, fine_level (st n 0 b true) r.0 c (n + 1) more d r.2))

form_case : (f : Form) (c : Forest) → AllQ (body_of f) c → PN (head_of f) (opening_of f) c
form_case Blank c h = λ n b more k. (st n 0 b false, refl, nothing (st n 0 b false) c n more h)
form_case Same c h = same_case c h
form_case NameTrail c h = name_trail c h
form_case OperandTrail c h = operand_trail c h
form_case ClosedTrail c h = closed_trail c h
form_case Assigns c h = assign_case c h
form_case LoadTrail c h = load_trail c h
form_case Tail c h = along 10 c h
form_case NoTrail c h = λ n b more k. (st n 0 b true, refl, nothing (st n 0 b true) c n more h)
form_case Chooses c h = choose_case c h
form_case ClosedChain c h = closed_chain c h
form_case OperandChain c h = operand_chain c h
form_case NoChain c h = λ n b more k. nothing (st n 0 b true) c n more h
form_case LogicChain c h = logic_chain c h
form_case BinaryChain c h = binary_chain c h
form_case FactorChain c h = factor_chain c h
form_case NameOperand c h = name_operand c h
form_case SameOperand c h = same_operand c h
form_case NumberOperand c h = number_operand c h
form_case Within c h = within_case c h
form_case Prefix c h = prefix_case c h
form_case NoMark c h = λ o n more. nothing o c n more h

-- ---- the grammar has these forms

abbrev role_in : Sig → Role
role_in (Shows r) = r
role_in Value = role.Nothing
role_in After = role.Nothing
role_in Target = role.Nothing
role_in DoMark = role.Nothing
role_in TurnMark = role.Nothing
role_in DecideMark = role.Nothing
role_in JoinMark = role.Nothing
role_in StoreMark = role.Nothing

abbrev sort : Symbol → Sort
sort (Terminal k) = Shown (role_in (nth (Shows role.Nothing) TERMINAL_SORTS k))
sort (Nonterminal n) = nth Mark LEVEL_SORTS n

abbrev sorts : List Symbol → List Sort
sorts [] = []
sorts (s ∷ symbols) = sort s ∷ sorts symbols

abbrev rule_sort : Rule → Sort
rule_sort r = sort (Nonterminal r.head)

abbrev rule_body : Rule → List Sort
rule_body r = sorts r.body

heads_agree : map head_of FORMS ≡ map rule_sort arithmetic_grammar.rules
unfolding arithmetic_grammar arithmetic productions FORMS LEVEL_SORTS TERMINAL_SORTS
heads_agree = refl

bodies_agree : map body_of FORMS ≡ map rule_body arithmetic_grammar.rules
unfolding arithmetic_grammar arithmetic productions FORMS LEVEL_SORTS TERMINAL_SORTS
bodies_agree = refl

levels_agree : map opening_of FORMS ≡ map is_level kinds
unfolding FORMS kinds productions
levels_agree = refl

agree_at : {A B C : Type 0} (f : A → C) (g : B → C) (d : A) (xs : List A) (ys : List B) (p : ℕ) (y : B) → map f xs ≡ map g ys → slice_get ys p ≡ Some y → f (nth d xs p) ≡ g y
agree_at f g d [] [] p y e h = absurd (cc)
agree_at f g d [] (z ∷ ys) p y e h = absurd (cc)
agree_at f g d (x ∷ xs) [] p y e h = absurd (cc)
agree_at f g d (x ∷ xs) (z ∷ ys) zero y e h = let i : f x ≡ g z = cc in let j : z ≡ y = cc in i ∙ ap g j
agree_at f g d (x ∷ xs) (z ∷ ys) (suc p) y e h = let i : map f xs ≡ map g ys = cc in agree_at f g d xs ys p y i h

agree_with : {A B C : Type 0} (f : A → C) (g : B → C) (d : A) (w : B) (xs : List A) (ys : List B) (p : ℕ) → map f xs ≡ map g ys → f d ≡ g w → f (nth d xs p) ≡ g (nth w ys p)
agree_with f g d w [] [] p e h = h
agree_with f g d w [] (z ∷ ys) p e h = absurd (cc)
agree_with f g d w (x ∷ xs) [] p e h = absurd (cc)
agree_with f g d w (x ∷ xs) (z ∷ ys) zero e h = cc
agree_with f g d w (x ∷ xs) (z ∷ ys) (suc p) e h = let i : map f xs ≡ map g ys = cc in agree_with f g d w xs ys p i h

node_case : (p n : ℕ) (body : List Symbol) → IsRule arithmetic_grammar p n body → (c : Forest) → AllQ (sorts body) c → PN (sort (Nonterminal n)) (is_level (kind_of p)) c
unfolding kind_of
node_case p n body r c h =
    let f = nth NoTrail FORMS p in
    let i = agree_at head_of rule_sort NoTrail FORMS arithmetic_grammar.rules p (record { head = n; body = body }) heads_agree r.there in
    let j = agree_at body_of rule_body NoTrail FORMS arithmetic_grammar.rules p (record { head = n; body = body }) bodies_agree r.there in
    let k = agree_with opening_of is_level NoTrail kind.Rest FORMS kinds p levels_agree refl in
    subst (λ s. PN s (is_level (nth kind.Rest kinds p)) c) i
    (subst (λ x. PN (head_of f) x c) k (form_case f c (subst (λ y. AllQ y c) (sym j) h)))

leaf_case : (t : Token) → P (Shown (role_of t.class)) (Leaf t)
unfolding open_behind
leaf_case t = λ o n more. (refl, refl)

mutual
  unfolding arithmetic_grammar arithmetic productions

  formed : (e : ℕ) (s : Symbol) (t : Tree) → IsTree arithmetic_grammar e s t → P (sort s) t
  formed e (Terminal k) (Leaf t) h = subst (λ y. P (Shown y) (Leaf t)) (ap role_in (role_known k t.class h)) (leaf_case t)
  formed e (Nonterminal n) (Node p c) h = node_case p n h.0 h.1 c (all_formed e h.0 c h.3)
  formed e (Terminal k) (Node p c) h = absurd h
  formed e (Nonterminal n) (Leaf t) h = absurd h

  all_formed : (e : ℕ) (body : List Symbol) (f : Forest) → AreTrees arithmetic_grammar e body f → AllQ (sorts body) f
  all_formed e [] Empty h = refl
  all_formed e (s ∷ body) (And x o) h = (x, o, refl, formed _ s x h.0, all_formed e body o h.1)
  all_formed e [] (And x o) h = absurd h
  all_formed e (s ∷ body) Empty h = absurd h

and_true : (a : Bool) → (a && true) ≡ a
and_true true = refl
and_true false = refl

pub nested : (tokens : List Token) (tree : Tree) → IsTreeOf arithmetic tokens tree → are_shallow none_open tokens ≡ is_few tree 0
unfolding arithmetic_grammar arithmetic LEVEL_SORTS
nested tokens tree t =
    let q = formed arithmetic_grammar.ending (Nonterminal arithmetic.start) tree t.shape 0 [] [] refl in
    ap (are_shallow none_open) (sym t.text ∙ sym (append-nil (leaves tree))) ∙ (q.2 ∙ and_true (is_few tree 0))
