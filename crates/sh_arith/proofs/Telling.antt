-- The preorder of a tree is the code of the expression that it says.
use Rattle.std.proofs.Common.{◌≡◌, ℕ, List, [], ◌∷◌, ◌++◌, refl, sym, ap, ◌∙◌, subst, append_assoc}
use Rattle.std.proofs.lemmas.List.{append-nil}
use Rattle.sh_grammar.specs.declared.Token.{Token}
use Rattle.sh_grammar.specs.declared.Action.{Action}
use Rattle.sh_arith_grammar.specs.declared.grammar.Kind.{Kind}
use Rattle.sh_arith_grammar.specs.declared.grammar.Kind.TheVariants as kind
use Rattle.sh_grammar.specs.Leftmost.{preorder, preorders}
use Rattle.sh_grammar.specs.Grammar.{Tree, Forest, Leaf, Node, Empty, And}
use Rattle.sh_arith.specs.Expression.{Expression, Zero, Number, Name, Prefix, Binary, Logic, Choice, Assign}
use Rattle.sh_arith.specs.Steps.{Step, PushName, PushOp, DoPrefix, DoBinary, Test, Decide, Question, Colon, Join, Open, Store, code}
use Rattle.sh_arith_grammar.proofs.Sig.{Sig, Value, After, Target, DoMark, TurnMark, DecideMark, JoinMark, StoreMark, Shows}
use Rattle.sh_arith_grammar.specs.declared.operators.Role.{Role}
use Rattle.sh_arith_grammar.specs.declared.operators.Role.TheVariants as role
use Rattle.sh_arith.specs.Reading.{Left, Nothing, Named, Done, expression, first_token, through, says, read, readers, shift_steps, expand_steps, step_of, steps}
use Rattle.sh_arith_grammar.specs.Roles.{kind_of, role_of, operator_of}
use Rattle.sh_arith_grammar.proofs.Shape.{IsToken, Afters, Kinded, Shaped, AllShaped}

pub steps-append : (a b : List Action) → steps (a ++ b) ≡ steps a ++ steps b
steps-append [] b = refl
steps-append (x ∷ a) b = ap (λ y. step_of x ++ y) (steps-append a b) ∙ sym (append_assoc (step_of x) (steps a) (steps b))

abbrev pub Holds : Sig → (Left → Left) → List Step → Type 0
Holds Value r ss = (e : Expression) × (r Nothing ≡ Done e) × (ss ≡ code e)
Holds After r ss = (l : Expression) → (e : Expression) × (r (Done l) ≡ Done e) × (code l ++ ss ≡ code e)
Holds Target r ss = (t : ℕ) → (e : Expression) × (r (Named t) ≡ Done e) × (PushName t ∷ ss ≡ code e)
Holds DoMark r ss = ss ≡ DoBinary ∷ []
Holds TurnMark r ss = ss ≡ DoPrefix ∷ []
Holds DecideMark r ss = ss ≡ Decide ∷ []
Holds JoinMark r ss = ss ≡ Join ∷ []
Holds StoreMark r ss = ss ≡ Store ∷ []
Holds (Shows role) r ss = ⊥

abbrev pub HoldsAt : Sig → Tree → Type 0
HoldsAt s (Leaf t) = IsToken s × (Shows (role_of t.class) ≡ s)
HoldsAt s (Node p children) = Holds s (read (Node p children)) (steps (preorder (Node p children)))

abbrev pub HoldAll : List Sig → Forest → Type 0
HoldAll [] Empty = Unit {0}
HoldAll (s ∷ body) (And x others) = HoldsAt s x × HoldAll body others
HoldAll [] (And x others) = ⊥
HoldAll (s ∷ body) Empty = ⊥

pub value_child : (x : Tree) → HoldsAt Value x → Holds Value (read x) (steps (preorder x))
value_child (Leaf t) h = absurd h.0
value_child (Node p c) h = h

after_child : (x : Tree) → HoldsAt After x → Holds After (read x) (steps (preorder x))
after_child (Leaf t) h = absurd h.0
after_child (Node p c) h = h

target_child : (x : Tree) → HoldsAt Target x → Holds Target (read x) (steps (preorder x))
target_child (Leaf t) h = absurd h.0
target_child (Node p c) h = h

do_child : (x : Tree) → HoldsAt DoMark x → Holds DoMark (read x) (steps (preorder x))
do_child (Leaf t) h = absurd h.0
do_child (Node p c) h = h

turn_child : (x : Tree) → HoldsAt TurnMark x → Holds TurnMark (read x) (steps (preorder x))
turn_child (Leaf t) h = absurd h.0
turn_child (Node p c) h = h

decide_child : (x : Tree) → HoldsAt DecideMark x → Holds DecideMark (read x) (steps (preorder x))
decide_child (Leaf t) h = absurd h.0
decide_child (Node p c) h = h

join_child : (x : Tree) → HoldsAt JoinMark x → Holds JoinMark (read x) (steps (preorder x))
join_child (Leaf t) h = absurd h.0
join_child (Node p c) h = h

store_child : (x : Tree) → HoldsAt StoreMark x → Holds StoreMark (read x) (steps (preorder x))
store_child (Leaf t) h = absurd h.0
store_child (Node p c) h = h

at_node : (x : Tree) (o : Forest) (ss : List Step) → steps (preorder x) ≡ ss → steps (preorders (And x o)) ≡ ss ++ steps (preorders o)
at_node x o ss e = steps-append (preorder x) (preorders o) ∙ ap (λ y. y ++ steps (preorders o)) e

role_in : Sig → Role
role_in (Shows r) = r
role_in Value = role.Nothing
role_in After = role.Nothing
role_in Target = role.Nothing
role_in DoMark = role.Nothing
role_in TurnMark = role.Nothing
role_in DecideMark = role.Nothing
role_in JoinMark = role.Nothing
role_in StoreMark = role.Nothing

at_leaf : (t : Token) (r : Role) (o : Forest) → Shows (role_of t.class) ≡ Shows r → steps (preorders (And (Leaf t) o)) ≡ shift_steps r t ++ steps (preorders o)
unfolding role_in
at_leaf t r o e = ap (λ y. shift_steps (role_in y) t ++ steps (preorders o)) e

at_last : (x : Tree) → steps (preorders (And x Empty)) ≡ steps (preorder x)
at_last x = ap steps (append-nil (preorder x))

afters : (more : List Sig) → Afters more → (f : Forest) → HoldAll more f → Holds After (through (readers f)) (steps (preorders f))
afters [] a Empty h = λ l. (l, refl, append-nil (code l))
afters [] a (And x o) h = absurd h
afters (s ∷ more) a Empty h = absurd h
afters (s ∷ more) a (And x o) h =
    λ l. let p = after_child x (subst (λ y. HoldsAt y x) a.0 h.0) l in
    let q = afters more a.1 o h.1 p.0 in (
      q.0,
      ap (through (readers o)) p.1 ∙ q.1,
      ap (λ y. code l ++ y) (steps-append (preorder x) (preorders o))
          ∙ (sym (append_assoc (code l) (steps (preorder x)) (steps (preorders o))) ∙ (ap (λ y. y ++ steps (preorders o)) p.2 ∙ q.2)),
    )

joined_at : (l e d : List Step) (push do1 : Step) → l ++ push ∷ (e ++ do1 ∷ d) ≡ (l ++ push ∷ (e ++ do1 ∷ [])) ++ d
joined_at l e d push do1 = sym (append_assoc l (push ∷ (e ++ do1 ∷ [])) d ∙ ap (λ y. l ++ push ∷ y) (append_assoc e (do1 ∷ []) d))

within_case : (f : Forest) → HoldAll ((Shows role.Opening) ∷ Value ∷ (Shows role.Closing) ∷ []) f → Holds Value (says kind.Within (first_token f) (readers f)) (steps (preorders f))
within_case Empty h = absurd h
within_case (And a Empty) h = absurd h.1
within_case (And a (And b Empty)) h = absurd h.1.1
within_case (And a (And b (And c (And x o)))) h = absurd h.1.1.1
within_case (And (Node p c1) (And b (And c Empty))) h = absurd h.0
within_case (And (Leaf t) (And b (And (Node p c1) Empty))) h = absurd h.1.1.0
within_case (And (Leaf t) (And b (And (Leaf u) Empty))) h =
    let hv = value_child b h.1.0 in
    (hv.0, hv.1, at_leaf t role.Opening (And b (And (Leaf u) Empty)) h.0.1 ∙ (at_node b (And (Leaf u) Empty) (code hv.0) hv.2 ∙ (ap (λ y. code hv.0 ++ y) (at_leaf u role.Closing Empty h.1.1.0.1) ∙ append-nil (code hv.0))))

named_case : (f : Forest) → HoldAll ((Shows role.Name) ∷ Target ∷ []) f → Holds Value (says kind.Named (first_token f) (readers f)) (steps (preorders f))
named_case Empty h = absurd h
named_case (And a Empty) h = absurd h.1
named_case (And a (And b (And x o))) h = absurd h.1.1
named_case (And (Node p c1) (And b Empty)) h = absurd h.0
named_case (And (Leaf t) (And b Empty)) h =
    let ht = target_child b h.1.0 t.id in
    (ht.0, ht.1, at_leaf t role.Name (And b Empty) h.0.1 ∙ (ap (λ y. PushName t.id ∷ y) (at_last b) ∙ ht.2))

number_case : (f : Forest) → HoldAll ((Shows role.Number) ∷ []) f → Holds Value (says kind.Number (first_token f) (readers f)) (steps (preorders f))
number_case Empty h = absurd h
number_case (And a (And x o)) h = absurd h.1
number_case (And (Node p c1) Empty) h = absurd h.0
number_case (And (Leaf t) Empty) h =
    (Number t.id, refl, at_leaf t role.Number Empty h.0.1)

prefix_case : (f : Forest) → HoldAll ((Shows role.Operator) ∷ Value ∷ TurnMark ∷ []) f → Holds Value (says kind.Prefix (first_token f) (readers f)) (steps (preorders f))
prefix_case Empty h = absurd h
prefix_case (And a Empty) h = absurd h.1
prefix_case (And a (And b Empty)) h = absurd h.1.1
prefix_case (And a (And b (And c (And x o)))) h = absurd h.1.1.1
prefix_case (And (Node p c1) (And b (And c Empty))) h = absurd h.0
prefix_case (And (Leaf t) (And b (And c Empty))) h =
    let hv = value_child b h.1.0 in (
      Prefix (operator_of t.class) hv.0,
      ap (λ x. Done (Prefix (operator_of t.class) (expression x))) hv.1,
      at_leaf t role.Operator (And b (And c Empty)) h.0.1 ∙ ap (λ y. PushOp (operator_of t.class) ∷ y) (at_node b (And c Empty) (code hv.0) hv.2 ∙ ap (λ y. code hv.0 ++ y) (at_last c ∙ turn_child c h.1.1.0)),
    )

binary_case : (f : Forest) → HoldAll ((Shows role.Operator) ∷ Value ∷ DoMark ∷ After ∷ []) f → Holds After (says kind.Binary (first_token f) (readers f)) (steps (preorders f))
binary_case Empty h = absurd h
binary_case (And a Empty) h = absurd h.1
binary_case (And a (And b Empty)) h = absurd h.1.1
binary_case (And a (And b (And c Empty))) h = absurd h.1.1.1
binary_case (And a (And b (And c (And d (And x o))))) h = absurd h.1.1.1.1
binary_case (And (Node p c1) (And b (And c (And d Empty)))) h = absurd h.0
binary_case (And (Leaf t) (And b (And c (And d Empty)))) h =
    λ l. let hv = value_child b h.1.0 in
    let hd = after_child d h.1.1.1.0 (Binary (operator_of t.class) l hv.0) in (
      hd.0,
      ap (λ x. read d (Done (Binary (operator_of t.class) l (expression x)))) hv.1 ∙ hd.1,
      ap (λ y. code l ++ y) (at_leaf t role.Operator (And b (And c (And d Empty))) h.0.1 ∙ ap (λ y. PushOp (operator_of t.class) ∷ y) (at_node b (And c (And d Empty)) (code hv.0) hv.2
          ∙ ap (λ y. code hv.0 ++ y) (at_node c (And d Empty) (DoBinary ∷ []) (do_child c h.1.1.0) ∙ ap (λ y. DoBinary ∷ y) (at_last d))))
          ∙ (joined_at (code l) (code hv.0) (steps (preorder d)) (PushOp (operator_of t.class)) DoBinary ∙ hd.2),
    )

logic_case : (f : Forest) → HoldAll ((Shows role.Logic) ∷ Value ∷ DecideMark ∷ After ∷ []) f → Holds After (says kind.Logic (first_token f) (readers f)) (steps (preorders f))
logic_case Empty h = absurd h
logic_case (And a Empty) h = absurd h.1
logic_case (And a (And b Empty)) h = absurd h.1.1
logic_case (And a (And b (And c Empty))) h = absurd h.1.1.1
logic_case (And a (And b (And c (And d (And x o))))) h = absurd h.1.1.1.1
logic_case (And (Node p c1) (And b (And c (And d Empty)))) h = absurd h.0
logic_case (And (Leaf t) (And b (And c (And d Empty)))) h =
    λ l. let hv = value_child b h.1.0 in
    let hd = after_child d h.1.1.1.0 (Logic (operator_of t.class) l hv.0) in (
      hd.0,
      ap (λ x. read d (Done (Logic (operator_of t.class) l (expression x)))) hv.1 ∙ hd.1,
      ap (λ y. code l ++ y) (at_leaf t role.Logic (And b (And c (And d Empty))) h.0.1 ∙ ap (λ y. Test (operator_of t.class) ∷ y) (at_node b (And c (And d Empty)) (code hv.0) hv.2
          ∙ ap (λ y. code hv.0 ++ y) (at_node c (And d Empty) (Decide ∷ []) (decide_child c h.1.1.0) ∙ ap (λ y. Decide ∷ y) (at_last d))))
          ∙ (joined_at (code l) (code hv.0) (steps (preorder d)) (Test (operator_of t.class)) Decide ∙ hd.2),
    )

choice_case : (f : Forest) → HoldAll ((Shows role.Question) ∷ Value ∷ (Shows role.Colon) ∷ Value ∷ JoinMark ∷ []) f → Holds After (says kind.Chooses (first_token f) (readers f)) (steps (preorders f))
choice_case Empty h = absurd h
choice_case (And a Empty) h = absurd h.1
choice_case (And a (And b Empty)) h = absurd h.1.1
choice_case (And a (And b (And c Empty))) h = absurd h.1.1.1
choice_case (And a (And b (And c (And d Empty)))) h = absurd h.1.1.1.1
choice_case (And a (And b (And c (And d (And e1 (And x o)))))) h = absurd h.1.1.1.1.1
choice_case (And (Node p c1) (And b (And c (And d (And e1 Empty))))) h = absurd h.0
choice_case (And (Leaf t) (And b (And (Node p c1) (And d (And e1 Empty))))) h = absurd h.1.1.0
choice_case (And (Leaf t) (And b (And (Leaf u) (And d (And e1 Empty))))) h =
    λ l. let hb = value_child b h.1.0 in
    let hd = value_child d h.1.1.1.0 in (
      Choice l hb.0 hd.0,
      ap (λ x. Done (Choice l (expression x) (expression (read d Nothing)))) hb.1 ∙ ap (λ x. Done (Choice l hb.0 (expression x))) hd.1,
      ap (λ y. code l ++ y) (at_leaf t role.Question (And b (And (Leaf u) (And d (And e1 Empty)))) h.0.1 ∙ ap (λ y. Question ∷ y) (at_node b (And (Leaf u) (And d (And e1 Empty))) (code hb.0) hb.2
          ∙ ap (λ y. code hb.0 ++ y) (at_leaf u role.Colon (And d (And e1 Empty)) h.1.1.0.1 ∙ ap (λ y. Colon ∷ y) (at_node d (And e1 Empty) (code hd.0) hd.2
          ∙ ap (λ y. code hd.0 ++ y) (at_last e1 ∙ join_child e1 h.1.1.1.1.0))))),
    )

assign_case : (f : Forest) → HoldAll ((Shows role.Assign) ∷ Value ∷ StoreMark ∷ []) f → Holds Target (says kind.Assigns (first_token f) (readers f)) (steps (preorders f))
assign_case Empty h = absurd h
assign_case (And a Empty) h = absurd h.1
assign_case (And a (And b Empty)) h = absurd h.1.1
assign_case (And a (And b (And c (And x o)))) h = absurd h.1.1.1
assign_case (And (Node p c1) (And b (And c Empty))) h = absurd h.0
assign_case (And (Leaf t) (And b (And c Empty))) h =
    λ n. let hv = value_child b h.1.0 in (
      Assign (operator_of t.class) n hv.0,
      ap (λ x. Done (Assign (operator_of t.class) n (expression x))) hv.1,
      ap (λ y. PushName n ∷ y) (at_leaf t role.Assign (And b (And c Empty)) h.0.1 ∙ ap (λ y. Open (operator_of t.class) ∷ y) (at_node b (And c Empty) (code hv.0) hv.2 ∙ ap (λ y. code hv.0 ++ y) (at_last c ∙ store_child c h.1.1.0))),
    )

chain_case : (more : List Sig) → Afters more → (f : Forest) → HoldAll (Value ∷ more) f → Holds Value (through (readers f)) (steps (preorders f))
chain_case more a Empty h = absurd h
chain_case more a (And x o) h =
    let hv = value_child x h.0 in
    let q = afters more a o h.1 hv.0 in
    (q.0, ap (through (readers o)) hv.1 ∙ q.1, at_node x o (code hv.0) hv.2 ∙ q.2)

takes_case : (more : List Sig) → Afters more → (f : Forest) → HoldAll (Target ∷ more) f → Holds Target (through (readers f)) (steps (preorders f))
takes_case more a Empty h = absurd h
takes_case more a (And x o) h =
    λ t. let ht = target_child x h.0 t in
    let q = afters more a o h.1 ht.0 in (
      q.0,
      ap (through (readers o)) ht.1 ∙ q.1,
      ap (λ y. PushName t ∷ y) (steps-append (preorder x) (preorders o)) ∙ (ap (λ y. y ++ steps (preorders o)) ht.2 ∙ q.2),
    )

abbrev Told : Kind → Sig → Forest → Type 0
Told k s f = Holds s (says k (first_token f) (readers f)) (expand_steps k ++ steps (preorders f))

zero_case : (f : Forest) → HoldAll [] f → Told kind.Zero Value f
zero_case Empty h = (Zero, refl, refl)
zero_case (And x o) h = absurd h

load_case : (f : Forest) → HoldAll [] f → Told kind.Load Target f
load_case Empty h = λ t. (Name t, refl, refl)
load_case (And x o) h = absurd h

turn_mark : (f : Forest) → HoldAll [] f → Told kind.Turn TurnMark f
turn_mark Empty h = refl
turn_mark (And x o) h = absurd h

do_mark : (f : Forest) → HoldAll [] f → Told kind.Do DoMark f
do_mark Empty h = refl
do_mark (And x o) h = absurd h

decide_mark : (f : Forest) → HoldAll [] f → Told kind.Decide DecideMark f
decide_mark Empty h = refl
decide_mark (And x o) h = absurd h

join_mark : (f : Forest) → HoldAll [] f → Told kind.Join JoinMark f
join_mark Empty h = refl
join_mark (And x o) h = absurd h

store_mark : (f : Forest) → HoldAll [] f → Told kind.Store StoreMark f
store_mark Empty h = refl
store_mark (And x o) h = absurd h

kind_case : (k : Kind) (s : Sig) (b : List Sig) (f : Forest) → Kinded k s b → HoldAll b f → Told k s f
kind_case kind.Within s b f k h = subst (λ y. Told kind.Within y f) (sym k.0) (within_case f (subst (λ y. HoldAll y f) k.1 h))
kind_case kind.Zero s b f k h = subst (λ y. Told kind.Zero y f) (sym k.0) (zero_case f (subst (λ y. HoldAll y f) k.1 h))
kind_case kind.Named s b f k h = subst (λ y. Told kind.Named y f) (sym k.0) (named_case f (subst (λ y. HoldAll y f) k.1 h))
kind_case kind.Number s b f k h = subst (λ y. Told kind.Number y f) (sym k.0) (number_case f (subst (λ y. HoldAll y f) k.1 h))
kind_case kind.Prefix s b f k h = subst (λ y. Told kind.Prefix y f) (sym k.0) (prefix_case f (subst (λ y. HoldAll y f) k.1 h))
kind_case kind.Binary s b f k h = subst (λ y. Told kind.Binary y f) (sym k.0) (binary_case f (subst (λ y. HoldAll y f) k.1 h))
kind_case kind.Logic s b f k h = subst (λ y. Told kind.Logic y f) (sym k.0) (logic_case f (subst (λ y. HoldAll y f) k.1 h))
kind_case kind.Chooses s b f k h = subst (λ y. Told kind.Chooses y f) (sym k.0) (choice_case f (subst (λ y. HoldAll y f) k.1 h))
kind_case kind.Assigns s b f k h = subst (λ y. Told kind.Assigns y f) (sym k.0) (assign_case f (subst (λ y. HoldAll y f) k.1 h))
kind_case kind.Load s b f k h = subst (λ y. Told kind.Load y f) (sym k.0) (load_case f (subst (λ y. HoldAll y f) k.1 h))
kind_case kind.Turn s b f k h = subst (λ y. Told kind.Turn y f) (sym k.0) (turn_mark f (subst (λ y. HoldAll y f) k.1 h))
kind_case kind.Do s b f k h = subst (λ y. Told kind.Do y f) (sym k.0) (do_mark f (subst (λ y. HoldAll y f) k.1 h))
kind_case kind.Decide s b f k h = subst (λ y. Told kind.Decide y f) (sym k.0) (decide_mark f (subst (λ y. HoldAll y f) k.1 h))
kind_case kind.Join s b f k h = subst (λ y. Told kind.Join y f) (sym k.0) (join_mark f (subst (λ y. HoldAll y f) k.1 h))
kind_case kind.Store s b f k h = subst (λ y. Told kind.Store y f) (sym k.0) (store_mark f (subst (λ y. HoldAll y f) k.1 h))
kind_case kind.Rest s b f k h = subst (λ y. Told kind.Rest y f) (sym k.0) (afters b k.1 f h)
kind_case kind.Chain s b f k h = subst (λ y. Told kind.Chain y f) (sym k.0) (chain_case k.1.0 k.1.2 f (subst (λ y. HoldAll y f) k.1.1 h))
kind_case kind.Takes s b f k h = subst (λ y. Told kind.Takes y f) (sym k.0) (takes_case k.1.0 k.1.2 f (subst (λ y. HoldAll y f) k.1.1 h))

mutual
  pub told : (s : Sig) (t : Tree) → Shaped s t → HoldsAt s t
  told s (Leaf t) h = h
  told s (Node p children) h = kind_case (kind_of p) s h.0 children h.1 (all_told h.0 children h.2)

  all_told : (b : List Sig) (f : Forest) → AllShaped b f → HoldAll b f
  all_told [] Empty h = tt
  all_told (s ∷ b) (And x o) h = (told s x h.0, all_told b o h.1)
  all_told [] (And x o) h = absurd h
  all_told (s ∷ b) Empty h = absurd h
