-- The expression that a tree of the grammar says, and its preorder as steps.
use Rattle.std.specs.Prelude.{ℕ, zero, suc, List, [], ◌∷◌, ◌++◌}
use Rattle.sh_grammar.specs.declared.Token.{Token}
use Rattle.sh_grammar.specs.declared.Action.{Action}
use Rattle.sh_grammar.specs.declared.Action.TheVariants.{Expand, Shift}
use Rattle.sh_arith_grammar.specs.declared.grammar.Kind.{Kind}
use Rattle.sh_arith_grammar.specs.declared.grammar.Kind.TheVariants as kind
use Rattle.sh_grammar.specs.Grammar.{Tree, Forest, Leaf, Node, Empty, And}
use Rattle.sh_arith.specs.Expression.{Expression, Zero, Number, Name, Prefix, Binary, Logic, Choice, Assign}
use Rattle.sh_arith.specs.Steps.{Step, PushZero, PushNumber, PushName, TakeName, PushOp, DoPrefix, DoBinary, Test, Decide, Question, Colon, Join, Open, Store}
use Rattle.sh_arith_grammar.specs.declared.operators.Role.{Role}
use Rattle.sh_arith_grammar.specs.declared.operators.Role.TheVariants as role
use Rattle.sh_arith_grammar.specs.Roles.{kind_of, operator_of, role_of}

-- what is to the left: nothing, a name whose value may not be needed, or an expression
pub data Left : Type 0 where
  Nothing : Left
  Named : (place : ℕ) → Left
  Done : (e : Expression) → Left

abbrev pub expression : Left → Expression
expression Nothing = Zero
expression (Named place) = Name place
expression (Done e) = e

abbrev pub name : Left → ℕ
name Nothing = 0
name (Named place) = place
name (Done e) = 0

abbrev pub first_token : Forest → Token
first_token Empty = record { class = 0; id = 0 }
first_token (And (Leaf t) others) = t
first_token (And (Node p ts) others) = record { class = 0; id = 0 }

-- the readers one after another, each on what is to its left
abbrev pub through : List (Left → Left) → Left → Left
through [] l = l
through (r ∷ rs) l = through rs (r l)

abbrev pub child : ℕ → List (Left → Left) → Left → Left
child n [] l = l
child zero (r ∷ rs) l = r l
child (suc n) (r ∷ rs) l = child n rs l

abbrev pub says : Kind → Token → List (Left → Left) → Left → Left
says kind.Chain t rs l = through rs l
says kind.Rest t rs l = through rs l
says kind.Within t rs l = through rs l
says kind.Takes t rs l = through rs l
says kind.Zero t rs l = Done Zero
says kind.Named t rs l = child 1 rs (Named t.id)
says kind.Number t rs l = Done (Number t.id)
says kind.Prefix t rs l = Done (Prefix (operator_of t.class) (expression (child 1 rs Nothing)))
says kind.Binary t rs l = child 3 rs (Done (Binary (operator_of t.class) (expression l) (expression (child 1 rs Nothing))))
says kind.Logic t rs l = child 3 rs (Done (Logic (operator_of t.class) (expression l) (expression (child 1 rs Nothing))))
says kind.Chooses t rs l = Done (Choice (expression l) (expression (child 1 rs Nothing)) (expression (child 3 rs Nothing)))
says kind.Assigns t rs l = Done (Assign (operator_of t.class) (name l) (expression (child 1 rs Nothing)))
says kind.Load t rs l = Done (Name (name l))
says kind.Turn t rs l = l
says kind.Do t rs l = l
says kind.Decide t rs l = l
says kind.Join t rs l = l
says kind.Store t rs l = l

abbrev mutual
  pub read : Tree → Left → Left
  read (Leaf t) = λ l. l
  read (Node p children) = says (kind_of p) (first_token children) (readers children)

  pub readers : Forest → List (Left → Left)
  readers Empty = []
  readers (And x others) = read x ∷ readers others

-- ---- the steps of a preorder

abbrev pub shift_steps : Role → Token → List Step
shift_steps role.Number t = PushNumber t.id ∷ []
shift_steps role.Name t = PushName t.id ∷ []
shift_steps role.Operator t = PushOp (operator_of t.class) ∷ []
shift_steps role.Logic t = Test (operator_of t.class) ∷ []
shift_steps role.Question t = Question ∷ []
shift_steps role.Colon t = Colon ∷ []
shift_steps role.Assign t = Open (operator_of t.class) ∷ []
shift_steps role.Opening t = []
shift_steps role.Closing t = []
shift_steps role.Nothing t = []

abbrev pub expand_steps : Kind → List Step
expand_steps kind.Chain = []
expand_steps kind.Rest = []
expand_steps kind.Within = []
expand_steps kind.Takes = []
expand_steps kind.Zero = PushZero ∷ []
expand_steps kind.Named = []
expand_steps kind.Number = []
expand_steps kind.Prefix = []
expand_steps kind.Binary = []
expand_steps kind.Logic = []
expand_steps kind.Chooses = []
expand_steps kind.Assigns = []
expand_steps kind.Load = TakeName ∷ []
expand_steps kind.Turn = DoPrefix ∷ []
expand_steps kind.Do = DoBinary ∷ []
expand_steps kind.Decide = Decide ∷ []
expand_steps kind.Join = Join ∷ []
expand_steps kind.Store = Store ∷ []

abbrev pub step_of : Action → List Step
step_of (Shift t) = shift_steps (role_of t.class) t
step_of (Expand p) = expand_steps (kind_of p)

abbrev pub steps : List Action → List Step
steps [] = []
steps (a ∷ actions) = step_of a ++ steps actions

-- what the tree of a text says
abbrev pub expression_of : Tree → Expression
expression_of tree = expression (read tree Nothing)
