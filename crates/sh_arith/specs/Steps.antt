-- The value of `Value.antt` step by step, in the order of the tree's preorder, with stacks of values,
-- operators and names. `Skips` has how many `&&`, `||` and `?` are open inside the skipped operand.
use Rattle.std.specs.Prelude.{ℕ, zero, suc, not, ℤ, pos, List, [], ◌∷◌, ◌++◌, if◌then◌else◌}
use Rattle.sh_vars.specs.Environment.{Environment}
use Rattle.sh_arith_grammar.specs.declared.operators.Operator.{Operator}
use Rattle.sh_arith_grammar.specs.declared.operators.Operator.TheVariants as operator
use Rattle.sh_arith.specs.declared.faults.ArithFault.{ArithFault}
use Rattle.sh_arith_grammar.specs.Stack.{rest, top}
use Rattle.sh_arith.specs.Expression.{Expression, Zero, Number, Name, Prefix, Binary, Logic, Choice, Assign}
use Rattle.sh_arith.specs.Outcome.{Outcome, Gives, Stops, and_then}
use Rattle.sh_arith_grammar.specs.Operators.{is_zero, truth, unary_result}
use Rattle.sh_arith.specs.Value.{constant, variable_value, assignment, operation, decides, before}

pub data Step : Type 0 where
  PushZero : Step
  PushNumber : (place : ℕ) → Step
  PushName : (place : ℕ) → Step
  TakeName : Step
  PushOp : (op : Operator) → Step
  DoPrefix : Step
  DoBinary : Step
  Test : (op : Operator) → Step
  Decide : Step
  Question : Step
  Colon : Step
  Join : Step
  Open : (op : Operator) → Step
  Store : Step

pub record Stacks : Type 0 where
  pub values : List ℤ
  pub ops : List Operator
  pub names : List ℕ

pub data Machine : Type 0 where
  Runs : (stacks : Stacks) → (env : Environment) → Machine
  Skips : (more : ℕ) → (stacks : Stacks) → (env : Environment) → Machine
  Halts : (fault : ArithFault) → (env : Environment) → Machine

abbrev pub push : Stacks → ℤ → Stacks
push s v = record { values = v ∷ s.values; ops = s.ops; names = s.names }

abbrev pub outcome_on : Stacks → Outcome → Machine
outcome_on s (Gives v env) = Runs (push s v) env
outcome_on s (Stops f env) = Halts f env

-- the steps of an expression
abbrev pub code : Expression → List Step
code Zero = PushZero ∷ []
code (Number t) = PushNumber t ∷ []
code (Name t) = PushName t ∷ TakeName ∷ []
code (Prefix op x) = PushOp op ∷ (code x ++ DoPrefix ∷ [])
code (Binary op x y) = code x ++ PushOp op ∷ (code y ++ DoBinary ∷ [])
code (Logic op x y) = code x ++ Test op ∷ (code y ++ Decide ∷ [])
code (Choice c x y) = code c ++ Question ∷ (code x ++ Colon ∷ (code y ++ Join ∷ []))
code (Assign op t x) = PushName t ∷ Open op ∷ (code x ++ Store ∷ [])

unfoldable pub take_name : List ℕ → Stacks → Environment → Machine
take_name text s env = outcome_on (record { values = s.values; ops = s.ops; names = rest s.names }) (variable_value text (top 0 s.names) env)

unfoldable pub do_prefix : Stacks → Environment → Machine
do_prefix s env = Runs (record { values = unary_result (top operator.Assign s.ops) (top (pos 0) s.values) ∷ rest s.values; ops = rest s.ops; names = s.names }) env

unfoldable pub do_binary : Stacks → Environment → Machine
do_binary s env = outcome_on (record { values = rest (rest s.values); ops = rest s.ops; names = s.names }) (operation (top operator.Assign s.ops) (top (pos 0) (rest s.values)) (top (pos 0) s.values) env)

unfoldable pub test_left : Operator → Stacks → Environment → Machine
test_left op s env =
    if decides op (top (pos 0) s.values) then Skips 0 (record { values = truth (not (is_zero (top (pos 0) s.values))) ∷ rest s.values; ops = s.ops; names = s.names }) env
    else Runs (record { values = rest s.values; ops = s.ops; names = s.names }) env

unfoldable pub decide : Stacks → Environment → Machine
decide s env = Runs (record { values = truth (not (is_zero (top (pos 0) s.values))) ∷ rest s.values; ops = s.ops; names = s.names }) env

unfoldable pub question : Stacks → Environment → Machine
question s env =
    if is_zero (top (pos 0) s.values) then Skips 0 (record { values = rest s.values; ops = s.ops; names = s.names }) env
    else Runs (record { values = rest s.values; ops = s.ops; names = s.names }) env

unfoldable pub open_assign : List ℕ → Operator → Stacks → Environment → Machine
open_assign text op s env = outcome_on (record { values = s.values; ops = op ∷ s.ops; names = s.names }) (before text op (top 0 s.names) env)

unfoldable pub store : List ℕ → Stacks → Environment → Machine
store text s env =
    outcome_on (record { values = rest (rest s.values); ops = rest s.ops; names = rest s.names })
    (and_then (operation (top operator.Assign s.ops) (top (pos 0) (rest s.values)) (top (pos 0) s.values) env) (assignment text (top 0 s.names)))

abbrev pub live : List ℕ → Step → Stacks → Environment → Machine
live text PushZero s env = Runs (push s (pos 0)) env
live text (PushNumber t) s env = outcome_on s (constant text t env)
live text (PushName t) s env = Runs (record { values = s.values; ops = s.ops; names = t ∷ s.names }) env
live text TakeName s env = take_name text s env
live text (PushOp op) s env = Runs (record { values = s.values; ops = op ∷ s.ops; names = s.names }) env
live text DoPrefix s env = do_prefix s env
live text DoBinary s env = do_binary s env
live text (Test op) s env = test_left op s env
live text Decide s env = decide s env
live text Question s env = question s env
live text Colon s env = Skips 0 s env
live text Join s env = Runs s env
live text (Open op) s env = open_assign text op s env
live text Store s env = store text s env

abbrev pub leave : ℕ → Stacks → Environment → Machine
leave zero s env = Runs s env
leave (suc n) s env = Skips n s env

abbrev pub colon : ℕ → Stacks → Environment → Machine
colon zero s env = Runs s env
colon (suc n) s env = Skips (suc n) s env

-- in a skipped operand only those steps count that open and close `&&`, `||` and `?`
abbrev pub skip : Step → ℕ → Stacks → Environment → Machine
skip PushZero n s env = Skips n s env
skip (PushNumber t) n s env = Skips n s env
skip (PushName t) n s env = Skips n s env
skip TakeName n s env = Skips n s env
skip (PushOp op) n s env = Skips n s env
skip DoPrefix n s env = Skips n s env
skip DoBinary n s env = Skips n s env
skip (Test op) n s env = Skips (suc n) s env
skip Decide n s env = leave n s env
skip Question n s env = Skips (suc n) s env
skip Colon n s env = colon n s env
skip Join n s env = leave n s env
skip (Open op) n s env = Skips n s env
skip Store n s env = Skips n s env

abbrev pub perform : List ℕ → Step → Machine → Machine
perform text step (Runs s env) = live text step s env
perform text step (Skips n s env) = skip step n s env
perform text step (Halts f env) = Halts f env

abbrev pub run : List ℕ → List Step → Machine → Machine
run text [] m = m
run text (step ∷ steps) m = run text steps (perform text step m)
