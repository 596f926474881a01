-- The code of an expression runs to its value.
use Rattle.std.proofs.Common.{◌≡◌, ℕ, suc, Bool, true, false, ℤ, List, [], ◌∷◌, ◌++◌, refl, ap, ◌∙◌}
use Rattle.std.specs.Prelude.{if◌then◌else◌, not}
use Rattle.sh_vars.specs.Environment.{Environment}
use Rattle.sh_arith_grammar.specs.declared.operators.Operator.{Operator}
use Rattle.sh_arith.specs.Expression.{Expression, Zero, Number, Name, Prefix, Binary, Logic, Choice, Assign}
use Rattle.sh_arith.specs.Outcome.{Outcome, Gives, Stops, and_then}
use Rattle.sh_arith_grammar.specs.Operators.{is_zero, truth, unary_result}
use Rattle.sh_arith.specs.Value.{value, assignment, operation, decides, before}
use Rattle.sh_arith.specs.Steps.{Step, PushOp, DoPrefix, DoBinary, Test, Decide, Question, Colon, Join, Store, Stacks, Machine, Runs, Skips, Halts, outcome_on, take_name, do_prefix, do_binary, test_left, decide, question, open_assign, store, push, code, run, perform}

pub run-append : (text : List ℕ) → (a b : List Step) (m : Machine) → run text (a ++ b) m ≡ run text b (run text a m)
run-append text [] b m = refl
run-append text (step ∷ a) b m = run-append text a b (perform text step m)

-- one more operand, between what is before it and the steps after it
pub run-between : (text : List ℕ) → (a : List Step) (step : Step) (b : List Step) (m : Machine) → run text (a ++ step ∷ b) m ≡ run text b (perform text step (run text a m))
run-between text a step b m = run-append text a (step ∷ b) m

pub halts : (text : List ℕ) → (a : List Step) (f : _) (env : Environment) → run text a (Halts f env) ≡ Halts f env
halts text [] f env = refl
halts text (step ∷ a) f env = halts text a f env

pub skipped : (text : List ℕ) → (e : Expression) (n : ℕ) (s : Stacks) (env : Environment) → run text (code e) (Skips n s env) ≡ Skips n s env
skipped text Zero n s env = refl
skipped text (Number t) n s env = refl
skipped text (Name t) n s env = refl
skipped text (Prefix op x) n s env = run-between text (code x) DoPrefix [] (Skips n s env) ∙ ap (perform text DoPrefix) (skipped text x n s env)
skipped text (Binary op x y) n s env =
    run-between text (code x) (PushOp op) _ (Skips n s env)
    ∙ (ap (λ m. run text (code y ++ DoBinary ∷ []) (perform text (PushOp op) m)) (skipped text x n s env)
    ∙ (run-between text (code y) DoBinary [] (Skips n s env) ∙ ap (perform text DoBinary) (skipped text y n s env)))
skipped text (Logic op x y) n s env =
    run-between text (code x) (Test op) _ (Skips n s env)
    ∙ (ap (λ m. run text (code y ++ Decide ∷ []) (perform text (Test op) m)) (skipped text x n s env)
    ∙ (run-between text (code y) Decide [] (Skips (suc n) s env) ∙ ap (perform text Decide) (skipped text y (suc n) s env)))
skipped text (Choice c x y) n s env =
    run-between text (code c) Question _ (Skips n s env)
    ∙ (ap (λ m. run text (code x ++ Colon ∷ (code y ++ Join ∷ [])) (perform text Question m)) (skipped text c n s env)
    ∙ (run-between text (code x) Colon _ (Skips (suc n) s env)
    ∙ (ap (λ m. run text (code y ++ Join ∷ []) (perform text Colon m)) (skipped text x (suc n) s env)
    ∙ (run-between text (code y) Join [] (Skips (suc n) s env) ∙ ap (perform text Join) (skipped text y (suc n) s env)))))
skipped text (Assign op t x) n s env = run-between text (code x) Store [] (Skips n s env) ∙ ap (perform text Store) (skipped text x n s env)

prefix_end : (text : List ℕ) → (op : Operator) (s : Stacks) (o : Outcome) → perform text DoPrefix (outcome_on (record { values = s.values; ops = op ∷ s.ops; names = s.names }) o) ≡ outcome_on s (and_then o (λ v. Gives (unary_result op v)))
unfolding take_name do_prefix do_binary test_left decide question open_assign store
prefix_end text op s (Gives v e) = refl
prefix_end text op s (Stops f e) = refl

binary_end : (text : List ℕ) → (op : Operator) (v : ℤ) (s : Stacks) (o : Outcome) → perform text DoBinary (outcome_on (record { values = v ∷ s.values; ops = op ∷ s.ops; names = s.names }) o) ≡ outcome_on s (and_then o (operation op v))
unfolding take_name do_prefix do_binary test_left decide question open_assign store
binary_end text op v s (Gives w e) = refl
binary_end text op v s (Stops f e) = refl

decide_end : (text : List ℕ) → (s : Stacks) (o : Outcome) → perform text Decide (outcome_on s o) ≡ outcome_on s (and_then o (λ w. Gives (truth (not (is_zero w)))))
unfolding take_name do_prefix do_binary test_left decide question open_assign store
decide_end text s (Gives w e) = refl
decide_end text s (Stops f e) = refl

join_end : (text : List ℕ) → (s : Stacks) (o : Outcome) → perform text Join (outcome_on s o) ≡ outcome_on s o
join_end text s (Gives w e) = refl
join_end text s (Stops f e) = refl

store_end : (text : List ℕ) → (op : Operator) (t : ℕ) (v : ℤ) (s : Stacks) (o : Outcome) → perform text Store (outcome_on (record { values = v ∷ s.values; ops = op ∷ s.ops; names = t ∷ s.names }) o) ≡ outcome_on s (and_then o (λ w f. and_then (operation op v w f) (assignment text t)))
unfolding take_name do_prefix do_binary test_left decide question open_assign store
store_end text op t v s (Gives w e) = refl
store_end text op t v s (Stops f e) = refl

-- the steps run text to the outcome, and skipped text they change nothing
pub record Means (text : List ℕ) (a : List Step) (f : Environment → Outcome) : Type 0 where
  pub runs : (s : Stacks) (env : Environment) → run text a (Runs s env) ≡ outcome_on s (f env)
  pub skips : (n : ℕ) (s : Stacks) (env : Environment) → run text a (Skips n s env) ≡ Skips n s env

binary_rest : (text : List ℕ) → (op : Operator) (y : List Step) (g : Environment → Outcome) (s : Stacks) (o : Outcome) → Means text y g → run text (y ++ DoBinary ∷ []) (perform text (PushOp op) (outcome_on s o)) ≡ outcome_on s (and_then o (λ v e. and_then (g e) (operation op v)))
binary_rest text op y g s (Stops f e) h = halts text (y ++ DoBinary ∷ []) f e
binary_rest text op y g s (Gives v e) h =
    run-between text y DoBinary [] (Runs (record { values = v ∷ s.values; ops = op ∷ s.ops; names = s.names }) e)
    ∙ (ap (perform text DoBinary) (h.runs (record { values = v ∷ s.values; ops = op ∷ s.ops; names = s.names }) e)
    ∙ binary_end text op v s (g e))

logic_taken : (text : List ℕ) → (b : Bool) (v : ℤ) (y : List Step) (g : Environment → Outcome) (s : Stacks) (e : Environment) → Means text y g → run text (y ++ Decide ∷ []) (if b then Skips 0 (push s (truth (not (is_zero v)))) e else Runs s e) ≡ outcome_on s (if b then Gives (truth (not (is_zero v))) e else and_then (g e) (λ w. Gives (truth (not (is_zero w)))))
unfolding take_name do_prefix do_binary test_left decide question open_assign store
logic_taken text true v y g s e h = run-between text y Decide [] (Skips 0 (push s (truth (not (is_zero v)))) e) ∙ ap (perform text Decide) (h.skips 0 (push s (truth (not (is_zero v)))) e)
logic_taken text false v y g s e h = run-between text y Decide [] (Runs s e) ∙ (ap (perform text Decide) (h.runs s e) ∙ decide_end text s (g e))

logic_rest : (text : List ℕ) → (op : Operator) (y : List Step) (g : Environment → Outcome) (s : Stacks) (o : Outcome) → Means text y g → run text (y ++ Decide ∷ []) (perform text (Test op) (outcome_on s o)) ≡ outcome_on s (and_then o (λ v e. if decides op v then Gives (truth (not (is_zero v))) e else and_then (g e) (λ w. Gives (truth (not (is_zero w))))))
unfolding take_name do_prefix do_binary test_left decide question open_assign store
logic_rest text op y g s (Stops f e) h = halts text (y ++ Decide ∷ []) f e
logic_rest text op y g s (Gives v e) h = logic_taken text (decides op v) v y g s e h

colon_rest : (text : List ℕ) → (y : List Step) (g : Environment → Outcome) (s : Stacks) (o : Outcome) → Means text y g → run text (y ++ Join ∷ []) (perform text Colon (outcome_on s o)) ≡ outcome_on s o
colon_rest text y g s (Stops f e) h = halts text (y ++ Join ∷ []) f e
colon_rest text y g s (Gives v e) h = run-between text y Join [] (Skips 0 (push s v) e) ∙ ap (perform text Join) (h.skips 0 (push s v) e)

choice_taken : (text : List ℕ) → (b : Bool) (x y : List Step) (f g : Environment → Outcome) (s : Stacks) (e : Environment) → Means text x f → Means text y g → run text (x ++ Colon ∷ (y ++ Join ∷ [])) (if b then Skips 0 s e else Runs s e) ≡ outcome_on s (if b then g e else f e)
choice_taken text true x y f g s e hx hy =
    run-between text x Colon (y ++ Join ∷ []) (Skips 0 s e)
    ∙ (ap (λ m. run text (y ++ Join ∷ []) (perform text Colon m)) (hx.skips 0 s e)
    ∙ (run-between text y Join [] (Runs s e) ∙ (ap (perform text Join) (hy.runs s e) ∙ join_end text s (g e))))
choice_taken text false x y f g s e hx hy =
    run-between text x Colon (y ++ Join ∷ []) (Runs s e)
    ∙ (ap (λ m. run text (y ++ Join ∷ []) (perform text Colon m)) (hx.runs s e) ∙ colon_rest text y g s (f e) hy)

choice_rest : (text : List ℕ) → (x y : List Step) (f g : Environment → Outcome) (s : Stacks) (o : Outcome) → Means text x f → Means text y g → run text (x ++ Colon ∷ (y ++ Join ∷ [])) (perform text Question (outcome_on s o)) ≡ outcome_on s (and_then o (λ v e. if is_zero v then g e else f e))
unfolding take_name do_prefix do_binary test_left decide question open_assign store
choice_rest text x y f g s (Stops fault e) hx hy = halts text (x ++ Colon ∷ (y ++ Join ∷ [])) fault e
choice_rest text x y f g s (Gives v e) hx hy = choice_taken text (is_zero v) x y f g s e hx hy

assign_rest : (text : List ℕ) → (op : Operator) (t : ℕ) (x : List Step) (g : Environment → Outcome) (s : Stacks) (o : Outcome) → Means text x g → run text (x ++ Store ∷ []) (outcome_on (record { values = s.values; ops = op ∷ s.ops; names = t ∷ s.names }) o) ≡ outcome_on s (and_then o (λ v e. and_then (g e) (λ w f. and_then (operation op v w f) (assignment text t))))
unfolding take_name do_prefix do_binary test_left decide question open_assign store
assign_rest text op t x g s (Stops f e) h = halts text (x ++ Store ∷ []) f e
assign_rest text op t x g s (Gives v e) h =
    run-between text x Store [] (Runs (record { values = v ∷ s.values; ops = op ∷ s.ops; names = t ∷ s.names }) e)
    ∙ (ap (perform text Store) (h.runs (record { values = v ∷ s.values; ops = op ∷ s.ops; names = t ∷ s.names }) e)
    ∙ store_end text op t v s (g e))

means : (text : List ℕ) → (e : Expression) → ((s : Stacks) (env : Environment) → run text (code e) (Runs s env) ≡ outcome_on s (value text e env)) → Means text (code e) (value text e)
means text e h = record { runs = h; skips = skipped text e }

pub ran : (text : List ℕ) → (e : Expression) (s : Stacks) (env : Environment) → run text (code e) (Runs s env) ≡ outcome_on s (value text e env)
unfolding take_name do_prefix do_binary test_left decide question open_assign store
ran text Zero s env = refl
ran text (Number t) s env = refl
ran text (Name t) s env = refl
ran text (Prefix op x) s env =
    run-between text (code x) DoPrefix [] (Runs (record { values = s.values; ops = op ∷ s.ops; names = s.names }) env)
    ∙ (ap (perform text DoPrefix) (ran text x (record { values = s.values; ops = op ∷ s.ops; names = s.names }) env)
    ∙ prefix_end text op s (value text x env))
ran text (Binary op x y) s env =
    run-between text (code x) (PushOp op) (code y ++ DoBinary ∷ []) (Runs s env)
    ∙ (ap (λ m. run text (code y ++ DoBinary ∷ []) (perform text (PushOp op) m)) (ran text x s env)
    ∙ binary_rest text op (code y) (value text y) s (value text x env) (means text y (ran text y)))
ran text (Logic op x y) s env =
    run-between text (code x) (Test op) (code y ++ Decide ∷ []) (Runs s env)
    ∙ (ap (λ m. run text (code y ++ Decide ∷ []) (perform text (Test op) m)) (ran text x s env)
    ∙ logic_rest text op (code y) (value text y) s (value text x env) (means text y (ran text y)))
ran text (Choice c x y) s env =
    run-between text (code c) Question (code x ++ Colon ∷ (code y ++ Join ∷ [])) (Runs s env)
    ∙ (ap (λ m. run text (code x ++ Colon ∷ (code y ++ Join ∷ [])) (perform text Question m)) (ran text c s env)
    ∙ choice_rest text (code x) (code y) (value text x) (value text y) s (value text c env) (means text x (ran text x)) (means text y (ran text y)))
ran text (Assign op t x) s env = assign_rest text op t (code x) (value text x) s (before text op t env) (means text x (ran text x))
