-- The value of a text's tree is what its steps come to.
use Rattle.sh_base.specs.Memory.{no_memory}
use Rattle.std.proofs.Common.{◌≡◌, ◌≢◌, ℕ, ℤ, pos, List, [], ◌∷◌, refl, sym, ap, ◌∙◌}
use Rattle.sh_grammar.specs.Grammar.{Tree, IsTree}
use Rattle.sh_grammar.specs.Leftmost.{preorder}
use Rattle.sh_arith_grammar.specs.Grammar.{arithmetic, arithmetic_grammar}
use Rattle.sh_grammar.specs.declared.Symbol.TheVariants.{Nonterminal}
use Rattle.sh_grammar.specs.declared.Action.{Action}
use Rattle.sh_arith.specs.declared.faults.ArithFault.{ArithFault}
use Rattle.sh_arith.specs.Outcome.{Outcome, Gives, Stops}
use Rattle.sh_vars.specs.Environment.{Environment}
use Rattle.sh_arith_grammar.specs.declared.operators.Operator.{Operator}
use Rattle.sh_arith.specs.Value.{value}
use Rattle.sh_arith.specs.Steps.{Stacks, Machine, Runs, Skips, Halts, run, outcome_on}
use Rattle.sh_arith_grammar.specs.Stack.{top}
use Rattle.sh_arith_grammar.proofs.Sig.{Value, SORTS}
use Rattle.sh_arith.specs.Reading.{expression, expression_of, steps, step_of}
use Rattle.sh_arith.specs.State.{none_yet, Halting, state}
use Rattle.std.specs.Prelude.{Option, Some, None, reverse}
use Rattle.sh_arith.specs.declared.faults.ArithFault.TheVariants.{NoMemory}
use Rattle.sh_arith.proofs.Running.{run-append, ran, halts}
use Rattle.sh_arith_grammar.proofs.Shape.{shaped}
use Rattle.sh_arith.proofs.Telling.{told, value_child}

-- the steps of the whole preorder come to the value of what the tree says
pub whole : (text : List ℕ) → (tree : Tree) (actions : List Action) (env : Environment) → IsTree arithmetic_grammar arithmetic_grammar.ending (Nonterminal arithmetic.start) tree → preorder tree ≡ actions → run text (steps actions) (Runs none_yet env) ≡ outcome_on none_yet (value text (expression_of tree) env)
unfolding SORTS arithmetic
whole text tree actions env h e =
    let t = value_child tree (told Value tree (shaped arithmetic_grammar.ending (Nonterminal arithmetic.start) tree h)) in
    ap (λ a. run text (steps a) (Runs none_yet env)) (sym e)
    ∙ (ap (λ c. run text c (Runs none_yet env)) t.2
    ∙ (ran text t.0 none_yet env ∙ ap (λ l. outcome_on none_yet (value text (expression l) env)) (sym t.1)))

-- a fault of one step is one of them all
pub halting : (text : List ℕ) → (a : Action) (others : List Action) (m n : Machine) (f : ArithFault) (env : Environment) → Halting f env (run text (step_of a) m) → run text (steps (a ∷ others)) m ≡ n → Halting f env n
halting text a others m n f env h e = λ w. sym (halts text (steps others) f env) ∙ (ap (run text (steps others)) (h w) ∙ (sym (run-append text (step_of a) (steps others) m) ∙ e))

halt_of : Machine → Outcome → Outcome
halt_of (Halts f env) o = Stops f env
halt_of (Runs s env) o = Gives (top (pos 0) s.values) env
halt_of (Skips n s env) o = o

back : (o : Outcome) → halt_of (outcome_on none_yet o) o ≡ o
unfolding halt_of
back (Gives v env) = refl
back (Stops f env) = refl

-- what the machine comes to is what the tree says
pub comes_to_fault : (text : List ℕ) → (actions : List Action) (env after : Environment) (f : ArithFault) → Halting f after (run text (steps actions) (Runs none_yet env)) → f ≢ NoMemory no_memory → (tree : Tree) → IsTree arithmetic_grammar arithmetic_grammar.ending (Nonterminal arithmetic.start) tree → preorder tree ≡ actions → value text (expression_of tree) env ≡ Stops f after
unfolding halt_of
comes_to_fault text actions env after f h w tree t e =
    let o = value text (expression_of tree) env in
    sym (back o) ∙ ap (λ m. halt_of m o) (sym (h w ∙ whole text tree actions env t e))

state_gives : (k : Option ℕ) (s : Stacks) (env : Environment) (o : Outcome) → state k s env ≡ outcome_on none_yet o → o ≡ Gives (top (pos 0) s.values) env
unfolding halt_of
state_gives None s env o e = sym (back o) ∙ ap (λ m. halt_of m o) (sym e)
state_gives (Some n) s env (Gives v f) e = absurd (cc)
state_gives (Some n) s env (Stops v f) e = absurd (cc)

pub comes_to_value : (text : List ℕ) → (actions : List Action) (env after : Environment) (k : Option ℕ) (s : Stacks) (v : ℤ) → state k s after ≡ run text (steps actions) (Runs none_yet env) → v ≡ top (pos 0) s.values → (tree : Tree) → IsTree arithmetic_grammar arithmetic_grammar.ending (Nonterminal arithmetic.start) tree → preorder tree ≡ actions → value text (expression_of tree) env ≡ Gives v after
comes_to_value text actions env after k s v h w tree t e =
    state_gives k s after (value text (expression_of tree) env) (h ∙ whole text tree actions env t e) ∙ ap (λ x. Gives x after) (sym w)

abbrev pub empty : List ℤ → List Operator → List ℕ → Stacks
empty a b d = record { values = a; ops = b; names = d }

-- where an evaluation starts
pub started : (a : List ℤ) (b : List Operator) (d : List ℕ) → a ≡ [] → b ≡ [] → d ≡ [] → empty (reverse a) (reverse b) (reverse d) ≡ none_yet
started a b d e f g =
    ap (λ x. empty x (reverse b) (reverse d)) (ap reverse e) ∙ (ap (λ x. empty [] x (reverse d)) (ap reverse f) ∙ ap (λ x. empty [] [] x) (ap reverse g))
