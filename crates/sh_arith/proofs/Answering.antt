-- What the evaluation of a text's derivation says of the text.
use Rattle.sh_base.specs.Memory.{no_memory}
use Rattle.std.proofs.Common.{◌≡◌, ◌≢◌, ℕ, ℤ, true, List, refl, sym, ap, ◌∙◌, inr, Result, Ok, Err}
use Rattle.std.specs.Prelude.{IfOk, IfErr}
use Rattle.sh_grammar.specs.declared.Token.{Token}
use Rattle.sh_grammar.specs.declared.Action.{Action}
use Rattle.sh_grammar.specs.declared.Symbol.TheVariants.{Nonterminal}
use Rattle.sh_grammar.specs.Grammar.{Tree, IsTree}
use Rattle.sh_grammar.specs.Leftmost.{preorder}
use Rattle.sh_grammar.specs.Passes.{IsPredictive}
use Rattle.sh_grammar.specs.Tabulation.{Tabulation}
use Rattle.sh_grammar.specs.Text.{IsTreeOf}
use Rattle.sh_vars.specs.Environment.{Environment}
use Rattle.sh_arith.specs.declared.faults.ArithFault.{ArithFault}
use Rattle.sh_arith.specs.declared.faults.ArithFault.TheVariants.{NoMemory}
use Rattle.sh_arith.specs.Evaluation.{HasFault, Says}
use Rattle.sh_arith.specs.Expression.{Expression}
use Rattle.sh_arith_grammar.specs.Grammar.{arithmetic, arithmetic_grammar}
use Rattle.sh_arith_grammar.specs.Levels.{are_shallow, none_open}
use Rattle.sh_arith_grammar.specs.Lexical.{tokens_of}
use Rattle.sh_arith.specs.Outcome.{Outcome, Gives, Stops}
use Rattle.sh_arith.specs.Reading.{expression_of}
use Rattle.sh_arith.specs.Value.{value}
use Rattle.sh_arith_grammar.proofs.Passes.{arithmetic_predictive}

pub says_one : ((d : Tabulation) → IsPredictive d → (tokens : List Token) (x y : Tree) → IsTreeOf d tokens x → IsTreeOf d tokens y → x ≡ y) → (text : List ℕ) (x y : Expression) → Says text x → Says text y → x ≡ y
says_one h text x y a b = sym a.says ∙ (ap expression_of (h arithmetic arithmetic_predictive (tokens_of text) a.tree b.tree a.derives b.derives) ∙ b.says)

-- the derivation has an outcome
abbrev pub ComesTo : List ℕ → List Action → Environment → Outcome → Type 0
ComesTo text actions before o = (tree : Tree) → IsTree arithmetic_grammar arithmetic_grammar.ending (Nonterminal arithmetic.start) tree → preorder tree ≡ actions → value text (expression_of tree) before ≡ o

comes : (text : List ℕ) (actions : List Action) (before : Environment) (o : Outcome) (tree : Tree) → IsTreeOf arithmetic (tokens_of text) tree → preorder tree ≡ actions → ComesTo text actions before o → are_shallow none_open (tokens_of text) ≡ true → (e : Expression) × Says text e × (value text e before ≡ o)
unfolding arithmetic arithmetic_grammar
comes text actions before o tree t p h s = (expression_of tree, record { tree = tree; derives = t; says = refl; shallow = s }, h tree t.shape p)

pub gives : (text : List ℕ) (actions : List Action) (before after : Environment) (r : Result ℤ ArithFault) (read : (tree : Tree) × IsTreeOf arithmetic (tokens_of text) tree × (preorder tree ≡ actions)) → are_shallow none_open (tokens_of text) ≡ true → IfOk r (λ v. ComesTo text actions before (Gives v after)) → IfOk r (λ v. (e : Expression) × Says text e × (value text e before ≡ Gives v after))
gives text actions before after (Ok v) read s h = comes text actions before (Gives v after) read.0 read.1 read.2 h s
gives text actions before after (Err f) read s h = tt

pub stops : (text : List ℕ) (actions : List Action) (before after : Environment) (r : Result ℤ ArithFault) (read : (tree : Tree) × IsTreeOf arithmetic (tokens_of text) tree × (preorder tree ≡ actions)) → are_shallow none_open (tokens_of text) ≡ true → IfErr r (λ f. f ≢ NoMemory no_memory → ComesTo text actions before (Stops f after)) → IfErr r (λ f. f ≢ NoMemory no_memory → HasFault text before f after)
stops text actions before after (Ok v) read s h = tt
stops text actions before after (Err f) read s h = λ n. inr (comes text actions before (Stops f after) read.0 read.1 read.2 (h n) s)
