-- How a recognizer's actions so far and its stack are related to derivations.
use Rattle.std.specs.Prelude.{◌≡◌, ℕ, Bool, nat_eq, List, [], ◌∷◌, ◌++◌, Some}
use Rattle.sh_grammar.specs.declared.Symbol.{Symbol}
use Rattle.sh_grammar.specs.declared.Symbol.TheVariants.{Nonterminal}
use Rattle.sh_grammar.specs.declared.Token.{Token}
use Rattle.sh_grammar.specs.declared.Action.{Action}
use Rattle.sh_grammar.specs.Grammar.{Grammar}
use Rattle.sh_grammar.specs.Leftmost.{tokens_of, Leftmost}
use Rattle.sh_grammar.specs.Tabulation.{Tabulation, grammar_of}
use Rattle.sh_grammar.specs.Table.{Table, table_of}
use Rattle.sh_grammar.specs.Predictive.{Evidence, Fits, Ends}
use Rattle.sh_grammar.specs.Passes.{Witness, evidence_of, Passes}
use Rattle.sh_grammar.specs.Computed.{stack_after}

-- what is known of the tokens to come: nothing, the next one, or that there is none
abbrev pub Any : List Token → Type 0
Any more = Unit {0}

abbrev pub Begins : Token → List Token → Type 0
Begins u [] = ⊥
Begins u (v ∷ more) = v ≡ u

abbrev pub Ended : List Token → Type 0
Ended [] = Unit {0}
Ended (v ∷ more) = ⊥

abbrev pub at_end : Grammar → ℕ → Bool
at_end g c = nat_eq c g.ending

-- the new actions are the old ones with more after them
abbrev pub Extends : List Action → List Action → Type 0
Extends old new = (more : List Action) × (new ≡ old ++ more)

pub record Splits (g : Grammar) (stack : List Symbol) (done actions : List Action) : Type 0 where
  pub rest : List Action
  pub joined : actions ≡ done ++ rest
  pub leads : Leftmost g g.ending stack rest

-- the actions done lead to the stack, and each derivation of the tokens begins with these actions
pub record Reaches (g : Grammar) (t : Table) (evidence : Evidence) (ahead : List Token → Type 0) (done : List Action) (stack : List Symbol) : Type 0 where
  pub sound : (actions : List Action) → ahead (tokens_of actions) → Leftmost g g.ending stack actions → Leftmost g g.ending (Nonterminal t.start ∷ []) (done ++ actions)
  pub complete : (actions : List Action) (more : List Token) → ahead more → Leftmost g g.ending (Nonterminal t.start ∷ []) actions → tokens_of actions ≡ tokens_of done ++ more → Splits g stack done actions
  pub fits : Fits g t evidence (at_end g) stack
  pub ends : Ends g evidence g.ending stack

-- the same for a grammar that passes the test
pub record Stands (d : Tabulation) (ahead : List Token → Type 0) (done : List Action) (stack : List Symbol) : Type 0 where
  pub witness : Witness
  pub passes : Passes d witness
  pub reaches : Reaches (grammar_of d) (table_of d) (evidence_of d witness) ahead done stack

-- and the stack is the computed one
pub record Keeps (d : Tabulation) (done : List Action) (stack : List Symbol) : Type 0 where
  pub stands : Stands d Any done stack
  pub computed : stack_after (grammar_of d) (table_of d) (Some (Nonterminal d.start ∷ [])) (tokens_of done) ≡ Some stack
