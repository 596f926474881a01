-- The value of a text as a function (XCU 2.6.4). The law 'evaluation_is_computed' ties it to 'Says' and 'HasFault'.
use Rattle.std.specs.Prelude.{ℕ, List, [], ◌∷◌, ◌++◌, Bool, true, false, Option, Some, None, length}
use Rattle.sh_grammar.specs.declared.Token.{Token}
use Rattle.sh_grammar.specs.Computed.{is_prefix, is_whole}
use Rattle.sh_grammar.specs.Derived.{tree_of}
use Rattle.sh_vars.specs.Environment.{Environment}
use Rattle.sh_arith_grammar.specs.Grammar.{arithmetic}
use Rattle.sh_arith_grammar.specs.Levels.{is_deep, none_open, open_after}
use Rattle.sh_arith_grammar.specs.Lexical.{tokens_of}
use Rattle.sh_arith.specs.declared.faults.ArithFault.{ArithFault}
use Rattle.sh_arith.specs.declared.faults.ArithFault.TheVariants.{Syntax, TooDeep}
use Rattle.sh_arith.specs.Outcome.{Outcome, Stops}
use Rattle.sh_arith.specs.Reading.{expression_of}
use Rattle.sh_arith.specs.Value.{value}

-- a token that no expression goes on with is refused, and so is one that opens a level too many
abbrev pub refusal_by : (goes_on is_deep : Bool) → Token → Option ArithFault → Option ArithFault
refusal_by false deep token others = Some (Syntax token.id)
refusal_by true true token others = Some TooDeep
refusal_by true false token others = others

abbrev pub refusal_at_end : (is_whole : Bool) → ℕ → Option ArithFault
refusal_at_end true place = None
refusal_at_end false place = Some (Syntax place)

-- why one of `tokens`, or the end after them, is refused after the tokens `taken`, if it is; the end has this
-- place
abbrev pub refusal_from : ℕ → (taken tokens : List Token) → Option ArithFault
refusal_from place taken [] = refusal_at_end (is_whole arithmetic taken) place
refusal_from place taken (token ∷ tokens) =
    refusal_by (is_prefix arithmetic (taken ++ token ∷ [])) (is_deep (open_after none_open (taken ++ token ∷ []))) token
    (refusal_from place (taken ++ token ∷ []) tokens)

unfoldable pub refusal : List ℕ → Option ArithFault
refusal text = refusal_from (length text) [] (tokens_of text)

-- a refused text is not evaluated; another text has the value of the expression that its tree says
abbrev pub outcome_unless : Option ArithFault → List ℕ → Environment → Outcome
outcome_unless (Some fault) text env = Stops fault env
outcome_unless None text env = value text (expression_of (tree_of arithmetic (tokens_of text))) env

unfoldable pub evaluation : List ℕ → Environment → Outcome
evaluation text env = outcome_unless (refusal text) text env
