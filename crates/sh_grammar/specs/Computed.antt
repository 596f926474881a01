-- What derives, by computation: the stack of symbols that are still to come, token by token.
-- The laws 'whole_is_text', 'prefix_begins_text' and 'prefix_length_is_longest' tie it to derivations.
use Rattle.std.specs.Prelude.{ℕ, zero, suc, Bool, true, false, List, [], ◌∷◌, ◌++◌, Option, Some, None, slice_get, if◌then◌else◌}
use Rattle.sh_grammar.specs.declared.Symbol.{Symbol}
use Rattle.sh_grammar.specs.declared.Symbol.TheVariants.{Terminal, Nonterminal}
use Rattle.sh_grammar.specs.declared.Token.{Token}
use Rattle.sh_grammar.specs.Grammar.{Grammar, Rule}
use Rattle.sh_grammar.specs.Tabulation.{Tabulation, grammar_of}
use Rattle.sh_grammar.specs.Table.{Table, first_of, nullable_of, cost_of, table_of}

abbrev pub body_in : Option Rule → List Symbol
body_in None = []
body_in (Some r) = r.body

abbrev pub rule_body : Grammar → Option ℕ → List Symbol
rule_body g None = []
rule_body g (Some p) = body_in (slice_get g.rules p)

-- uses productions until a terminal is on top, and takes that terminal; at most so many steps
abbrev pub lead : Grammar → Table → ℕ → List Symbol → ℕ → Option (List Symbol)
lead g t zero stack c = None
lead g t (suc f) [] c = None
lead g t (suc f) (Terminal k ∷ stack) c = Some stack
lead g t (suc f) (Nonterminal n ∷ stack) c = lead g t f (rule_body g (t.predict n c) ++ stack) c

abbrev pub next_stack : Grammar → Table → List Symbol → ℕ → Option (List Symbol)
next_stack g t stack c = if first_of g t stack c then lead g t (suc (cost_of t stack)) stack c else None

-- the stack after the tokens, or None where one was refused
abbrev pub stack_after : Grammar → Table → Option (List Symbol) → List Token → Option (List Symbol)
stack_after g t None tokens = None
stack_after g t (Some s) [] = Some s
stack_after g t (Some s) (u ∷ tokens) = stack_after g t (next_stack g t s u.class) tokens

abbrev pub may_stop : Grammar → Table → Option (List Symbol) → Bool
may_stop g t None = false
may_stop g t (Some s) = nullable_of g t s g.ending

abbrev pub continues : Option (List Symbol) → Bool
continues None = false
continues (Some s) = true

-- the tokens are a whole text
abbrev pub is_whole : Tabulation → List Token → Bool
is_whole d tokens = may_stop (grammar_of d) (table_of d) (stack_after (grammar_of d) (table_of d) (Some (Nonterminal d.start ∷ [])) tokens)

-- the tokens begin a text
abbrev pub is_prefix : Tabulation → List Token → Bool
is_prefix d tokens = continues (stack_after (grammar_of d) (table_of d) (Some (Nonterminal d.start ∷ [])) tokens)

abbrev pub count_if_taken : Option (List Symbol) → ℕ → ℕ
count_if_taken None n = 0
count_if_taken (Some s) n = suc n

-- how many tokens are taken, up to the first that is refused
abbrev pub taken_from : Grammar → Table → Option (List Symbol) → List Token → ℕ
taken_from g t None tokens = 0
taken_from g t (Some s) [] = 0
taken_from g t (Some s) (u ∷ tokens) = count_if_taken (next_stack g t s u.class) (taken_from g t (next_stack g t s u.class) tokens)

-- the length of the longest prefix of a text that the tokens begin with
abbrev pub prefix_length : Tabulation → List Token → ℕ
prefix_length d tokens = taken_from (grammar_of d) (table_of d) (Some (Nonterminal d.start ∷ [])) tokens
