-- How often a nonterminal is still to come, by computation.
use Rattle.std.specs.Prelude.{ℕ, Bool, false, nat_eq, List, [], ◌∷◌, Option, Some, None}
use Rattle.std.specs.List.{count_by}
use Rattle.sh_grammar.specs.declared.Symbol.{Symbol}
use Rattle.sh_grammar.specs.declared.Symbol.TheVariants.{Terminal, Nonterminal}
use Rattle.sh_grammar.specs.declared.Token.{Token}
use Rattle.sh_grammar.specs.Computed.{stack_after}
use Rattle.sh_grammar.specs.Table.{table_of}
use Rattle.sh_grammar.specs.Tabulation.{Tabulation, grammar_of}

-- the symbol is the nonterminal of this number
abbrev pub is_nonterminal : ℕ → Symbol → Bool
is_nonterminal n (Terminal k) = false
is_nonterminal n (Nonterminal m) = nat_eq m n

abbrev pub times_in : ℕ → Option (List Symbol) → ℕ
times_in n None = 0
times_in n (Some stack) = count_by (is_nonterminal n) stack

-- how often the nonterminal of this number is on the stack after the tokens; 0 where a token was refused
abbrev pub awaited_count : Tabulation → ℕ → List Token → ℕ
awaited_count d n tokens = times_in n (stack_after (grammar_of d) (table_of d) (Some (Nonterminal d.start ∷ [])) tokens)
