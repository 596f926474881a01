-- What one token of lookahead says of a list of symbols, by a table.
use Rattle.std.specs.Prelude.{ℕ, zero, suc, ◌+◌, Bool, true, false, ◌&&◌, ◌||◌, List, [], ◌∷◌, length, get_or, nat_eq, nat_lt, if◌then◌else◌, Option, Some}
use Rattle.sh_grammar.specs.declared.Symbol.{Symbol}
use Rattle.sh_grammar.specs.declared.Symbol.TheVariants.{Terminal, Nonterminal}
use Rattle.sh_grammar.specs.Grammar.{Grammar, Rule}
use Rattle.sh_grammar.specs.Tabulation.{Tabulation, has, rules_of, prediction}

pub record Table : Type 0 where
  pub start : ℕ
  -- first n c: the nonterminal may begin with a token of the class c; nullable n c: it may derive no token,
  -- before the class c
  pub first : ℕ → ℕ → Bool
  pub nullable : ℕ → ℕ → Bool
  -- the production to use
  pub predict : ℕ → ℕ → Option ℕ
  -- vanishes n: the nonterminal is nullable before some class; weight n: a bound on the productions that are
  -- used in a row from it on
  pub vanishes : ℕ → Bool
  pub weight : ℕ → ℕ

abbrev pub nullable_of : Grammar → Table → List Symbol → ℕ → Bool
nullable_of g t [] c = true
nullable_of g t (Terminal k ∷ symbols) c = false
nullable_of g t (Nonterminal n ∷ symbols) c = t.nullable n c && nullable_of g t symbols c

abbrev pub first_of : Grammar → Table → List Symbol → ℕ → Bool
first_of g t [] c = false
first_of g t (Terminal k ∷ symbols) c = g.accepts k c
first_of g t (Nonterminal n ∷ symbols) c = t.first n c || (t.nullable n c && first_of g t symbols c)

abbrev pub vanishing : Table → List Symbol → Bool
vanishing t [] = true
vanishing t (Terminal k ∷ symbols) = false
vanishing t (Nonterminal n ∷ symbols) = t.vanishes n && vanishing t symbols

-- what the symbols weigh, up to the first that doesn't vanish
abbrev pub cost_by : (ℕ → Bool) → (ℕ → ℕ) → List Symbol → ℕ
cost_by vanishes weight [] = 0
cost_by vanishes weight (Terminal k ∷ symbols) = 0
cost_by vanishes weight (Nonterminal n ∷ symbols) = weight n + (if vanishes n then cost_by vanishes weight symbols else 0)

abbrev pub cost_of : Table → List Symbol → ℕ
cost_of t symbols = cost_by t.vanishes t.weight symbols

abbrev pub cost_of_head : (List Symbol → ℕ) → ℕ → List Rule → ℕ
cost_of_head cost n [] = 0
cost_of_head cost n (r ∷ rules) = (if nat_eq r.head n then cost r.body else 0) + cost_of_head cost n rules

abbrev pub vanishes_by : Tabulation → ℕ → Bool
vanishes_by d n = nat_lt 0 (get_or d.nullables n 0)

-- one more than what all bodies of the nonterminal weigh, looking so many levels down
abbrev pub weight_within : Tabulation → ℕ → ℕ → ℕ
weight_within d zero n = 0
weight_within d (suc levels) n = suc (cost_of_head (cost_by (vanishes_by d) (weight_within d levels)) n (rules_of d.heads d.bodies))

unfoldable pub weight_by : Tabulation → ℕ → ℕ
weight_by d n = weight_within d (suc (length d.firsts)) n

abbrev pub table_of : Tabulation → Table
table_of d =
    record {
      start = d.start;
      first = has d.ending d.firsts;
      nullable = has d.ending d.nullables;
      predict = λ n c. Some (prediction d n c);
      vanishes = vanishes_by d;
      weight = weight_by d;
    }
