-- A grammar and its parsing table as plain numbers and lists: what the slices of the tables hold.
-- Symbols, productions and classes go by their numbers. A set of classes is a number with a bit for each class.
use Rattle.std.specs.Prelude.{ℕ, suc, ◌+◌, ◌*◌, ◌/◌, ◌%◌, ◌^◌, Bool, ◌&&◌, List, [], ◌∷◌, map, get_or, nat_eq, nat_le}
use Rattle.sh_grammar.specs.declared.Symbol.{Symbol}
use Rattle.sh_grammar.specs.declared.lookup.Tables.{Tables}
use Rattle.sh_grammar.specs.Grammar.{Grammar, Rule}

pub record Tabulation : Type 0 where
  -- the grammar: of each production its head, its body and the classes that its guard allows; the classes of each terminal;
  -- the class of the end, which is the last; and the start symbol, a nonterminal
  pub heads : List ℕ
  pub bodies : List (List Symbol)
  pub guards : List ℕ
  pub terminals : List ℕ
  pub ending : ℕ
  pub start : ℕ
  -- the table: for each nonterminal the classes with which it may begin, the classes before which it may
  -- derive no token, and for each class the production to use
  pub firsts : List ℕ
  pub nullables : List ℕ
  pub predicts : List ℕ

abbrev pub tabulation_of : Tables → Tabulation
tabulation_of t =
    record {
      heads = t.heads.now;
      bodies = map (λ b. b.now) t.bodies.now;
      guards = t.guards.now;
      terminals = t.terminals.now;
      ending = t.ending;
      start = t.start;
      firsts = t.firsts.now;
      nullables = t.nullables.now;
      predicts = t.predicts.now;
    }

-- the class is in the set
abbrev pub in_set : ℕ → ℕ → Bool
in_set set c = nat_eq ((set / (2 ^ c)) % 2) 1

-- the class is in the set of this number, and no class is after the last
abbrev pub has : ℕ → List ℕ → ℕ → ℕ → Bool
has ending sets n c = nat_le c ending && in_set (get_or sets n 0) c

abbrev pub rules_of : List ℕ → List (List Symbol) → List Rule
rules_of [] bodies = []
rules_of (n ∷ heads) [] = []
rules_of (n ∷ heads) (body ∷ bodies) = record { head = n; body = body } ∷ rules_of heads bodies

abbrev pub grammar_of : Tabulation → Grammar
grammar_of d = record { rules = rules_of d.heads d.bodies; accepts = has d.ending d.terminals; ending = d.ending; allows = has d.ending d.guards }

-- the production to use
abbrev pub prediction : Tabulation → ℕ → ℕ → ℕ
prediction d n c = get_or d.predicts (n * suc d.ending + c) 0
