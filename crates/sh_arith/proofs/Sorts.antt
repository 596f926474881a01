-- What each symbol of the grammar is to the levels of operators.
use Rattle.std.specs.Prelude.{ℕ, List, [], ◌∷◌}
use Rattle.sh_grammar.specs.declared.Symbol.{Symbol}
use Rattle.sh_grammar.specs.declared.Symbol.TheVariants.{Terminal, Nonterminal}
use Rattle.sh_arith_grammar.specs.Precedence.{Grouping, FromLeft, FromRight}
use Rattle.sh_arith_grammar.specs.Roles.{nth}

pub data Sort : Type 0 where
  Whole : Sort
  Loosest : Sort
  AfterName : Sort
  AfterOperand : Sort
  Operand : (i : ℕ) → Sort
  Rest : (g : Grouping) → (i : ℕ) → Sort
  Mark : Sort
  LoadMark : Sort
  Shown : (k : ℕ) → Sort

-- of each nonterminal
abbrev pub SORTS : List Sort
SORTS =
    Whole ∷ Loosest ∷ AfterName ∷ AfterOperand ∷ Operand 1 ∷ Rest FromRight 1 ∷ Operand 2 ∷ Rest FromLeft 2 ∷ Operand 3 ∷ Rest FromLeft 3 ∷ Operand 4 ∷ Rest FromLeft 4
    ∷ Operand 5 ∷ Rest FromLeft 5 ∷ Operand 6 ∷ Rest FromLeft 6 ∷ Operand 7 ∷ Rest FromLeft 7 ∷ Operand 8 ∷ Rest FromLeft 8 ∷ Operand 9 ∷ Rest FromLeft 9
    ∷ Operand 10 ∷ Rest FromLeft 10 ∷ Operand 11 ∷ Rest FromLeft 11 ∷ Operand 12 ∷ Operand 12 ∷ Mark ∷ LoadMark ∷ Mark ∷ Mark ∷ Mark ∷ Mark ∷ []

abbrev pub sort : Symbol → Sort
sort (Terminal k) = Shown k
sort (Nonterminal n) = nth Mark SORTS n

abbrev pub sorts : List Symbol → List Sort
sorts [] = []
sorts (s ∷ symbols) = sort s ∷ sorts symbols
