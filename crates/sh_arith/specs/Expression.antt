-- What an arithmetic text says, once it is read.
use Rattle.std.specs.Prelude.{ℕ}
use Rattle.sh_arith_grammar.specs.declared.operators.Operator.{Operator}

-- a constant and a name are given by their places in the text; `x += y` is `Assign Plus`, and `x = y` is
-- `Assign Assign`
pub data Expression : Type 0 where
  Zero : Expression
  Number : (place : ℕ) → Expression
  Name : (place : ℕ) → Expression
  Prefix : (op : Operator) → (x : Expression) → Expression
  Binary : (op : Operator) → (left right : Expression) → Expression
  Logic : (op : Operator) → (left right : Expression) → Expression
  Choice : (test yes no : Expression) → Expression
  Assign : (op : Operator) → (place : ℕ) → (x : Expression) → Expression
