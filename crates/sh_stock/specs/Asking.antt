-- What programs of one kind do: in each turn an answer comes in and an ask goes out.
use Rattle.std.specs.Prelude.{◌≡◌, ℕ, ◌≤◌, List, length, Option}
use Rattle.sh_stock.specs.declared.asking.Ask.TheVariants.{Read, Write}
use Rattle.sh_stock.specs.declared.asking.Answer.{Answer}
use Rattle.sh_stock.specs.declared.asking.Turn.{Turn}

-- the program of a name with its operands, if there is one of that name; and a program's turn when an answer
-- comes
pub record Meaning (S : Type 0) : Type 0 where
  pub start : List ℕ → List (List ℕ) → Option S
  pub turn : S → Answer → Turn S

-- the laws of programs: a read asks for at least one byte, and a write has at least one
pub record KeepsLaws {S : Type 0} (m : Meaning S) : Type 0 where
  pub reads : (s : S) (answer : Answer) (n : ℕ) → (m.turn s answer).ask ≡ Read n → 1 ≤ n
  pub writes : (s : S) (answer : Answer) (bytes : List ℕ) → (m.turn s answer).ask ≡ Write bytes → 1 ≤ length bytes
