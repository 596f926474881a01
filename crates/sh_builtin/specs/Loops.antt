-- How built-ins leave commands (XCU 2.15 break, continue, exit, return).
use Rattle.std.specs.Prelude.{ℕ, zero, suc, List, [], ◌∷◌, Option, Some, None, codes, nat_le, if◌then◌else◌}
use Rattle.std.specs.Str.{bytes_eq}
use Rattle.sh_base.specs.Decimals.{number_of}
use Rattle.sh_builtin_outcome.specs.Outcomes.{left, misuse}
use Rattle.sh_builtin_outcome.specs.declared.builtin.Builtin.{Builtin}
use Rattle.sh_builtin_outcome.specs.declared.outcome.Leave.{Leave}
use Rattle.sh_builtin_outcome.specs.declared.outcome.Outcome.{Outcome}

-- an operand `--` ends the options (XBD 12.2, guideline 10)
abbrev pub operands_of : List (List ℕ) → List (List ℕ)
operands_of [] = []
operands_of (first ∷ others) = if bytes_eq first (codes "--") then others else first ∷ others

-- ---- exit and return leave the shell or a function with the status of their operand, from 0 to 255, without one with the last status
abbrev pub up_to_255 : Option ℕ → Option ℕ
up_to_255 None = None
up_to_255 (Some n) = if nat_le n 255 then Some n else None

abbrev pub status_in : List ℕ → Option ℕ
status_in operand = up_to_255 (number_of operand)

abbrev pub leave_by : Builtin → (ℕ → Leave) → Option ℕ → Outcome
leave_by builtin way None = misuse builtin
leave_by builtin way (Some status) = left (way status)

abbrev pub leave_with : Builtin → (ℕ → Leave) → ℕ → List (List ℕ) → Outcome
leave_with builtin way last [] = left (way last)
leave_with builtin way last (operand ∷ []) = leave_by builtin way (status_in operand)
leave_with builtin way last (operand ∷ more ∷ others) = misuse builtin

-- ---- break and continue name a loop by its number, from 1 for the innermost on; what leaves commands tells
-- how many loops are inside that one
abbrev pub loop_by : Builtin → (ℕ → Leave) → Option ℕ → Outcome
loop_by builtin way None = misuse builtin
loop_by builtin way (Some zero) = misuse builtin
loop_by builtin way (Some (suc inside)) = left (way inside)

abbrev pub loop_with : Builtin → (ℕ → Leave) → List (List ℕ) → Outcome
loop_with builtin way [] = left (way 0)
loop_with builtin way (operand ∷ []) = loop_by builtin way (number_of operand)
loop_with builtin way (operand ∷ more ∷ others) = misuse builtin
