-- Programs of some kind, and one more beside them for the tests: `twice`, which writes each byte twice, whatever its
-- operands. `None` stands for it, and `Some` for the others.
use Rattle.std.specs.Prelude.{ℕ, List, [], ◌∷◌, codes, Option, Some, None, option_map, if◌then◌else◌}
use Rattle.std.specs.Str.{bytes_eq}
use Rattle.sh_stock.specs.Asking.{Meaning}
use Rattle.sh_stock.specs.Filtering.{Filtering}
use Rattle.sh_stock.specs.declared.asking.Answer.{Answer}
use Rattle.sh_stock.specs.declared.asking.Answer.TheVariants.{Started, Bytes, Done, Failed}
use Rattle.sh_stock.specs.declared.asking.Ask.{Ask}
use Rattle.sh_stock.specs.declared.asking.Ask.TheVariants.{Read, Write, End}
use Rattle.sh_stock.specs.declared.asking.Turn.{Turn}

-- each byte twice
abbrev pub twice : List ℕ → List ℕ
twice [] = []
twice (byte ∷ bytes) = byte ∷ (byte ∷ twice bytes)

abbrev pub twice_read : List ℕ → Ask
twice_read [] = End 0
twice_read (byte ∷ bytes) = Write (twice (byte ∷ bytes))

abbrev pub twice_ask : Answer → Ask
twice_ask Started = Read 1024
twice_ask (Bytes bytes) = twice_read bytes
twice_ask Done = Read 1024
twice_ask Failed = End 1

abbrev pub with_twice_turn : {S : Type 0} → Meaning S → Option S → Answer → Turn (Option S)
with_twice_turn m None answer = record { program = None; ask = twice_ask answer }
with_twice_turn m (Some program) answer =
    record { program = Some (m.turn program answer).program; ask = (m.turn program answer).ask }

abbrev pub with_twice_start : {S : Type 0} → Meaning S → List ℕ → List (List ℕ) → Option (Option S)
with_twice_start {S} m name operands =
    if bytes_eq name (codes "twice") then Some None else option_map (λ (program : S). Some program) (m.start name operands)

abbrev pub with_twice : {S : Type 0} → Meaning S → Meaning (Option S)
with_twice m = record { start = with_twice_start m; turn = with_twice_turn m }

abbrev pub twice_filter : Filtering
twice_filter = record { output = twice; status = λ x. 0; part = twice }

abbrev pub with_twice_filtering : (List ℕ → List (List ℕ) → Option Filtering) → List ℕ → List (List ℕ) → Option Filtering
with_twice_filtering filtering name operands =
    if bytes_eq name (codes "twice") then Some twice_filter else filtering name operands
