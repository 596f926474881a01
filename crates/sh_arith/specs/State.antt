-- The machine of `Steps.antt` that the program's machine represents.
use Rattle.sh_base.specs.Memory.{no_memory}
use Rattle.std.specs.Prelude.{◌≡◌, ◌≢◌, ℕ, suc, [], reverse, Option, Some, None}
use Rattle.sh_arith.specs.declared.machine.Machine.{Machine as Parts}
use Rattle.sh_arith.specs.declared.faults.ArithFault.{ArithFault}
use Rattle.sh_arith.specs.declared.faults.ArithFault.TheVariants.{NoMemory}
use Rattle.sh_vars.specs.Environment.{Environment}
use Rattle.sh_arith.specs.Steps.{Stacks, Machine, Runs, Skips, Halts}

abbrev pub stacks_of : Parts → Stacks
stacks_of m = record { values = reverse m.values.items; ops = reverse m.operators.items; names = reverse m.names.items }

abbrev pub state : Option ℕ → Stacks → Environment → Machine
state None s env = Runs s env
state (Some n) s env = Skips n s env

abbrev pub state_of : Parts → Environment → Machine
state_of m env = state m.skip (stacks_of m) env

-- a fault other than want of memory is the one of the definition
abbrev pub Halting : ArithFault → Environment → Machine → Type 0
Halting f env m = f ≢ NoMemory no_memory → Halts f env ≡ m

-- no value yet
abbrev pub none_yet : Stacks
none_yet = record { values = []; ops = []; names = [] }

-- 0 where nothing is skipped, else one more than the number of `Skips`
abbrev pub depth : Option ℕ → ℕ
depth None = 0
depth (Some n) = suc n
