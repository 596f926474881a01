-- A turn of a program: what it asks is done, and it takes the answer (the table of turns of a kind of program is its meaning).
use Rattle.std.specs.Prelude.{◌≡◌, ℕ, List, drop}
use Rattle.sh_exec_machine.specs.Transfers.{give_bytes, take_bytes}
use Rattle.sh_exec_machine.specs.declared.transfer.WriteOutcome.{WriteOutcome}
use Rattle.sh_exec_machine.specs.declared.transfer.WriteOutcome.TheVariants as given
use Rattle.sh_exec_machine.specs.declared.transfer.ReadOutcome.{ReadOutcome}
use Rattle.sh_exec_machine.specs.declared.transfer.ReadOutcome.TheVariants as taken
use Rattle.sh_kernel.specs.Calls.{end_call, kill_call}
use Rattle.sh_kernel.specs.State.{KernelKept, KernelState, StandsAt}
use Rattle.sh_kernel_descriptors.specs.declared.descriptor.DescriptorRef.TheVariants.{Number}
use Rattle.sh_stock.specs.Asking.{Meaning}
use Rattle.sh_stock.specs.declared.asking.Answer.{Answer}
use Rattle.sh_stock.specs.declared.asking.Answer.TheVariants as answer
use Rattle.sh_stock.specs.declared.asking.Ask.{Ask}
use Rattle.sh_kernel_processes.specs.declared.target.SignalTarget.TheVariants.{Process}
use Rattle.sh_signal.specs.declared.signal.Signal.TheVariants.{Stop}
use Rattle.sh_stock.specs.declared.asking.Ask.TheVariants as ask
use Rattle.sh_stock.specs.declared.asking.Ask.TheVariants.{Read, Write, Idle, End}

-- a program, and what it asks
pub record ProgramState (S : Type 0) : Type 0 where
  pub ask : Ask
  pub program : S

abbrev pub asks : {S : Type 0} → Ask → S → ProgramState S
asks ask program = record { ask = ask; program = program }

-- the machine, and what goes on in the process, after a turn
pub record Left (A : Type 0) : Type 0 where
  pub machine : KernelState
  pub next : A

abbrev pub with_next : {A : Type 0} → KernelState → A → Left A
with_next s next = record { machine = s; next = next }

-- a program that has its answer asks next
abbrev pub asking : {S : Type 0} → Meaning S → S → Answer → ProgramState S
asking m program answer = let t = m.turn program answer in asks t.ask t.program

-- ---- reads are from descriptor 0
abbrev pub read_by : {S : Type 0} → Meaning S → ℕ → S → ReadOutcome → ProgramState S
read_by m count program (taken.Bytes bytes) = asking m program (answer.Bytes bytes)
read_by m count program taken.Wait = asks (Read count) program
read_by m count program taken.Failed = asking m program answer.Failed

unfoldable pub read_turn : {S : Type 0} → Meaning S → KernelState → ℕ → ℕ → S → Left (ProgramState S)
read_turn m s pid count program = let t = take_bytes s pid (Number 0) count in with_next t.after (read_by m count program t.told)

-- ---- writes are to descriptor 1; what didn't go is still to be written
abbrev pub write_by : {S : Type 0} → Meaning S → List ℕ → S → WriteOutcome → ProgramState S
write_by m bytes program given.Whole = asking m program answer.Done
write_by m bytes program (given.Part count) = asks (Write (drop count bytes)) program
write_by m bytes program given.Wait = asks (Write bytes) program
write_by m bytes program given.Failed = asking m program answer.Failed

unfoldable pub write_turn : {S : Type 0} → Meaning S → KernelState → ℕ → List ℕ → S → Left (ProgramState S)
write_turn m s pid bytes program = let g = give_bytes s pid 1 bytes in with_next g.after (write_by m bytes program g.told)

unfoldable pub end_turn : {S : Type 0} → KernelState → ℕ → ℕ → S → Left (ProgramState S)
end_turn s pid status program = with_next (end_call s pid status).after (asks (End status) program)

-- a program that asks to be stopped sends itself STOP, and goes on once it is continued
unfoldable pub stop_turn : {S : Type 0} → Meaning S → KernelState → ℕ → S → Left (ProgramState S)
stop_turn m s pid program = with_next (kill_call s (Process pid) Stop).after (asking m program answer.Done)

abbrev pub ask_turn : {S : Type 0} → Meaning S → KernelState → ℕ → Ask → S → Left (ProgramState S)
ask_turn m s pid (Read count) program = read_turn m s pid count program
ask_turn m s pid (Write bytes) program = write_turn m s pid bytes program
ask_turn m s pid ask.Stop program = stop_turn m s pid program
ask_turn m s pid Idle program = with_next s (asking m program answer.Done)
ask_turn m s pid (End status) program = end_turn s pid status program

-- the kernel, and what goes on, are what a turn leaves
pub record HasLeft {A : Type 0} (kernel : KernelKept) (next : A) (l : Left A) : Type 0 where
  pub state : StandsAt kernel l.machine
  pub next_is : next ≡ l.next
