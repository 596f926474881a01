-- The conditions of traps (XCU 2.15 trap): EXIT, which is 0, and signals, by name or number.
use Rattle.std.specs.Prelude.{ℕ, List, [], ◌∷◌, ◌==◌, Option, Some, None, codes, if◌then◌else◌}
use Rattle.std.specs.Str.{bytes_eq}
use Rattle.sh_base.specs.Decimals.{number_of}
use Rattle.sh_signal.specs.declared.condition.Condition.{Condition}
use Rattle.sh_signal.specs.declared.condition.Condition.TheVariants.{Exit, Caught}
use Rattle.sh_signal.specs.Signals as signal
use Rattle.sh_signal.specs.declared.signal.Signal.{Signal}
use Rattle.sh_signal.specs.declared.signal.Signal.TheVariants.{Hangup, Interrupt, Quit, Abort, Kill, User1, User2, Pipe, Alarm, Terminate, Child, Continue, Stop, TerminalStop, TerminalInput, TerminalOutput}

abbrev pub place_of : Condition → ℕ
place_of Exit = 0
place_of (Caught s) = signal.number_of s

abbrev pub name_of : Condition → List ℕ
name_of Exit = codes "EXIT"
name_of (Caught s) = signal.name_of s

abbrev pub caught : Option Signal → Option Condition
caught None = None
caught (Some s) = Some (Caught s)

abbrev pub condition_by_number : ℕ → Option Condition
condition_by_number n = if n == 0 then Some Exit else caught (signal.signal_with_number n)

abbrev pub condition_by_name : List ℕ → Option Condition
condition_by_name word = if bytes_eq word (codes "EXIT") then Some Exit else caught (signal.signal_with_name word)

abbrev pub condition_by : List ℕ → Option ℕ → Option Condition
condition_by word None = condition_by_name word
condition_by word (Some n) = condition_by_number n

-- the condition of an operand
abbrev pub condition_of : List ℕ → Option Condition
condition_of word = condition_by word (number_of word)

-- in the order in which they are listed
abbrev pub conditions : List Condition
conditions =
    Exit ∷ Caught Hangup ∷ Caught Interrupt ∷ Caught Quit ∷ Caught Abort ∷ Caught Kill ∷ Caught User1 ∷ Caught User2 ∷ Caught Pipe
    ∷ Caught Alarm ∷ Caught Terminate ∷ Caught Child ∷ Caught Continue ∷ Caught Stop ∷ Caught TerminalStop ∷ Caught TerminalInput
    ∷ Caught TerminalOutput ∷ []
