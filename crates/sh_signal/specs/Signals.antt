-- Signals (XBD 13, signal.h): their names without SIG, their numbers, and what each does by default.
use Rattle.std.specs.Prelude.{ℕ, List, [], ◌∷◌, ◌==◌, Option, find, codes}
use Rattle.std.specs.Str.{bytes_eq}
use Rattle.sh_signal.specs.declared.signal.DefaultAction.{DefaultAction}
use Rattle.sh_signal.specs.declared.signal.DefaultAction.TheVariants as default
use Rattle.sh_signal.specs.declared.signal.Signal.{Signal}
use Rattle.sh_signal.specs.declared.signal.Signal.TheVariants.{Hangup, Interrupt, Quit, Abort, Kill, User1, User2, Pipe, Alarm, Terminate, Child, Continue, Stop, TerminalStop, TerminalInput, TerminalOutput}

abbrev pub number_of : Signal → ℕ
number_of Hangup = 1
number_of Interrupt = 2
number_of Quit = 3
number_of Abort = 6
number_of Kill = 9
number_of User1 = 10
number_of User2 = 12
number_of Pipe = 13
number_of Alarm = 14
number_of Terminate = 15
number_of Child = 17
number_of Continue = 18
number_of Stop = 19
number_of TerminalStop = 20
number_of TerminalInput = 21
number_of TerminalOutput = 22

abbrev pub name_of : Signal → List ℕ
name_of Hangup = codes "HUP"
name_of Interrupt = codes "INT"
name_of Quit = codes "QUIT"
name_of Abort = codes "ABRT"
name_of Kill = codes "KILL"
name_of User1 = codes "USR1"
name_of User2 = codes "USR2"
name_of Pipe = codes "PIPE"
name_of Alarm = codes "ALRM"
name_of Terminate = codes "TERM"
name_of Child = codes "CHLD"
name_of Continue = codes "CONT"
name_of Stop = codes "STOP"
name_of TerminalStop = codes "TSTP"
name_of TerminalInput = codes "TTIN"
name_of TerminalOutput = codes "TTOU"

abbrev pub default_of : Signal → DefaultAction
default_of Hangup = default.End
default_of Interrupt = default.End
default_of Quit = default.End
default_of Abort = default.End
default_of Kill = default.End
default_of User1 = default.End
default_of User2 = default.End
default_of Pipe = default.End
default_of Alarm = default.End
default_of Terminate = default.End
default_of Child = default.Ignore
default_of Continue = default.Continue
default_of Stop = default.Stop
default_of TerminalStop = default.Stop
default_of TerminalInput = default.Stop
default_of TerminalOutput = default.Stop

-- all signals, in the order of their numbers
abbrev pub signals : List Signal
signals =
    Hangup ∷ Interrupt ∷ Quit ∷ Abort ∷ Kill ∷ User1 ∷ User2 ∷ Pipe ∷ Alarm ∷ Terminate ∷ Child ∷ Continue ∷ Stop ∷ TerminalStop ∷ TerminalInput
    ∷ TerminalOutput ∷ []

abbrev pub signal_with_number : ℕ → Option Signal
signal_with_number n = find (λ signal. number_of signal == n) signals

abbrev pub signal_with_name : List ℕ → Option Signal
signal_with_name name = find (λ signal. bytes_eq name (name_of signal)) signals
