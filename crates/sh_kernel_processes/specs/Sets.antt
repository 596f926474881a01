-- Sets of signals (XBD signal.h, sigset_t): a signal with the number N is in a set where bit N is 1.
use Rattle.std.specs.Prelude.{ℕ, Bool, not, Option, bit_and, bit_or, bit_xor, find, if◌then◌else◌, nat_eq}
use Rattle.sh_kernel_processes.specs.declared.set.SignalSet.{SignalSet}
use Rattle.sh_signal.specs.Signals.{signals}
use Rattle.sh_signal.specs.declared.signal.Signal.{Signal}
use Rattle.sh_signal.specs.declared.signal.Signal.TheVariants.{Hangup, Interrupt, Quit, Abort, Kill, User1, User2, Pipe, Alarm, Terminate, Child, Continue, Stop, TerminalStop, TerminalInput, TerminalOutput}

abbrev pub bit_of : Signal → ℕ
bit_of Hangup = 2
bit_of Interrupt = 4
bit_of Quit = 8
bit_of Abort = 64
bit_of Kill = 512
bit_of User1 = 1024
bit_of User2 = 4096
bit_of Pipe = 8192
bit_of Alarm = 16384
bit_of Terminate = 32768
bit_of Child = 131072
bit_of Continue = 262144
bit_of Stop = 524288
bit_of TerminalStop = 1048576
bit_of TerminalInput = 2097152
bit_of TerminalOutput = 4194304

abbrev pub no_signals : SignalSet
no_signals = record { bits = 0 }

abbrev pub has : SignalSet → Signal → Bool
has set signal = not (nat_eq (bit_and set.bits (bit_of signal)) 0)

abbrev pub with_signal : SignalSet → Signal → SignalSet
with_signal set signal = record { bits = bit_or set.bits (bit_of signal) }

abbrev pub without_signal : SignalSet → Signal → SignalSet
without_signal set signal = if has set signal then record { bits = bit_xor set.bits (bit_of signal) } else set

-- the one with the lowest number
abbrev pub lowest : SignalSet → Option Signal
lowest set = find (has set) signals
