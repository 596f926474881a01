use Rattle.std.proofs.Common.{◌-◌, length}
use Rattle.sh_parse.proofs.Turning.{Stands}
use Rattle.sh_parse.proofs.read_command.Given as goal

abbrev pub invariant-loop-turn : goal.invariant-loop-turn
invariant-loop-turn l = Stands l.aliases l.at_end l.text l.judged l.waiting l.at l.nul

abbrev pub decreases-loop-turn : goal.decreases-loop-turn
decreases-loop-turn l = length l.text - l.at
