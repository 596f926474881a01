use Rattle.std.proofs.Common.{◌≡◌, length}
use Rattle.sh_exec_command.specs.Reading.{next_command}
use Rattle.sh_exec_command.proofs.reading.find_command.Given as goal

abbrev pub invariant-lines : goal.invariant-lines
invariant-lines l = next_command l.aliases l.fn.text ≡ next_command l.aliases l.rest

abbrev pub decreases-lines : goal.decreases-lines
decreases-lines l = length l.rest
