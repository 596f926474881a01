use Rattle.std.proofs.Common.{◌≡◌, length}
use Rattle.sh_token_scanner.specs.Run.{run, scanned_in}
use Rattle.sh_token_scanner.specs.Steps.{places}
use Rattle.sh_token_scanner.proofs.scanner.scan.Given as goal

abbrev pub invariant-loop-b : goal.invariant-loop-b
invariant-loop-b l = run l.at_end l.held l.state (places l.at) l.left ≡ scanned_in l.fn.ground l.at_end l.fn.limit l.fn.text

abbrev pub decreases-loop-b : goal.decreases-loop-b
decreases-loop-b l = length l.left
