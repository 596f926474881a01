use Rattle.std.proofs.Common.{◌≡◌, length}
use Rattle.sh_exec_parts.specs.Saving.{all_restored}
use Rattle.sh_exec_parts.proofs.saved.restore_variables.Given as goal

abbrev pub invariant-saved : goal.invariant-saved
invariant-saved l = all_restored l.saved l.vars ≡ all_restored l.initial.saved l.initial.vars

abbrev pub decreases-saved : goal.decreases-saved
decreases-saved l = length l.saved
