use Rattle.std.proofs.Common.{◌≡◌, length}
use Rattle.sh_builtin_regular.specs.Assigning.{assigned}
use Rattle.sh_builtin_regular.proofs.assigning.assign_all.Given as goal

abbrev pub invariant-names : goal.invariant-names
invariant-names l = assigned l.vars l.names_left l.values_left ≡ assigned l.fn.vars l.names l.values

abbrev pub decreases-names : goal.decreases-names
decreases-names l = length l.names_left
