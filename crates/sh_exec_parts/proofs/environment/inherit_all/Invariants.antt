use Rattle.std.proofs.Common.{◌≡◌, length}
use Rattle.sh_exec_parts.specs.Scripts.{all_inherited}
use Rattle.sh_exec_parts.proofs.environment.inherit_all.Given as goal

abbrev pub invariant-entries : goal.invariant-entries
invariant-entries l = all_inherited l.vars l.rest ≡ all_inherited l.initial.vars l.entries

abbrev pub decreases-entries : goal.decreases-entries
decreases-entries l = length l.rest
