use Rattle.std.proofs.Common.{◌≡◌, length}
use Rattle.sh_builtin_shell.specs.Functions.{without_all}
use Rattle.sh_builtin_shell.proofs.functions.Functions.remove_all.Given as goal

abbrev pub invariant-names : goal.invariant-names
invariant-names l = without_all l.self l.rest ≡ without_all l.initial.self l.names

abbrev pub decreases-names : goal.decreases-names
decreases-names l = length l.rest
