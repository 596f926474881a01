use Rattle.std.proofs.Common.{◌∙◌}
use Rattle.sh_exec_parts.proofs.Restoring.{goes_on}
use Rattle.sh_exec_parts.proofs.saved.restore_variables.Goals as goal

pub saved-preserved : goal.saved-preserved
saved-preserved c = goes_on c.saved.saved c.pop.new.self c.in-Some.one c.saved.vars _ c.in-Some.ensures.items c.in_ok-restore.ensures ∙ c.saved.invariant
