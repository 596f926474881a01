use Rattle.std.proofs.Common.{◌≡◌, length}
use Rattle.sh_exec_settling.specs.Forms.{connected_run}
use Rattle.sh_exec_settling.proofs.forms.connect.Given as goal

abbrev pub invariant-others : goal.invariant-others
invariant-others l = (connected_run l.others l.ended ≡ connected_run l.initial.others l.ended) × (l.frames ≡ l.initial.frames)

abbrev pub decreases-others : goal.decreases-others
decreases-others l = length l.others
