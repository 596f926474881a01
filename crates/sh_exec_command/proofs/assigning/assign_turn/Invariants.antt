use Rattle.std.proofs.Common.{◌≡◌, length}
use Rattle.sh_exec_command.specs.Assigning.{assignments_turn}
use Rattle.sh_exec_command.proofs.assigning.assign_turn.Given as goal

abbrev pub invariant-assignments : goal.invariant-assignments
invariant-assignments l = assignments_turn l.files l.prepared.assignments l.vars l.prepared l.pending ≡ assignments_turn l.files l.initial.prepared.assignments l.initial.vars l.initial.prepared l.initial.pending

abbrev pub decreases-assignments : goal.decreases-assignments
decreases-assignments l = length l.prepared.assignments
