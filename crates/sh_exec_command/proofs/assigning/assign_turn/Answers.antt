use Rattle.std.proofs.Common.{◌∙◌}
use Rattle.sh_exec_command.proofs.Turning.{falls, goes_on, on_leaves}
use Rattle.sh_exec_command.proofs.assigning.assign_turn.Goals as goal

-- the turn behind the assignment that is done
pub assignments-preserved : goal.assignments-preserved
assignments-preserved c =
    goes_on c.args.files.now c.assignments.vars c.assignments.prepared c.in-On.next c.in-Some.assignment c.take.new.self c.assignments.pending _ c.in-Some.ensures c.in_ok-next.ensures c.in-On.is
    ∙ c.assignments.invariant

-- it has those behind it
pub assignments-smaller : goal.assignments-smaller
assignments-smaller c =
    falls c.take.new.self c.in-On.next.assignments c.assignments.prepared c.in-Some.assignment c.in-Some.ensures
    (on_leaves c.args.files.now c.assignments.vars _ c.in-On.next c.in-Some.assignment c.assignments.pending _ c.in_ok-next.ensures c.in-On.is)
