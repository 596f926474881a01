use Rattle.std.proofs.Common.{◌≡◌, ◌+◌, ◌≤◌, length}
use Rattle.sh_arith.specs.Steps.{run}
use Rattle.sh_arith.specs.Reading.{steps}
use Rattle.sh_arith.specs.State.{state_of, depth}
use Rattle.sh_arith.proofs.machine.run_all.Given as goal

abbrev pub invariant-loop-first : goal.invariant-loop-first
invariant-loop-first l = record {
  same : run l.text (steps l.left) (state_of l.machine l.vars) ≡ run l.text (steps l.fn.actions) (state_of l.fn.machine l.fn.vars);
  few : depth l.machine.skip + length l.left ≤ length l.fn.actions;
}

abbrev pub decreases-loop-first : goal.decreases-loop-first
decreases-loop-first l = length l.left
