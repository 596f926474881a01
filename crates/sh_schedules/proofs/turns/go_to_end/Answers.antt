use Rattle.std.proofs.Common.{◌≡◌, ◌<◌, ◌≤◌, length, arith}
use Rattle.sh_schedules_outcomes.specs.Shell.{shell}
use Rattle.sh_schedules.proofs.Resuming.{checkpoints_stay}
use Rattle.sh_schedules.proofs.Walk.{at_most, ended_here, further_on}
use Rattle.sh_schedules.proofs.turns.go_to_end.Goals as goal

-- no process can take a turn
pub returns-then-not-branch : goal.returns-then-not-branch
returns-then-not-branch g c = λ k s h short checkpoints.
    let w = shell g.S.Stock.meaning in
    let so_far = c.turns.invariant k s h short checkpoints in
    let below : length c.turns.path.items < c.args.most = omega arith in
    let whole : c.len-in-turns.result ≡ length c.turns.path.items = omega arith in
    let kept = c.keep.ensures k s c.turns.path.items so_far.3 whole so_far.0 in (
      ended_here w k c.args.most s c.args.shard c.args.path.now.items c.turns.path.items c.go_on.new.path.items c.go_on.new.world c.go_on.new.standing
          c.in_ok-go_on.field-0 (c.in_ok-go_on.ensures.gone k c.args.most s so_far.0 below) c.if-not-branch.true so_far.1 so_far.2,
      checkpoints_stay w k s c.turns.path.items c.go_on.new.path.items c.keep.new.checkpoints.items c.in_ok-go_on.ensures.extends kept,
    )

pub turns-preserved : goal.turns-preserved
turns-preserved g c = λ k s h short checkpoints.
    let w = shell g.S.Stock.meaning in
    let so_far = c.turns.invariant k s h short checkpoints in
    let below : length c.turns.path.items < c.args.most = omega arith in
    let whole : c.len-in-turns.result ≡ length c.turns.path.items = omega arith in
    let kept = c.keep.ensures k s c.turns.path.items so_far.3 whole so_far.0 in
    let further =
    further_on w k c.args.most s c.args.shard c.args.path.now.items c.turns.path.items c.go_on.new.path.items c.go_on.new.world c.go_on.new.standing
    c.in_ok-go_on.field-0 (c.in_ok-go_on.ensures.gone k c.args.most s so_far.0 below) c.if-not-branch.false so_far.1 below c.in_ok-go_on.ensures.longer in
    (further.0, further.1, further.2, checkpoints_stay w k s c.turns.path.items c.go_on.new.path.items c.keep.new.checkpoints.items c.in_ok-go_on.ensures.extends kept)

-- there were as many turns as may be
pub returns : goal.returns
returns g c = λ k s h short checkpoints.
    let so_far = c.turns.invariant k s h short checkpoints in
    let enough : c.args.most ≤ length c.turns.path.items = omega arith in
    (at_most (shell g.S.Stock.meaning) k c.args.most s c.args.shard c.args.path.now.items c.turns.path.items c.turns.world c.turns.standing so_far.0 so_far.1 so_far.2 enough, so_far.3)
