use Rattle.std.proofs.Common.{arith}
use Rattle.sh_schedules_outcomes.specs.Shell.{shell}
use Rattle.sh_schedules.proofs.Resuming.{none_taken}
use Rattle.sh_schedules.proofs.turns.replay.Goals as goal

pub returns : goal.returns
returns g c = λ s h.
    c.in_ok-standing.ensures c.args.most s (omega arith)
    (none_taken (shell g.S.Stock.meaning) c.args.most s c.args.world.now c.first_standing.result h c.first_standing.ensures.left c.first_standing.ensures.mark)
