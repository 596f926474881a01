use Rattle.std.proofs.Common.{◌-◌, length, arith}
use Rattle.sh_schedules_outcomes.specs.Shell.{shell}
use Rattle.sh_schedules.proofs.Resuming.{checkpoint_at}
use Rattle.sh_schedules.proofs.checkpoints.last_checkpoint.Goals as goal

pub returns-in-Ok : goal.returns-in-Ok
returns-in-Ok g c = λ k s path h.
    c.in-Ok.ensures k s path
    (checkpoint_at (shell g.S.Stock.meaning) k s path c.args.checkpoints.now (length c.args.checkpoints.now - 1) c.last-item.result (omega arith) c.last-item.is h)
