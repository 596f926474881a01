use Rattle.std.proofs.Common.{List, sym, subst}
use Rattle.sh_schedules_outcomes.specs.Shell.{shell}
use Rattle.sh_schedules.specs.Checkpoints.{AreCheckpoints}
use Rattle.sh_schedules.specs.declared.checkpoints.Checkpoint.{Checkpoint}
use Rattle.sh_schedules.proofs.Resuming.{checkpoints_more}
use Rattle.sh_schedules.proofs.checkpoints.put.Goals as goal

pub returns-in-Ok : goal.returns-in-Ok
returns-in-Ok g c = λ k s path h is.
    subst (λ (these : List (Checkpoint _)). AreCheckpoints (shell g.S.Stock.meaning) k s path these) (sym c.in-Ok.ensures.items)
    (checkpoints_more (shell g.S.Stock.meaning) k s path c.args.checkpoint c.args.checkpoints.now.items h is)
