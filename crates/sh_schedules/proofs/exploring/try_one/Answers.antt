use Rattle.std.proofs.Common.{List, sym, subst}
use Rattle.sh_exec.specs.State.{start}
use Rattle.sh_schedules_outcomes.specs.Shell.{shell}
use Rattle.sh_schedules.specs.Checkpoints.{AreCheckpoints}
use Rattle.sh_schedules.specs.declared.checkpoints.Checkpoint.{Checkpoint}
use Rattle.sh_schedules.proofs.exploring.try_one.Goals as goal

pub returns-in-Ok-clause-walked : goal.returns-in-Ok-clause-walked
returns-in-Ok-clause-walked g c = λ files is checkpoints trying.
    let here = subst (λ (these : List (Checkpoint _)). AreCheckpoints (shell g.S.Stock.meaning) c.args.bounds.preemptions (start files c.args.settings.now) c.args.path.now.items these) (sym c.as_slice.ensures.value) checkpoints in
    c.in-Ok.ensures.walked _ (c.in_ok-begun.ensures.stands files c.args.path.now.items is here) checkpoints trying
