use Rattle.std.proofs.Common.{ap, subst, ◌∙◌}
use Rattle.sh_exec.specs.State.{start}
use Rattle.sh_schedules_outcomes.specs.Found.{IsRetraced}
use Rattle.sh_schedules.specs.Paths.{events_of}
use Rattle.sh_schedules_outcomes.specs.Shell.{outcome_of, shell}
use Rattle.sh_schedules.proofs.retracing.retrace.Goals as goal

-- the world that was begun comes to that by the turns of the path
pub returns-in-Ok-clause-retraced : goal.returns-in-Ok-clause-retraced
returns-in-Ok-clause-retraced g c = λ files h.
    let s = start {S = g.row.S.Denot} files c.args.settings.now in
    subst (λ events. IsRetraced (shell g.S.Stock.meaning) outcome_of s events c.args.schedules c.in-Ok.found)
    (ap events_of c.as_slice.ensures.value ∙ c.in_ok-path.ensures)
    (c.in-Ok.ensures s (c.in_ok-world.ensures.stands files h))
