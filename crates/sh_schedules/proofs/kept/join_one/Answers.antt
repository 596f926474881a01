use Rattle.std.proofs.Common.{ℕ, List, map, subst}
use Rattle.sh_exec.specs.declared.event.Event.TheVariants.{Run}
use Rattle.sh_exec.specs.State.{start}
use Rattle.sh_schedules_outcomes.specs.Found.{IsRetraced}
use Rattle.sh_schedules_outcomes.specs.Shell.{outcome_of, shell}
use Rattle.sh_schedules.proofs.kept.join_one.Goals as goal

pub returns-in-Ok-clause-joined : goal.returns-in-Ok-clause-joined
returns-in-Ok-clause-joined g c = λ files is. record {
  one = c.in_ok-one.one;
  retraced =
      subst (λ (places : List ℕ). IsRetraced (shell g.S.Stock.meaning) outcome_of (start files c.args.settings.now) (map Run places) c.args.kept.now.schedules c.in_ok-one.one)
      c.as_slice-places.ensures.value (c.in_ok-one.ensures.retraced files is);
  joined = c.in-Ok.ensures.joined;
}
