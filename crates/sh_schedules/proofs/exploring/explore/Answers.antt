use Rattle.sh_exec.specs.State.{start}
use Rattle.sh_schedules_outcomes.specs.Shell.{outcome_of, shell}
use Rattle.sh_schedules.proofs.Walk.{whole}
use Rattle.sh_schedules.proofs.exploring.explore.Goals as goal

-- the one shard has all schedules
pub returns-clause-explored : goal.returns-clause-explored
returns-clause-explored g c =
    let e = c.in_ok-exploration.ensures.explored in
    record {
      files = e.files;
      image_is = e.image_is;
      exploration =
          whole (shell g.S.Stock.meaning) outcome_of c.args.bounds.preemptions c.args.bounds.turns (start e.files c.args.settings.now)
          c.in_ok-exploration.exploration.found.items c.in_ok-exploration.exploration.schedules c.in_ok-exploration.exploration.is_complete e.exploration;
      within = e.within;
      stopped = e.stopped;
    }
