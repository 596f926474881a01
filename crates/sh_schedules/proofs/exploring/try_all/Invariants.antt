use Rattle.std.proofs.Common.{◌≡◌, ◌+◌, ◌≤◌, Ok, length}
use Rattle.sh_files.specs.Image.{read_image}
use Rattle.sh_files.specs.Nodes.{FileMap}
use Rattle.sh_exec.specs.State.{start}
use Rattle.sh_schedules_outcomes.specs.Choices.{schedules}
use Rattle.sh_schedules_outcomes.specs.Shell.{outcome_of, shell}
use Rattle.sh_schedules.specs.Paths.{to_try}
use Rattle.sh_schedules.specs.Checkpoints.{AreCheckpoints}
use Rattle.sh_schedules.specs.Trying.{IsTrying}
use Rattle.sh_schedules.proofs.exploring.try_all.Given as goal

abbrev pub invariant-walks : goal.invariant-walks
invariant-walks g l = (l.tried ≤ l.bounds.schedules) × ((files : FileMap) → read_image l.image ≡ Ok files
    → AreCheckpoints (shell g.S.Stock.meaning) l.bounds.preemptions (start files l.settings) l.path.items l.checkpoints.items
    × IsTrying (shell g.S.Stock.meaning) outcome_of l.bounds.preemptions l.bounds.turns (start files l.settings) l.shard l.path.items l.found.items l.tried
    × (l._walk + length (to_try (shell g.S.Stock.meaning) l.bounds.preemptions l.bounds.turns (start files l.settings) l.path.items)
    ≤ length (schedules (shell g.S.Stock.meaning) l.bounds.preemptions l.bounds.turns (start files l.settings))))
