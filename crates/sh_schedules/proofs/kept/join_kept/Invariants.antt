use Rattle.std.proofs.Common.{◌≡◌, Ok, take}
use Rattle.sh_files.specs.Image.{read_image}
use Rattle.sh_files.specs.Nodes.{FileMap}
use Rattle.sh_exec.specs.State.{start}
use Rattle.sh_schedules.specs.Merging.{AreJoined}
use Rattle.sh_schedules_outcomes.specs.Shell.{outcome_of, shell}
use Rattle.sh_schedules.proofs.kept.join_kept.Given as goal

abbrev pub invariant-kept : goal.invariant-kept
invariant-kept g l = (files : FileMap) → read_image l.image ≡ Ok files
    → AreJoined (shell g.S.Stock.meaning) outcome_of (start files l.settings) (take l.one-index l.kept) l.fn.found.items l.found.items
