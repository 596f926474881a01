use Rattle.std.proofs.Common.{◌≡◌, ◌-◌, ◌^◌, [], Ok, map, min, take}
use Rattle.std.specs.List.{list_all, sum_by}
use Rattle.sh_files.specs.Image.{read_image}
use Rattle.sh_files.specs.Nodes.{FileMap}
use Rattle.sh_schedules.specs.State.{start}
use Rattle.sh_schedules.specs.Merging.{AreJoinedInTurn}
use Rattle.sh_schedules.specs.Shell.{outcome_of, shell}
use Rattle.psh_schedules.proofs.merging.joined.Given as goal

abbrev pub invariant-files : goal.invariant-files
invariant-files g l = ((nodes : FileMap) → read_image l.image ≡ Ok nodes
    → AreJoinedInTurn (shell g.S.Stock.meaning) outcome_of (start nodes l.settings) (map (λ named. named.file.kept.items) (take l.named-index l.files)) [] l.all.found.items)
    × (l.all.schedules ≡ min (sum_by (λ named. named.file.schedules) (take l.named-index l.files)) (2 ^ 64 - 1))
    × (l.all.is_complete ≡ list_all (λ named. named.file.is_complete) (take l.named-index l.files))
