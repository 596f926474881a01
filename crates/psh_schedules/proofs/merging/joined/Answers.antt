use Rattle.std.proofs.Common.{◌-◌, ◌^◌, ◌≤◌, List, [], length, map, ap, refl, subst, take_all, arith}
use Rattle.sh_schedules.specs.State.{start}
use Rattle.sh_schedules.specs.Merging.{AreJoinedInTurn}
use Rattle.sh_schedules.specs.Shell.{outcome_of, shell}
use Rattle.sh_schedules.specs.declared.kept.Kept.{Kept}
use Rattle.sh_schedules.proofs.Keeping.{turns_next}
use Rattle.psh_schedules.proofs.Totals.{complete_next, tried_next}
use Rattle.psh_schedules.proofs.merging.joined.Goals as goal

-- before the first file
pub files-init : goal.files-init
files-init g c = (λ nodes is. c.new.ensures.items, refl, refl)

pub files-preserved : goal.files-preserved
files-preserved g c = (
  λ nodes is.
      turns_next (shell g.S.Stock.meaning) outcome_of (start nodes c.args.settings.now) (λ named. named.file.kept.items) c.args.files.now c.files.named-index c.named-item.result [] c.files.all.found.items
      c.add_file.new.all.found.items (omega arith) c.named-item.is (c.files.invariant.0 nodes is) (c.in_ok-add_file.ensures.joined nodes is),
  tried_next (λ named. named.file.schedules) c.args.files.now c.files.named-index c.named-item.result (2 ^ 64 - 1) c.files.all.schedules c.add_file.new.all.schedules (omega arith) c.named-item.is c.files.invariant.1 c.in_ok-add_file.ensures.tried,
  complete_next (λ named. named.file.is_complete) c.args.files.now c.files.named-index c.named-item.result c.files.all.is_complete c.add_file.new.all.is_complete (omega arith) c.named-item.is c.files.invariant.2 c.in_ok-add_file.ensures.complete,
)

-- no file is left
pub returns-clause-joined : goal.returns-clause-joined
returns-clause-joined g c = λ nodes is.
    let past : length c.args.files.now ≤ c.files.named-index = omega arith in
    subst (λ (kept : List (List Kept)). AreJoinedInTurn (shell g.S.Stock.meaning) outcome_of (start nodes c.args.settings.now) kept [] c.files.all.found.items)
    (ap (map (λ named. named.file.kept.items)) (take_all _ _ past)) (c.files.invariant.0 nodes is)
