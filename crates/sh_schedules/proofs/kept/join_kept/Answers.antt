use Rattle.std.proofs.Common.{◌≤◌, List, length, subst, take_all, arith}
use Rattle.sh_exec.specs.State.{start}
use Rattle.sh_schedules.specs.Merging.{AreJoined}
use Rattle.sh_schedules_outcomes.specs.Shell.{outcome_of, shell}
use Rattle.sh_schedules.specs.declared.kept.Kept.{Kept}
use Rattle.sh_schedules.proofs.Keeping.{joined_next}
use Rattle.sh_schedules.proofs.kept.join_kept.Goals as goal

pub kept-preserved : goal.kept-preserved
kept-preserved g c = λ files is.
    joined_next (shell g.S.Stock.meaning) outcome_of (start files c.args.settings.now) c.args.kept.now c.kept.one-index c.one-item.result c.args.found.now.items c.kept.found.items
    c.join_one.new.found.items (omega arith) c.one-item.is (c.kept.invariant files is) (c.in_ok-join_one.ensures.joined files is)

-- none is left
pub returns-clause-joined : goal.returns-clause-joined
returns-clause-joined g c = λ files is.
    let past : length c.args.kept.now ≤ c.kept.one-index = omega arith in
    subst (λ (kept : List Kept). AreJoined (shell g.S.Stock.meaning) outcome_of (start files c.args.settings.now) kept c.args.found.now.items c.kept.found.items) (take_all _ _ past)
    (c.kept.invariant files is)
