use Rattle.std.proofs.Common.{◌≡◌, ℕ, List, [], length, nat_lt, sym, subst, arith}
use Rattle.std.specs.List.{filter}
use Rattle.sh_exec.specs.State.{start}
use Rattle.sh_schedules_outcomes.specs.Shell.{outcome_of, shell}
use Rattle.sh_schedules.specs.Paths.{IsAdvance}
use Rattle.sh_schedules.specs.Checkpoints.{AreCheckpoints}
use Rattle.sh_schedules.specs.Trying.{HasWalked, IsTrying, IsUnexplored, IsWithin}
use Rattle.sh_schedules_outcomes.specs.declared.found.Found.{Found}
use Rattle.sh_schedules.specs.declared.path.Turn.{Turn}
use Rattle.sh_schedules.specs.declared.checkpoints.Checkpoint.{Checkpoint}
use Rattle.sh_schedules.proofs.Resuming.{checkpoints_advance}
use Rattle.sh_schedules.proofs.Refusals.{passed_on, unexplored}
use Rattle.sh_schedules.proofs.Walk.{explored, trying_first, trying_next, walks_more, walks_none}
use Rattle.sh_schedules.proofs.exploring.try_all.Goals as goal

pub walks-init : goal.walks-init
walks-init g c = (
  omega arith,
  λ files is.
      let w = shell g.S.Stock.meaning in
      let k = c.args.bounds.preemptions in
      let s = start files c.args.settings.now in
      let first = trying_first w outcome_of k c.args.bounds.turns s c.args.shard in (
        subst (λ (checkpoints : List (Checkpoint _)). AreCheckpoints w k s c.new-path.result.items checkpoints) (sym c.requires.checkpoints) tt,
        subst (λ (path : List Turn). IsTrying w outcome_of k c.args.bounds.turns s c.args.shard path c.args.found.now.items 0) (sym c.new-path.ensures.items)
            (subst (λ (found : List Found). IsTrying w outcome_of k c.args.bounds.turns s c.args.shard [] found 0) (sym c.requires.found) first),
        walks_none w k c.args.bounds.turns s c.new-path.result.items c.new-path.ensures.items,
      ),
)

pub returns-in_err-after-clause-refused : goal.returns-in_err-after-clause-refused
returns-in_err-after-clause-refused g c =
    passed_on c.from_residual.result c.in_err-after.field-0.0 (IsUnexplored g.S.Stock.meaning c.args.image.now c.args.settings.now c.args.bounds) c.from_residual.ensures.1
    (unexplored g.S.Stock.meaning c.args.image.now c.args.settings.now c.args.bounds c.in_err-after.field-0.0 c.in_err-after.ensures.refused)

-- there were as many walks as can be counted
pub returns-clause-refused : goal.returns-clause-refused
returns-clause-refused g c = record {
  refused = λ f is. cc;
  too_many = λ same files is. let so_far = (c.walks.invariant.1 files is).2 in omega arith;
}

-- no more may be tried
pub returns-in_default-clause-explored : goal.returns-in_default-clause-explored
returns-in_default-clause-explored g c = λ files is.
    let w = shell g.S.Stock.meaning in
    let s = start files c.args.settings.now in
    let so_far = c.walks.invariant.1 files is in
    subst (HasWalked w outcome_of c.args.bounds.preemptions c.args.bounds.turns s c.args.shard c.try_one.new.path.items c.try_one.new.found.items c.walks.tried) c.in_default.is
    (c.in_ok-after.ensures.walked files is so_far.0 so_far.1).0

-- no schedule is left
pub returns-then-not-branch-clause-explored : goal.returns-then-not-branch-clause-explored
returns-then-not-branch-clause-explored g c = λ files is.
    let w = shell g.S.Stock.meaning in
    let s = start files c.args.settings.now in
    let so_far = c.walks.invariant.1 files is in
    let tried = subst (HasWalked w outcome_of c.args.bounds.preemptions c.args.bounds.turns s c.args.shard c.try_one.new.path.items c.try_one.new.found.items c.walks.tried) c.in-Some.is
    (c.in_ok-after.ensures.walked files is so_far.0 so_far.1).0 in
    explored w outcome_of c.args.bounds.preemptions c.args.bounds.turns s c.args.shard c.try_one.new.path.items c.advance.new.path.items c.try_one.new.found.items c.in-Some.more tried
    (subst (IsAdvance c.try_one.new.path.items c.advance.new.path.items) c.if-not-branch.true c.in_ok-advance.ensures)

pub walks-preserved : goal.walks-preserved
walks-preserved g c = (
  subst (IsWithin c.args.bounds.schedules c.walks.tried) c.in-Some.is c.in_ok-after.ensures.within,
  λ files is.
      let w = shell g.S.Stock.meaning in
      let k = c.args.bounds.preemptions in
      let s = start files c.args.settings.now in
      let so_far = c.walks.invariant.1 files is in
      let walked = c.in_ok-after.ensures.walked files is so_far.0 so_far.1 in
      let tried = subst (HasWalked w outcome_of k c.args.bounds.turns s c.args.shard c.try_one.new.path.items c.try_one.new.found.items c.walks.tried) c.in-Some.is walked.0 in
      let all : length c.advance.new.path.items ≡ c.len.result = omega arith in
      let advanced = subst (IsAdvance c.try_one.new.path.items c.advance.new.path.items) c.if-not-branch.false c.in_ok-advance.ensures in (
        subst (λ (checkpoints : List (Checkpoint _)). AreCheckpoints w k s c.advance.new.path.items checkpoints) (sym {A = List (Checkpoint _)} c.forget.ensures)
            (subst (λ (n : ℕ). AreCheckpoints w k s c.advance.new.path.items (filter (λ (checkpoint : Checkpoint _). nat_lt checkpoint.taken n) c.try_one.new.checkpoints.items)) all
            (checkpoints_advance w k s c.try_one.new.path.items c.advance.new.path.items c.try_one.new.checkpoints.items advanced walked.1)),
        trying_next w outcome_of k c.args.bounds.turns s c.args.shard c.try_one.new.path.items c.advance.new.path.items c.try_one.new.found.items c.in-Some.more tried advanced,
        walks_more w k c.args.bounds.turns s c.walks._walk c.walks.path.items c.try_one.new.path.items c.advance.new.path.items tried.short so_far.2 walked.2 advanced,
      ),
)
