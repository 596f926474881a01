use Rattle.std.proofs.Common.{ℕ, ◌+◌, ◌<◌, ◌^◌, List, sym, ◌∙◌, subst, arith}
use Rattle.sh_schedules_outcomes.specs.Schedules.{end_of}
use Rattle.sh_schedules.specs.Paths.{events_of}
use Rattle.sh_schedules_outcomes.specs.Found.{Noted}
use Rattle.sh_schedules_outcomes.specs.Shell.{outcome_of, shell}
use Rattle.sh_schedules.specs.Checkpoints.{IsCheckpoint}
use Rattle.sh_schedules.specs.Trying.{HasTaken}
use Rattle.sh_schedules.specs.declared.path.Turn.{Turn}
use Rattle.sh_schedules.proofs.Walk.{cut_off, fewer_left, passed, tried_more}
use Rattle.sh_schedules.proofs.exploring.try_next.Goals as goal

-- the schedule is of another shard
pub returns-then-not-is_of-clause-walked : goal.returns-then-not-is_of-clause-walked
returns-then-not-is_of-clause-walked g c = λ s h checkpoints trying.
    let w = shell g.S.Stock.meaning in
    let sliced = subst (λ (path : List Turn). IsCheckpoint w c.args.bounds.preemptions s path c.args.begun.now) (sym c.as_slice.ensures.value) h in
    let taken =
    subst (λ (path : List Turn). HasTaken c.take_rest.new.world w c.args.bounds.preemptions s path c.in_ok-standing.standing) c.as_slice.ensures.value
    (c.in_ok-standing.ensures c.args.bounds.preemptions s sliced.within sliced.has_taken) in
    let ended = c.in_ok-standing-2.ensures c.args.bounds.preemptions s taken trying.short checkpoints in (
      passed w outcome_of c.args.bounds.preemptions c.args.bounds.turns s c.args.shard c.args.path.now.items c.go_to_end.new.path.items c.args.found.now.items c.go_to_end.new.world
          c.in_ok-standing-2.standing c.args.tried trying ended.0 (sym c.is_of.ensures ∙ c.if-not-is_of.true),
      ended.1,
      fewer_left w c.args.bounds.preemptions c.args.bounds.turns s c.args.shard c.args.path.now.items c.go_to_end.new.path.items c.go_to_end.new.world c.in_ok-standing-2.standing ended.0,
    )

-- no more may be tried
pub returns-then-tried-bounds-clause-walked : goal.returns-then-tried-bounds-clause-walked
returns-then-tried-bounds-clause-walked g c = λ s h checkpoints trying.
    let w = shell g.S.Stock.meaning in
    let sliced = subst (λ (path : List Turn). IsCheckpoint w c.args.bounds.preemptions s path c.args.begun.now) (sym c.as_slice.ensures.value) h in
    let taken =
    subst (λ (path : List Turn). HasTaken c.take_rest.new.world w c.args.bounds.preemptions s path c.in_ok-standing.standing) c.as_slice.ensures.value
    (c.in_ok-standing.ensures c.args.bounds.preemptions s sliced.within sliced.has_taken) in
    let ended = c.in_ok-standing-2.ensures c.args.bounds.preemptions s taken trying.short checkpoints in (
      cut_off w outcome_of c.args.bounds.preemptions c.args.bounds.turns s c.args.shard c.args.path.now.items c.go_to_end.new.path.items c.args.found.now.items c.go_to_end.new.world
          c.in_ok-standing-2.standing c.args.tried trying ended.0 (sym c.is_of.ensures ∙ c.if-not-is_of.false),
      ended.1,
      fewer_left w c.args.bounds.preemptions c.args.bounds.turns s c.args.shard c.args.path.now.items c.go_to_end.new.path.items c.go_to_end.new.world c.in_ok-standing-2.standing ended.0,
    )

pub returns-clause-walked : goal.returns-clause-walked
returns-clause-walked g c = λ s h checkpoints trying.
    let w = shell g.S.Stock.meaning in
    let sliced = subst (λ (path : List Turn). IsCheckpoint w c.args.bounds.preemptions s path c.args.begun.now) (sym c.as_slice.ensures.value) h in
    let taken =
    subst (λ (path : List Turn). HasTaken c.take_rest.new.world w c.args.bounds.preemptions s path c.in_ok-standing.standing) c.as_slice.ensures.value
    (c.in_ok-standing.ensures c.args.bounds.preemptions s sliced.within sliced.has_taken) in
    let ended = c.in_ok-standing-2.ensures c.args.bounds.preemptions s taken trying.short checkpoints in
    let noted = c.in_ok-count.ensures _ ended.0.taken.stands in
    let told = subst (λ (path : List Turn). Noted c.args.found.now.items (outcome_of (end_of w s (events_of c.go_to_end.new.path.items))) (events_of path) c.saturating_sub-preemptions.result c.count.new.found.items)
    c.deref.ensures.value noted in
    let few : c.args.tried + 1 < 2 ^ 64 = omega arith in (
      tried_more w outcome_of c.args.bounds.preemptions c.args.bounds.turns s c.args.shard c.args.path.now.items c.go_to_end.new.path.items c.args.found.now.items c.count.new.found.items
          c.go_to_end.new.world c.in_ok-standing-2.standing c.args.tried trying ended.0 (sym c.is_of.ensures ∙ c.if-not-is_of.false) few
          (subst (λ (cost : ℕ). Noted c.args.found.now.items (outcome_of (end_of w s (events_of c.go_to_end.new.path.items))) (events_of c.go_to_end.new.path.items) cost c.count.new.found.items)
          c.saturating_sub-preemptions.ensures told),
      ended.1,
      fewer_left w c.args.bounds.preemptions c.args.bounds.turns s c.args.shard c.args.path.now.items c.go_to_end.new.path.items c.go_to_end.new.world c.in_ok-standing-2.standing ended.0,
    )
