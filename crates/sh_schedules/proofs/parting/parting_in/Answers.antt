use Rattle.std.proofs.Common.{◌≡◌, IfOk, Option, sym, ◌∙◌, subst, arith}
use Rattle.sh_schedules_outcomes.specs.Shell.{shell}
use Rattle.sh_schedules.specs.declared.parting.Parting.{Parting}
use Rattle.sh_schedules.proofs.Partings.{parts_later, parts_no_more, parts_not_here, parts_now, stands_first}
use Rattle.sh_schedules.proofs.parting.parting_in.Goals as goal

pub turns-init : goal.turns-init
turns-init g c = ((λ s h. stands_first _ (shell g.S.Stock.meaning) s _ _ h), omega arith)

-- the second schedule has no further turn
pub returns-in_default-split_first : goal.returns-in_default-split_first
returns-in_default-split_first g c = λ s h.
    parts_not_here _ (shell g.S.Stock.meaning) s c.turns.common _ _ _ _ _ _ (c.turns.invariant.0 s h) c.in-Some.ensures.cases.0 c.in_default-split_first.ensures.cases

-- they give this turn to different processes
pub returns-then-not-is_same_turn : goal.returns-then-not-is_same_turn
returns-then-not-is_same_turn g c = λ s h.
    let here = c.turns.invariant.0 s h in
    subst (λ (p : Option Parting). IfOk c.part.result (λ found. found ≡ p))
    (parts_now _ (shell g.S.Stock.meaning) s c.turns.common _ _ _ _ _ _ _ _ here c.in-Some.ensures.cases.0 c.in-Some-split_first.ensures.cases.0
    (sym c.is_same_turn.ensures ∙ c.if-not-is_same_turn.true))
    (c.part.ensures here.now here.stands)

-- they give it to the same one
pub turns-preserved : goal.turns-preserved
turns-preserved g c = (
  (λ s h.
      let here = c.turns.invariant.0 s h in
      parts_later _ _ (shell g.S.Stock.meaning) s c.turns.common _ _ _ _ _ _ _ _ here c.in-Some.ensures.cases.0 c.in-Some-split_first.ensures.cases.0
      (sym c.is_same_turn.ensures ∙ c.if-not-is_same_turn.false) (c.in_ok-turn_of.ensures here.now here.stands)),
  (let one = c.in-Some.ensures.cases.1 in let all = c.turns.invariant.1 in omega arith),
)

-- the first schedule has no further turn
pub returns : goal.returns
returns g c = λ s h. parts_no_more _ (shell g.S.Stock.meaning) s c.turns.common _ _ _ _ (c.turns.invariant.0 s h) c.in_default.ensures.cases
