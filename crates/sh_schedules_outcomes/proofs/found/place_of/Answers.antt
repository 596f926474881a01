use Rattle.std.proofs.Common.{◌≡◌, ◌≢◌, ℕ, zero, suc, ◌+◌, List, [], ◌∷◌, sym, subst, add-zero, arith, true, false}
use Rattle.sh_schedules_outcomes.proofs.Orders.{empty}
use Rattle.sh_schedules_outcomes.specs.Found.{IsPlace}
use Rattle.sh_schedules_outcomes.specs.declared.found.Found.{Found}
use Rattle.sh_schedules_outcomes.specs.declared.outcome.Outcome.{Outcome}
use Rattle.sh_schedules_outcomes.proofs.found.place_of.Goals as goal

here : (found rest others : List Found) (first : Found) (outcome : Outcome) (place : ℕ) → rest ≡ first ∷ others →
    ((i : ℕ) → IsPlace rest outcome i → IsPlace found outcome (place + i)) → first.outcome ≡ outcome → IsPlace found outcome place
here found rest others first outcome place is known same =
    subst (IsPlace found outcome) (add-zero place) (known zero (subst (λ (fs : List Found). IsPlace fs outcome zero) (sym is) same))

further : (found rest others : List Found) (first : Found) (outcome : Outcome) (place : ℕ) → rest ≡ first ∷ others →
    ((i : ℕ) → IsPlace rest outcome i → IsPlace found outcome (place + i)) → first.outcome ≢ outcome → (i : ℕ) → IsPlace others outcome i → IsPlace found outcome (place + 1 + i)
further found rest others first outcome place is known other i h =
    let e : place + suc i ≡ place + 1 + i = omega arith in
    subst (IsPlace found outcome) e (known (suc i) (subst (λ (fs : List Found). IsPlace fs outcome (suc i)) (sym is) (other, h)))

none : (found rest : List Found) (outcome : Outcome) (place : ℕ) → rest ≡ [] →
    ((i : ℕ) → IsPlace rest outcome i → IsPlace found outcome (place + i)) → IsPlace found outcome place
none found rest outcome place is known =
    subst (IsPlace found outcome) (add-zero place) (known zero (subst (λ (fs : List Found). IsPlace fs outcome zero) (sym is) tt))

pub returns-then-is_same : goal.returns-then-is_same
returns-then-is_same c =
    here c.args.found.now c.found.rest.now c.in-Some.others.now c.in-Some.first.now c.args.outcome.now c.found.place c.in-Some.ensures.cases.0 c.found.invariant.1
    (c.is_same.ensures.0 c.if-is_same.true)

pub found-preserved : goal.found-preserved
found-preserved c =
    let shorter = c.in-Some.ensures.cases.1 in
    let so_far = c.found.invariant.0 in (
      omega arith,
      further c.args.found.now c.found.rest.now c.in-Some.others.now c.in-Some.first.now c.args.outcome.now c.found.place c.in-Some.ensures.cases.0 c.found.invariant.1
          (λ e. let t : c.is_same.result ≡ true = c.is_same.ensures.1 e in let f : c.is_same.result ≡ false = c.if-is_same.false in absurd cc),
    )

pub returns : goal.returns
returns c = none c.args.found.now c.found.rest.now c.args.outcome.now c.found.place (empty c.found.rest.now c.in_default.ensures.cases) c.found.invariant.1
