-- There is at most one preemption in each turn.
use Rattle.std.proofs.Common.{◌≤◌, ℕ, List, [], ◌∷◌, length, Bool, true, false, Option, Some, None, nat_eq, if◌then◌else◌, arith}
use Rattle.sh_exec.specs.declared.event.Event.{Event}
use Rattle.sh_exec.specs.declared.event.Event.TheVariants.{Run, Next, Key}
use Rattle.sh_schedules_outcomes.specs.Schedules.{IsAnySchedule, IsSchedule, Machine, cost, cost_by, last_place, preemptions}

one_at_most : (is_here : Bool) → (if is_here then 0 else 1) ≤ 1
one_at_most true = omega arith
one_at_most false = omega arith

one_by_place : (here : Option ℕ) (place : ℕ) → cost_by here place ≤ 1
one_by_place None place = omega arith
one_by_place (Some here) place = one_at_most (nat_eq place here)

one_a_turn : {A : Type 0} (w : Machine A) (s : A) (e : Event) → cost w s e ≤ 1
one_a_turn w s (Run place) = one_by_place (last_place w s) place
one_a_turn w s Next = omega arith
one_a_turn w s (Key byte) = omega arith

no_more_than_turns : {A : Type 0} (w : Machine A) (s : A) (events : List Event) → preemptions w s events ≤ length events
no_more_than_turns w s [] = omega arith
no_more_than_turns w s (e ∷ es) =
    let first = one_a_turn w s e in
    let others = no_more_than_turns w (w.step s e) es in
    omega (arith, first, others)

-- so they are within each bound that is as great as that on turns
pub is_within : {A : Type 0} (w : Machine A) (k n : ℕ) (s : A) (events : List Event) → n ≤ k → IsAnySchedule w n s events → IsSchedule w k n s events
is_within w k n s events enough is =
    let few = no_more_than_turns w s events in
    let short = is.within in
    record { any = is; preempted = omega (arith, few, short, enough) }
