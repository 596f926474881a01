use Rattle.std.proofs.Common.{◌≡◌, ℕ, List, [], ◌∷◌, Option, Some, None, length, take, ap, ◌∙◌, subst}
use Rattle.std.proofs.Math.Seq.{take-append_seam, take-length}
use Rattle.sh_schedules_outcomes.specs.Schedules.{Machine, last_place}
use Rattle.sh_schedules_outcomes.specs.Choices.{choices, choices_by}
use Rattle.sh_schedules.specs.Shards.{reaching}
use Rattle.sh_schedules_outcomes.specs.Shell.{shell}
use Rattle.sh_schedules.specs.Trying.{IsFirstChoice}
use Rattle.sh_schedules.specs.declared.path.Turn.{Turn}
use Rattle.sh_schedules.specs.declared.shard.Shard.{Shard}
use Rattle.sh_schedules.specs.declared.turns.Standing.{Standing}
use Rattle.sh_schedules.proofs.Walk.{gone_nowhere, gone_on, is_after}
use Rattle.sh_schedules.proofs.turns.go_on.Goals as goal

first_none : (shard : Shard) (standing : Standing) (here : Option ℕ) (places : List ℕ) (turn : Option Turn) → IsFirstChoice shard standing here places turn → turn ≡ None → places ≡ []
first_none shard standing here places None h is = h
first_none shard standing here places (Some turn) h is = cc

first_some : (shard : Shard) (standing : Standing) (here : Option ℕ) (places : List ℕ) (found : Option Turn) (turn : Turn) → IsFirstChoice shard standing here places found →
    found ≡ Some turn → IsFirstChoice shard standing here places (Some turn)
first_some shard standing here places None turn h is = cc
first_some shard standing here places (Some other) turn h is = let same : other ≡ turn = cc in subst (λ (t : Turn). IsFirstChoice shard standing here places (Some t)) same h

choices_are : {A : Type 0} (w : Machine A) (s : A) (left count : ℕ) (here : Option ℕ) → count ≡ length (w.runnable s) → here ≡ last_place w s → choices_by here count left ≡ choices w left s
choices_are w s left count here a b = ap (λ (c : ℕ). choices_by here c left) a ∙ ap (λ (h : Option ℕ). choices_by h (length (w.runnable s)) left) b

pub returns-in_default-clause-gone : goal.returns-in_default-clause-gone
returns-in_default-clause-gone g c = λ k n s h short.
    let w = shell g.S.Stock.meaning in
    let who = c.in_ok-who.ensures _ h.stands in
    let places = choices_by c.in_ok-who.who.here c.in_ok-who.who.count c.args.standing.now.left in
    gone_nowhere w k n s c.args.shard c.args.path.now.items places c.args.world.now c.args.standing.now h
    (choices_are w _ c.args.standing.now.left c.in_ok-who.who.count c.in_ok-who.who.here who.0 who.1)
    (first_none c.args.shard c.args.standing.now c.in_ok-who.who.here places c.in_ok-turn.field-0 c.in_ok-turn.ensures c.in_default.is)

pub returns-clause-gone : goal.returns-clause-gone
returns-clause-gone g c = λ k n s h short.
    let w = shell g.S.Stock.meaning in
    let who = c.in_ok-who.ensures _ h.stands in
    let places = choices_by c.in_ok-who.who.here c.in_ok-who.who.count c.args.standing.now.left in
    let first = first_some c.args.shard c.args.standing.now c.in_ok-who.who.here places c.in_ok-turn.field-0 c.in-Some.turn c.in_ok-turn.ensures c.in-Some.is in
    gone_on w k n s c.args.shard c.args.path.now.items c.push.new.self.items c.in-Some.turn places first.0 c.args.world.now c.turn_at.new.world c.args.standing.now c.standing_after.result
    short h (choices_are w _ c.args.standing.now.left c.in_ok-who.who.count c.in_ok-who.who.here who.0 who.1) first.1
    (first.2 ∙ ap (λ (here : Option ℕ). reaching c.args.shard c.args.standing.now.mark here first.0) who.1)
    (c.in_ok-turn_at.ensures _ h.stands)
    (is_after w _ c.in-Some.turn.place c.in_ok-who.who.here c.args.standing.now c.standing_after.result who.1 c.standing_after.ensures.left c.standing_after.ensures.mark)
    c.in_ok-push.ensures.items

-- the path is as it was, or has one turn more
pub returns-in_default-clause-extends : goal.returns-in_default-clause-extends
returns-in_default-clause-extends g c = take-length c.args.path.now.items

pub returns-clause-extends : goal.returns-clause-extends
returns-clause-extends g c = ap (take (length c.args.path.now.items)) c.in_ok-push.ensures.items ∙ take-append_seam c.args.path.now.items (c.in-Some.turn ∷ [])
