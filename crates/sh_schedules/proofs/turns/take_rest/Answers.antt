use Rattle.std.proofs.Common.{◌≤◌, List, length, take, sym, subst, take_all, arith}
use Rattle.sh_exec.specs.declared.event.Event.TheVariants.{Run}
use Rattle.sh_schedules_outcomes.specs.World.{WorldStands}
use Rattle.sh_schedules.specs.Paths.{events_of}
use Rattle.sh_schedules_outcomes.specs.Schedules.{end_of}
use Rattle.sh_schedules_outcomes.specs.Shell.{shell}
use Rattle.sh_schedules.specs.Trying.{HasTaken, IsAfter}
use Rattle.sh_schedules.specs.declared.path.Turn.{Turn}
use Rattle.sh_schedules.proofs.Walk.{taken_more}
use Rattle.sh_schedules.proofs.turns.take_rest.Goals as goal

-- the path's turns up to this one were taken before it
pub places-preserved : goal.places-preserved
places-preserved g c = λ k s short h.
    let before = c.places.invariant k s short h in
    let w = shell g.S.Stock.meaning in
    let here = end_of w s (events_of (take c.places.place c.args.path.now)) in
    let turned =
    subst (λ (turn : Turn). WorldStands c.take_turn.new.world (w.step here (Run turn.place)) × IsAfter w here (Run turn.place) c.places.standing c.in_ok-standing.standing)
    (sym c.index-path-place.is) (c.in_ok-standing.ensures here before.stands) in
    taken_more w k s c.args.path.now c.places.place c.index-path-place.result c.places.world c.take_turn.new.world c.places.standing
    c.in_ok-standing.standing (omega arith) c.index-path-place.is before turned.0 turned.1

-- no turn is left
pub returns : goal.returns
returns g c = λ k s short h.
    let past : length c.args.path.now ≤ c.places.place = omega arith in
    subst (λ (path : List Turn). HasTaken c.places.world (shell g.S.Stock.meaning) k s path c.places.standing) (take_all _ _ past) (c.places.invariant k s short h)
