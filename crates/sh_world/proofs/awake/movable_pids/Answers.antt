use Rattle.std.proofs.Common.{[], ap, ◌∙◌}
use Rattle.sh_world.specs.Awake.{pids_at}
use Rattle.sh_world.proofs.Watching.{movable}
use Rattle.sh_world.proofs.awake.movable_pids.Goals as goal

-- those that are not at the places are blocked
pub returns-then-is_current : goal.returns-then-is_current
returns-then-is_current g c = λ s h.
    let w = c.requires c.if-awake.true in
    let holds = c.is_current.ensures.holds c.if-is_current.true s h in
    c.in_ok-pids.ensures s h ∙ ap (pids_at s c.args.tasks.now) c.as_slice.ensures.value
    ∙ movable s [] c.args.tasks.now c.args.kernel.now.watch.blocked c.args.awake.now.places.items w.split holds.blocked
