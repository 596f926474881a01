use Rattle.std.proofs.Common.{Bool, cond, [], ◌∷◌, ◌++◌, ap, ◌∙◌, arith}
use Rattle.sh_world.proofs.Watching.{seen_at}
use Rattle.sh_world.proofs.awake.look.Goals as goal

pub tasks-preserved : goal.tasks-preserved
tasks-preserved g c = (
  λ s h. c.note_place.ensures.state s (c.in_ok-find_living.ensures.state s (c.tasks.invariant.0 s h)),
  c.note_place.ensures.terminal ∙ c.in_ok-find_living.ensures.terminal ∙ c.tasks.invariant.1,
  seen_at c.tasks.kernel.watch c.find_living.new.self.watch c.note_place.new.kernel.watch c.args.tasks.now c.index-tasks-place.result c.tasks.places.items c.note_place.new.places.items
      c.tasks.last c.pid-pid.result c.tasks.place c.tasks-test.true c.index-tasks-place.is c.tasks.invariant.2 (omega arith) c.pid-pid.ensures
      (c.in_ok-find_living.ensures.watch
      ∙ ap (λ (b : Bool). cond b (record c.tasks.kernel.watch { living = c.tasks.kernel.watch.living ++ c.pid-pid.result ∷ [] }) c.tasks.kernel.watch) c.if-not-branch.false)
      c.in_ok-note_place.ensures.noted,
)
