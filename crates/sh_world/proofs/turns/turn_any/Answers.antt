use Rattle.std.proofs.Common.{ap, ◌∙◌}
use Rattle.sh_exec.specs.Processes.{with_child}
use Rattle.sh_world.proofs.Among.{turned_to, written_back}
use Rattle.sh_world.proofs.turns.turn_any.Goals as goal

-- the processes are those that the turn left, with the one that it made, less those that have ended
pub returns-clause-turned : goal.returns-clause-turned
returns-clause-turned g c = λ s h.
    turned_to g.S.Stock.meaning s c.turn_among.new.kernel c.args.tasks.now.items c.as_mut_slice.result.now c.turn_among.new.tasks c.put_child.new.tasks.items c.keep_living.new.tasks.items
    c.args.pid c.in_ok-child.child c.as_mut_slice.ensures.value (c.in_ok-child.ensures.state s h)
    (c.in_ok-put_child.ensures
    ∙ ap (λ these. with_child these c.in_ok-child.child) (written_back c.turn_among.new.tasks _ c.args.tasks.now.len (c.turn_among.auto.tasks ∙ c.as_mut_slice.ensures.len)))
    (λ t k. c.keep_living.ensures t k)
