use Rattle.sh_world.proofs.Copies.{one_more}
use Rattle.sh_world.proofs.world.copying.copies_of.Goals as goal

pub loop-task-preserved : goal.loop-task-preserved
loop-task-preserved g c =
    one_more c.args.tasks.now c.loop-task.copies.items c.push.new.self.items c.loop-task.task-index c.task-item.result c.in_ok-copy.field-0
    c.loop-task.invariant c.in_ok-push.ensures.items c.in_ok-copy.ensures c.task-item.is c.loop-task-test.true
