use Rattle.sh_exec.specs.State.{start}
use Rattle.sh_schedules.proofs.exploring.next_checkpoint.Goals as goal

-- none is kept
pub returns-clause-stands : goal.returns-clause-stands
returns-clause-stands g c = λ files path is checkpoints. c.first_checkpoint.ensures (start files c.args.settings.now) path (c.in_ok-world.ensures.stands files is)
