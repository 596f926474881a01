use Rattle.sh_schedules_outcomes.specs.Shell.{shell}
use Rattle.sh_schedules.proofs.Resuming.{whole_taken}
use Rattle.sh_schedules.proofs.checkpoints.keep.Goals as goal

-- the copy has taken what the world has
pub returns-in-Ok : goal.returns-in-Ok
returns-in-Ok g c = λ k s path h is has.
    c.put.ensures k s path (c.leave_room.ensures k s path h)
    (whole_taken (shell g.S.Stock.meaning) k s path (record { world = c.in-Ok.copy; taken = c.args.taken; standing = c.args.standing }) is
    (record { stands = c.in-Ok.ensures.stands _ has.stands; left_is = has.left_is; mark_is = has.mark_is }))
