use Rattle.sh_schedules.proofs.parting.find_parting.Goals as goal

pub returns-in-Ok-clause-parted : goal.returns-in-Ok-clause-parted
returns-in-Ok-clause-parted g c = λ files is. c.in-Ok.ensures _ (c.in_ok-world.ensures.stands files is)
