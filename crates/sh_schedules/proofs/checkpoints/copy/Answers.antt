use Rattle.sh_schedules.proofs.checkpoints.copy.Goals as goal

pub returns : goal.returns
returns g c = λ k s path h. record {
  within = h.within;
  has_taken = record { stands = c.in_ok-world.ensures.stands _ h.has_taken.stands; left_is = h.has_taken.left_is; mark_is = h.has_taken.mark_is };
}
