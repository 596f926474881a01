use Rattle.std.proofs.Common.{refl}
use Rattle.sh_jobs.proofs.Marked.{same_marked, written_marked}
use Rattle.sh_jobs.proofs.jobs.Jobs.bring_up_to_date.Goals as goal

pub invariant_of-self : goal.invariant_of-self
invariant_of-self c =
    written_marked _ _ _ _ c.self.inside.jobs.len _ _ c.bring_up_to_date.auto.jobs c.as_mut_slice.ensures.len refl
    (same_marked _ _ _ _ c.bring_up_to_date.ensures.numbers (rw c.as_mut_slice.ensures.value c.self.invariant))
