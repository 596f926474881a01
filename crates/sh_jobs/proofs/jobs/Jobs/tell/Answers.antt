use Rattle.sh_jobs.specs.Table.{job_after_telling}
use Rattle.sh_jobs.proofs.Apart.{told_keeps}
use Rattle.sh_jobs.proofs.Marked.{mapped_marked, written_marked}
use Rattle.sh_jobs.proofs.jobs.Jobs.tell.Goals as goal

pub invariant_of-self : goal.invariant_of-self
invariant_of-self c =
    written_marked _ _ _ _ c.self.inside.jobs.len _ _ c.tell.auto.jobs c.as_mut_slice.ensures.len c.tell.ensures
    (rw c.as_mut_slice.ensures.value (mapped_marked (job_after_telling c.args.number c.args.state) (told_keeps c.args.number c.args.state) _ _ _ c.self.invariant))
