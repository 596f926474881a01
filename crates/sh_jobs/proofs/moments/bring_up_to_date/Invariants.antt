use Rattle.std.proofs.Common.{◌≡◌, ◌++◌, ℕ, map, take, drop}
use Rattle.sh_kernel.specs.State.{KernelState, StandsAt}
use Rattle.sh_jobs.specs.Moments.{job_brought_up}
use Rattle.sh_jobs.specs.Table.{is_taken}
use Rattle.sh_jobs.proofs.moments.bring_up_to_date.Given as goal

abbrev pub invariant-loop-job : goal.invariant-loop-job
invariant-loop-job l = record {
  changed : (s : KernelState) → StandsAt l.kernel s
      → l.jobs ≡ map (job_brought_up s.changes) (take l.job-index l.initial.jobs) ++ drop l.job-index l.initial.jobs;
  numbers : (k : ℕ) → is_taken l.jobs k ≡ is_taken l.initial.jobs k;
}
