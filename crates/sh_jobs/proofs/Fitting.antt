-- A walk over jobs that fit, with the one that was found before.
use Rattle.std.proofs.Common.{ℕ, List, [], ◌∷◌, Option, Some, None}
use Rattle.std.specs.Prelude.{Result, Ok, Err, filter}
use Rattle.sh_jobs.specs.Ids.{fits, the_only}
use Rattle.sh_jobs.specs.declared.fault.JobFault.{JobFault}
use Rattle.sh_jobs.specs.declared.fault.JobFault.TheVariants.{Ambiguous}
use Rattle.sh_jobs.specs.declared.job.Job.{Job}

-- one was found before, and these come after it
abbrev pub the_only_behind : Option ℕ → List Job → Result ℕ JobFault
the_only_behind None jobs = the_only jobs
the_only_behind (Some number) [] = Ok number
the_only_behind (Some number) (job ∷ jobs) = Err Ambiguous

abbrev pub fitting_behind : List ℕ → Option ℕ → List Job → Result ℕ JobFault
fitting_behind pattern found jobs = the_only_behind found (filter (λ job. fits pattern job.text) jobs)
