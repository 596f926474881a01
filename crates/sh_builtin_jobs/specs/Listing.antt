-- What `jobs` lists, and what it tells the user by that (XCU jobs).
use Rattle.std.specs.Prelude.{ℕ, List, [], ◌∷◌, ◌++◌, ◌==◌, Option, Some, None, Result, Ok, Err, codes, if◌then◌else◌}
use Rattle.sh_builtin_environment.specs.Options.{Parsed}
use Rattle.sh_builtin_environment.specs.declared.outcome.BuiltinFault.{BuiltinFault}
use Rattle.sh_builtin_environment.specs.declared.outcome.BuiltinFault.TheVariants.{Usage}
use Rattle.sh_builtin_jobs.specs.JobWords.{messages_named, named_status, numbers_named, options_and_ids, state_at}
use Rattle.sh_builtin_jobs.specs.declared.job_word.Wanted.TheVariants.{Any}
use Rattle.sh_builtin_jobs.specs.declared.listing.JobsCommand.{JobsCommand}
use Rattle.sh_builtin_jobs.specs.declared.listing.JobsNamed.{JobsNamed}
use Rattle.sh_jobs.specs.Lines.{report_of}
use Rattle.sh_jobs.specs.News.{without_told}
use Rattle.sh_jobs.specs.Table.{after_telling, numbers_of}
use Rattle.sh_jobs.specs.declared.job.Job.{Job}
use Rattle.sh_jobs.specs.declared.line.JobForm.{JobForm}
use Rattle.sh_jobs.specs.declared.line.JobForm.TheVariants.{Short, Long, Group}
use Rattle.sh_jobs.specs.declared.state.JobState.{JobState}
use Rattle.sh_kernel_processes.specs.declared.process.Process.{Process}

-- ---- the words: of -l and -p the last one counts
abbrev pub form_of : (letter : Option ℕ) → JobForm
form_of None = Short
form_of (Some letter) = if letter == 108 then Long else Group

abbrev pub jobs_parsed : Option Parsed → Result JobsCommand BuiltinFault
jobs_parsed None = Err Usage
jobs_parsed (Some parsed) = Ok (record { form = form_of parsed.0; ids = parsed.1 })

unfoldable pub jobs_of : (arguments : List (List ℕ)) → Result JobsCommand BuiltinFault
jobs_of arguments = jobs_parsed (options_and_ids (codes "lp") arguments)

-- ---- the jobs of some IDs
abbrev pub named_with : (numbers : List ℕ) → (messages : List (List ℕ)) → JobsNamed
named_with numbers messages = record { numbers = numbers; messages = messages; status = named_status messages }

unfoldable pub jobs_named : List Process → List Job → (ids : List (List ℕ)) → JobsNamed
jobs_named ps jobs ids = named_with (numbers_named Any ps jobs ids) (messages_named (codes "jobs") Any ps jobs ids)

-- without operands all jobs, the least number first
abbrev pub jobs_listed : List Process → List Job → (ids : List (List ℕ)) → JobsNamed
jobs_listed ps jobs [] = named_with (numbers_of jobs) []
jobs_listed ps jobs (id ∷ ids) = jobs_named ps jobs (id ∷ ids)

-- ---- the lines of the jobs of some numbers
abbrev pub line_before : Option (List ℕ) → List ℕ → List ℕ
line_before None others = others
line_before (Some line) others = line ++ others

abbrev pub job_lines : List Process → List Job → JobForm → (numbers : List ℕ) → List ℕ
job_lines ps jobs form [] = []
job_lines ps jobs form (number ∷ numbers) = line_before (report_of ps jobs number form) (job_lines ps jobs form numbers)

-- ---- their states are told by that, but not by group numbers alone; a job that is done goes once that is told
abbrev pub told_in : List Job → (number : ℕ) → Option JobState → List Job
told_in jobs number None = jobs
told_in jobs number (Some state) = after_telling jobs number state

abbrev pub told_of_each : List Process → List Job → (numbers : List ℕ) → List Job
told_of_each ps jobs [] = jobs
told_of_each ps jobs (number ∷ numbers) = told_of_each ps (told_in jobs number (state_at ps jobs number)) numbers

abbrev pub after_lines : List Process → List Job → (numbers : List ℕ) → List Job
after_lines ps jobs numbers = without_told ps (told_of_each ps jobs numbers)

abbrev pub after_listing : List Process → List Job → JobForm → (numbers : List ℕ) → List Job
after_listing ps jobs Short numbers = after_lines ps jobs numbers
after_listing ps jobs Long numbers = after_lines ps jobs numbers
after_listing ps jobs Group numbers = jobs
