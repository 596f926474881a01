-- What `bg` and `fg` write, and the groups that they send CONT (XCU bg, fg).
use Rattle.std.specs.Prelude.{ℕ, List, [], ◌∷◌, ◌++◌, Bool, Option, Some, None, Result, Ok, Err, codes, decimal, if◌then◌else◌}
use Rattle.sh_builtin_environment.specs.Options.{Parsed}
use Rattle.sh_builtin_jobs.specs.JobWords.{job_named, messages_named, named_status, numbers_named, options_and_ids}
use Rattle.sh_builtin_jobs.specs.Messages.{fault_text, message, message_about}
use Rattle.sh_builtin_jobs.specs.declared.continuing.BackgroundJobs.{BackgroundJobs}
use Rattle.sh_builtin_jobs.specs.declared.continuing.ContinuedJob.{ContinuedJob}
use Rattle.sh_builtin_jobs.specs.declared.continuing.ForegroundJob.{ForegroundJob}
use Rattle.sh_builtin_jobs.specs.declared.job_word.Wanted.TheVariants.{NotDone}
use Rattle.sh_jobs.specs.Table.{after_telling, job_at}
use Rattle.sh_jobs.specs.declared.fault.JobFault.{JobFault}
use Rattle.sh_jobs.specs.declared.fault.JobFault.TheVariants.{NoSuchJob}
use Rattle.sh_jobs.specs.declared.job.Job.{Job}
use Rattle.sh_jobs.specs.declared.state.JobState.TheVariants.{Running}
use Rattle.sh_kernel_processes.specs.declared.process.Process.{Process}

-- ---- why nothing is done: a message, and the status is 2
abbrev pub usage : (name : List ℕ) → List ℕ
usage name = message name (codes "usage")

abbrev pub no_job_control : (name : List ℕ) → List ℕ
no_job_control name = message name (codes "no job control")

abbrev pub no_job : (name id : List ℕ) → JobFault → List ℕ
no_job name id fault = message_about name id (fault_text fault)

-- ---- bg: the line of a job, and its group
abbrev pub background_line : Job → List ℕ
background_line job = 91 ∷ decimal job.number ++ codes "] " ++ job.text ++ 10 ∷ []

abbrev pub continued : Job → ContinuedJob
continued job = record { number = job.number; group = job.group }

abbrev pub background_line_before : Option Job → List ℕ → List ℕ
background_line_before None others = others
background_line_before (Some job) others = background_line job ++ others

abbrev pub background_lines : List Job → (numbers : List ℕ) → List ℕ
background_lines jobs [] = []
background_lines jobs (number ∷ numbers) = background_line_before (job_at jobs number) (background_lines jobs numbers)

abbrev pub continued_before : Option Job → List ContinuedJob → List ContinuedJob
continued_before None others = others
continued_before (Some job) others = continued job ∷ others

abbrev pub continued_jobs : List Job → (numbers : List ℕ) → List ContinuedJob
continued_jobs jobs [] = []
continued_jobs jobs (number ∷ numbers) = continued_before (job_at jobs number) (continued_jobs jobs numbers)

abbrev pub background_with : List Job → (numbers : List ℕ) → (messages : List (List ℕ)) → BackgroundJobs
background_with jobs numbers messages = record {
  out = background_lines jobs numbers;
  continued = continued_jobs jobs numbers;
  messages = messages;
  status = named_status messages;
}

unfoldable pub background_of : List Process → List Job → (ids : List (List ℕ)) → BackgroundJobs
background_of ps jobs ids =
    background_with jobs (numbers_named NotDone ps jobs ids) (messages_named (codes "bg") NotDone ps jobs ids)

-- without an operand it is the current job
abbrev pub ids_or_current : (ids : List (List ℕ)) → List (List ℕ)
ids_or_current [] = codes "%%" ∷ []
ids_or_current (id ∷ ids) = id ∷ ids

abbrev pub background_parsed : (is_on : Bool) → List Process → List Job → Option Parsed → Result BackgroundJobs (List ℕ)
background_parsed is_on ps jobs None = Err (usage (codes "bg"))
background_parsed is_on ps jobs (Some parsed) =
    if is_on then Ok (background_of ps jobs (ids_or_current parsed.1)) else Err (no_job_control (codes "bg"))

unfoldable pub bg_of : (is_on : Bool) → List Process → List Job → (arguments : List (List ℕ)) → Result BackgroundJobs (List ℕ)
bg_of is_on ps jobs arguments = background_parsed is_on ps jobs (options_and_ids [] arguments)

-- ---- fg: the text of a job, and its group
abbrev pub foreground : Job → ForegroundJob
foreground job = record { out = job.text ++ 10 ∷ []; continued = continued job }

abbrev pub foreground_of_job : (id : List ℕ) → Option Job → Result ForegroundJob (List ℕ)
foreground_of_job id None = Err (no_job (codes "fg") id NoSuchJob)
foreground_of_job id (Some job) = Ok (foreground job)

abbrev pub foreground_found : List Job → (id : List ℕ) → Result ℕ JobFault → Result ForegroundJob (List ℕ)
foreground_found jobs id (Err fault) = Err (no_job (codes "fg") id fault)
foreground_found jobs id (Ok number) = foreground_of_job id (job_at jobs number)

unfoldable pub foreground_of : List Process → List Job → (id : List ℕ) → Result ForegroundJob (List ℕ)
foreground_of ps jobs id = foreground_found jobs id (job_named NotDone ps jobs id)

abbrev pub foreground_if_on : (is_on : Bool) → List Process → List Job → (id : List ℕ) → Result ForegroundJob (List ℕ)
foreground_if_on is_on ps jobs id = if is_on then foreground_of ps jobs id else Err (no_job_control (codes "fg"))

-- without an operand it is the current job
abbrev pub foreground_ids : (is_on : Bool) → List Process → List Job → (ids : List (List ℕ)) → Result ForegroundJob (List ℕ)
foreground_ids is_on ps jobs [] = foreground_if_on is_on ps jobs (codes "%%")
foreground_ids is_on ps jobs (id ∷ []) = foreground_if_on is_on ps jobs id
foreground_ids is_on ps jobs (id ∷ other ∷ others) = Err (usage (codes "fg"))

abbrev pub foreground_parsed : (is_on : Bool) → List Process → List Job → Option Parsed → Result ForegroundJob (List ℕ)
foreground_parsed is_on ps jobs None = Err (usage (codes "fg"))
foreground_parsed is_on ps jobs (Some parsed) = foreground_ids is_on ps jobs parsed.1

unfoldable pub fg_of : (is_on : Bool) → List Process → List Job → (arguments : List (List ℕ)) → Result ForegroundJob (List ℕ)
fg_of is_on ps jobs arguments = foreground_parsed is_on ps jobs (options_and_ids [] arguments)

-- ---- what they write tells that the job runs
abbrev pub after_continuing : List Job → ContinuedJob → List Job
after_continuing jobs job = after_telling jobs job.number Running
