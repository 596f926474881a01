-- The jobs that the operands of jobs, fg and bg name (XBD chapter 3, Job ID).
use Rattle.std.specs.Prelude.{ℕ, List, [], ◌∷◌, ◌==◌, Bool, true, false, Option, Some, None, Result, Ok, Err, option_map, if◌then◌else◌}
use Rattle.std.specs.List.{list_all}
use Rattle.sh_builtin_environment.specs.Options.{Parsed, options_and_operands}
use Rattle.sh_builtin_jobs.specs.Messages.{fault_text, message_about}
use Rattle.sh_builtin_jobs.specs.declared.job_word.Wanted.{Wanted}
use Rattle.sh_builtin_jobs.specs.declared.job_word.Wanted.TheVariants.{Any, NotDone}
use Rattle.sh_jobs.specs.Ids.{job_of_id}
use Rattle.sh_jobs.specs.News.{is_done}
use Rattle.sh_jobs.specs.States.{state_of}
use Rattle.sh_jobs.specs.Table.{job_at}
use Rattle.sh_jobs.specs.declared.fault.JobFault.{JobFault}
use Rattle.sh_jobs.specs.declared.fault.JobFault.TheVariants.{NoSuchJob}
use Rattle.sh_jobs.specs.declared.job.Job.{Job}
use Rattle.sh_jobs.specs.declared.state.JobState.{JobState}
use Rattle.sh_kernel_processes.specs.declared.process.Process.{Process}

-- ---- each operand is a job ID: it begins with a percent sign
abbrev pub is_job_id : List ℕ → Bool
is_job_id [] = false
is_job_id (byte ∷ name) = byte == 37

abbrev pub ids_parsed : Option Parsed → Option Parsed
ids_parsed None = None
ids_parsed (Some parsed) = if list_all is_job_id parsed.1 then Some parsed else None

-- the letter of the last option, and the job IDs
abbrev pub options_and_ids : (letters : List ℕ) → (arguments : List (List ℕ)) → Option Parsed
options_and_ids letters arguments = ids_parsed (options_and_operands letters arguments)

-- ---- the job that an ID names; one that is done is none to fg and bg
abbrev pub state_at : List Process → List Job → (number : ℕ) → Option JobState
state_at ps jobs number = option_map (λ job. state_of ps job.pids) (job_at jobs number)

abbrev pub is_over : Option JobState → Bool
is_over None = true
is_over (Some state) = is_done state

abbrev pub unless_over : List Process → List Job → Result ℕ JobFault → Result ℕ JobFault
unless_over ps jobs (Err fault) = Err fault
unless_over ps jobs (Ok number) = if is_over (state_at ps jobs number) then Err NoSuchJob else Ok number

abbrev pub named_by : Wanted → List Process → List Job → Result ℕ JobFault → Result ℕ JobFault
named_by Any ps jobs found = found
named_by NotDone ps jobs found = unless_over ps jobs found

unfoldable pub job_named : Wanted → List Process → List Job → (id : List ℕ) → Result ℕ JobFault
job_named wanted ps jobs id = named_by wanted ps jobs (job_of_id ps jobs id)

-- ---- the numbers of the jobs that are named, in the order of the IDs
abbrev pub number_before : Result ℕ JobFault → List ℕ → List ℕ
number_before (Err fault) others = others
number_before (Ok number) others = number ∷ others

abbrev pub numbers_named : Wanted → List Process → List Job → (ids : List (List ℕ)) → List ℕ
numbers_named wanted ps jobs [] = []
numbers_named wanted ps jobs (id ∷ ids) = number_before (job_named wanted ps jobs id) (numbers_named wanted ps jobs ids)

-- ---- a message about each ID that names none
abbrev pub message_before : (name id : List ℕ) → Result ℕ JobFault → List (List ℕ) → List (List ℕ)
message_before name id (Err fault) others = message_about name id (fault_text fault) ∷ others
message_before name id (Ok number) others = others

abbrev pub messages_named : (name : List ℕ) → Wanted → List Process → List Job → (ids : List (List ℕ)) → List (List ℕ)
messages_named name wanted ps jobs [] = []
messages_named name wanted ps jobs (id ∷ ids) =
    message_before name id (job_named wanted ps jobs id) (messages_named name wanted ps jobs ids)

-- the status: 2 where there is a message
abbrev pub named_status : (messages : List (List ℕ)) → ℕ
named_status [] = 0
named_status (message ∷ messages) = 2
