-- The job that a job ID names (XBD chapter 3, Job ID).
use Rattle.std.specs.Prelude.{ℕ, List, [], ◌∷◌, ◌==◌, ◌||◌, Bool, true, Option, Some, None, Result, Ok, Err, codes, filter, if◌then◌else◌}
use Rattle.std.specs.Char.{is_ascii_digit}
use Rattle.std.specs.List.{list_all, starts_with}
use Rattle.std.specs.Str.{bytes_eq}
use Rattle.sh_base.specs.Decimals.{at_most, value_of}
use Rattle.sh_kernel_processes.specs.declared.process.Process.{Process}
use Rattle.sh_jobs.specs.Order.{current_of, previous_of}
use Rattle.sh_jobs.specs.Table.{is_taken}
use Rattle.sh_jobs.specs.declared.fault.JobFault.{JobFault}
use Rattle.sh_jobs.specs.declared.fault.JobFault.TheVariants.{NoSuchJob, Ambiguous}
use Rattle.sh_jobs.specs.declared.job.Job.{Job}

-- the one that is there
abbrev pub number_or_fault : Option ℕ → Result ℕ JobFault
number_or_fault None = Err NoSuchJob
number_or_fault (Some number) = Ok number

-- ---- %, %% and %+
abbrev pub is_current_id : List ℕ → Bool
is_current_id [] = true
is_current_id (byte ∷ bytes) = bytes_eq (byte ∷ bytes) (codes "%") || bytes_eq (byte ∷ bytes) (codes "+")

-- ---- %N: the number of a job is below 2 ^ 64
abbrev pub job_of_number : List Job → Option ℕ → Result ℕ JobFault
job_of_number jobs None = Err NoSuchJob
job_of_number jobs (Some number) = if is_taken jobs number then Ok number else Err NoSuchJob

-- ---- %?text and %text
abbrev pub begins_with : List ℕ → List ℕ → Bool
begins_with part text = starts_with (λ a b. a == b) text part

abbrev pub has_within : List ℕ → List ℕ → Bool
has_within part [] = begins_with part []
has_within part (byte ∷ text) = begins_with part (byte ∷ text) || has_within part text

abbrev pub fits : List ℕ → List ℕ → Bool
fits [] text = begins_with [] text
fits (byte ∷ part) text = if byte == 63 then has_within part text else begins_with (byte ∷ part) text

-- the one job that there is
abbrev pub the_only : List Job → Result ℕ JobFault
the_only [] = Err NoSuchJob
the_only (job ∷ []) = Ok job.number
the_only (job ∷ other ∷ others) = Err Ambiguous

abbrev pub job_of_text : List Job → List ℕ → Result ℕ JobFault
job_of_text jobs pattern = the_only (filter (λ job. fits pattern job.text) jobs)

-- ---- the job that is named by what is after a percent sign, and by a whole word
abbrev pub job_of_name : List Process → List Job → List ℕ → Result ℕ JobFault
job_of_name ps jobs name =
    if is_current_id name then number_or_fault (current_of ps jobs)
    else (if bytes_eq name (codes "-") then number_or_fault (previous_of ps jobs)
    else (if list_all is_ascii_digit name then job_of_number jobs (at_most 18446744073709551615 (value_of name))
    else job_of_text jobs name))

abbrev pub job_of_id : List Process → List Job → List ℕ → Result ℕ JobFault
job_of_id ps jobs [] = Err NoSuchJob
job_of_id ps jobs (byte ∷ name) = if byte == 37 then job_of_name ps jobs name else Err NoSuchJob
