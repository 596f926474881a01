-- The lines by which jobs are listed (XCU jobs, "STDOUT").
use Rattle.std.specs.Prelude.{ℕ, List, [], ◌∷◌, ◌++◌, ◌==◌, Bool, false, Option, Some, None, option_map, decimal, if◌then◌else◌}
use Rattle.sh_kernel_processes.specs.declared.process.Process.{Process}
use Rattle.sh_jobs.specs.Order.{current_of, previous_of}
use Rattle.sh_jobs.specs.States.{state_of}
use Rattle.sh_jobs.specs.Table.{job_at}
use Rattle.sh_jobs.specs.Words.{word}
use Rattle.sh_jobs.specs.declared.job.Job.{Job}
use Rattle.sh_jobs.specs.declared.line.JobForm.{JobForm}
use Rattle.sh_jobs.specs.declared.line.JobForm.TheVariants.{Short, Long, Group}
use Rattle.sh_jobs.specs.declared.state.JobState.{JobState}

-- ---- + for the current job, - for the previous one, else a space
abbrev pub is_number : Option ℕ → ℕ → Bool
is_number None number = false
is_number (Some other) number = other == number

unfoldable pub mark_of : List Process → List Job → ℕ → ℕ
mark_of ps jobs number =
    if is_number (current_of ps jobs) number then 43
    else (if is_number (previous_of ps jobs) number then 45 else 32)

-- ---- [N] C, and STATE TEXT with a newline
abbrev pub number_and_mark : ℕ → ℕ → List ℕ
number_and_mark number mark = 91 ∷ decimal number ++ 93 ∷ 32 ∷ mark ∷ 32 ∷ []

abbrev pub state_and_text : JobState → List ℕ → List ℕ
state_and_text state text = word state ++ 32 ∷ text ++ 10 ∷ []

-- ---- the line of a job, with its mark and its state
abbrev pub line : JobForm → ℕ → JobState → Job → List ℕ
line Short mark state job = number_and_mark job.number mark ++ state_and_text state job.text
line Long mark state job = number_and_mark job.number mark ++ decimal job.group ++ 32 ∷ state_and_text state job.text
line Group mark state job = decimal job.group ++ 10 ∷ []

-- the line of the job of a number
abbrev pub line_of : List Process → List Job → JobForm → Job → List ℕ
line_of ps jobs form job = line form (mark_of ps jobs job.number) (state_of ps job.pids) job

abbrev pub report_of : List Process → List Job → ℕ → JobForm → Option (List ℕ)
report_of ps jobs number form = option_map (line_of ps jobs form) (job_at jobs number)
