-- The processes that an operand of `kill` names (XCU kill, OPERANDS).
use Rattle.std.specs.Prelude.{ℕ, List, [], ◌==◌, Bool, Option, Some, None, Result, Ok, Err, if◌then◌else◌}
use Rattle.sh_base.specs.Decimals.{at_most, number_of}
use Rattle.sh_builtin_jobs.specs.KillWords.{group_number}
use Rattle.sh_builtin_jobs.specs.declared.target.JobControl.{JobControl}
use Rattle.sh_jobs.specs.Ids.{job_of_id}
use Rattle.sh_jobs.specs.Table.{job_at}
use Rattle.sh_jobs.specs.declared.fault.JobFault.{JobFault}
use Rattle.sh_jobs.specs.declared.fault.JobFault.TheVariants.{NoSuchJob}
use Rattle.sh_jobs.specs.declared.job.Job.{Job}
use Rattle.sh_kernel_processes.specs.declared.process.Process as process
use Rattle.sh_kernel_processes.specs.declared.target.SignalTarget.{SignalTarget}
use Rattle.sh_kernel_processes.specs.declared.target.SignalTarget.TheVariants.{Process, Group, Processes}

-- ---- a number: 0 is the own group, and no process or group has a number from 2 ^ 32 on
abbrev pub process_with : Option ℕ → SignalTarget
process_with None = Processes []
process_with (Some number) = Process number

abbrev pub process_target : (own_group number : ℕ) → SignalTarget
process_target own_group number = if number == 0 then Group own_group else process_with (at_most 4294967295 number)

abbrev pub group_with : Option ℕ → SignalTarget
group_with None = Processes []
group_with (Some number) = Group number

abbrev pub group_target : (own_group number : ℕ) → SignalTarget
group_target own_group number = if number == 0 then Group own_group else group_with (at_most 4294967295 number)

-- ---- a job ID: the group of the job, without job control its processes
abbrev pub job_target : (is_on : Bool) → Job → SignalTarget
job_target is_on job = if is_on then Group job.group else Processes job.pids

abbrev pub target_of_job : (is_on : Bool) → Option Job → Result SignalTarget JobFault
target_of_job is_on None = Err NoSuchJob
target_of_job is_on (Some job) = Ok (job_target is_on job)

abbrev pub target_found : (is_on : Bool) → List Job → Result ℕ JobFault → Result SignalTarget JobFault
target_found is_on jobs (Err fault) = Err fault
target_found is_on jobs (Ok number) = target_of_job is_on (job_at jobs number)

-- ---- an operand
abbrev pub target_by : JobControl → List process.Process → List Job → (word : List ℕ) → (number group : Option ℕ) → Result SignalTarget JobFault
target_by control ps jobs word (Some number) group = Ok (process_target control.own_group number)
target_by control ps jobs word None (Some group) = Ok (group_target control.own_group group)
target_by control ps jobs word None None = target_found control.is_on jobs (job_of_id ps jobs word)

unfoldable pub kill_target : JobControl → List process.Process → List Job → (word : List ℕ) → Result SignalTarget JobFault
kill_target control ps jobs word = target_by control ps jobs word (number_of word) (group_number word)
