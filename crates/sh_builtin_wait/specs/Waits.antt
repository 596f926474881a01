-- What `wait` waits for (XCU wait): all processes that the shell knows, or what its operands name, one operand after the other.
use Rattle.std.specs.Prelude.{ℕ, List, [], ◌∷◌, ◌++◌, ◌==◌, ◌-◌, ◌||◌, Bool, Option, Some, None, Result, Ok, Err, codes, drop, find, length, if◌then◌else◌}
use Rattle.std.specs.List.{list_all}
use Rattle.std.specs.Option.{is_some}
use Rattle.sh_base.specs.Decimals.{number_of}
use Rattle.sh_builtin_environment.specs.Options.{Parsed, options_and_operands}
use Rattle.sh_builtin_environment.specs.declared.outcome.BuiltinFault.{BuiltinFault}
use Rattle.sh_builtin_environment.specs.declared.outcome.BuiltinFault.TheVariants.{Usage}
use Rattle.sh_builtin_jobs.specs.JobWords.{is_job_id}
use Rattle.sh_builtin_jobs.specs.Messages.{fault_text, message_about}
use Rattle.sh_builtin_wait.specs.declared.command.WaitStart.{WaitStart}
use Rattle.sh_builtin_wait.specs.declared.command.WaitStart.TheVariants.{All, Step}
use Rattle.sh_builtin_wait.specs.declared.run.OperandWait.{OperandWait}
use Rattle.sh_builtin_wait.specs.declared.run.WaitReport.{WaitReport}
use Rattle.sh_builtin_wait.specs.declared.run.WaitStep.{WaitStep}
use Rattle.sh_builtin_wait.specs.declared.run.WaitStep.TheVariants.{Over, Waits}
use Rattle.sh_builtin_wait.specs.declared.target.Named.{Named}
use Rattle.sh_builtin_wait.specs.declared.target.Named.TheVariants.{Known, Unknown, NoJob}
use Rattle.sh_builtin_wait.specs.declared.target.WaitTarget.{WaitTarget}
use Rattle.sh_builtin_wait.specs.declared.target.WaitTarget.TheVariants.{Process, Job}
use Rattle.sh_jobs.specs.Ids.{job_of_id}
use Rattle.sh_jobs.specs.Table.{job_at}
use Rattle.sh_jobs.specs.declared.fault.JobFault.{JobFault}
use Rattle.sh_jobs.specs.declared.fault.JobFault.TheVariants.{NoSuchJob}
use Rattle.sh_jobs.specs.declared.job.Job as job
use Rattle.sh_kernel_processes.specs.declared.process.Process as process

-- ---- the processes that are waited for: the one of a number, or all of a job
abbrev pub processes_of : WaitTarget → List ℕ
processes_of (Process pid) = pid ∷ []
processes_of (Job number pids) = pids

-- ---- what an operand names: the process of a number, if the shell knows it
abbrev pub named_process : Option ℕ → Named
named_process None = Unknown
named_process (Some pid) = Known (Process pid)

-- or the job of a job ID (XBD chapter 3, Job ID)
abbrev pub named_job : (number : ℕ) → Option job.Job → Named
named_job number None = NoJob NoSuchJob
named_job number (Some found) = Known (Job number found.pids)

abbrev pub named_found : List job.Job → Result ℕ JobFault → Named
named_found jobs (Err fault) = NoJob fault
named_found jobs (Ok number) = named_job number (job_at jobs number)

abbrev pub named_by : List process.Process → List job.Job → (known operand : List ℕ) → Option ℕ → Named
named_by ps jobs known operand None = named_found jobs (job_of_id ps jobs operand)
named_by ps jobs known operand (Some number) = named_process (find (λ pid. pid == number) known)

unfoldable pub named_of : List process.Process → List job.Job → (known operand : List ℕ) → Named
named_of ps jobs known operand = named_by ps jobs known operand (number_of operand)

-- ---- an operand that names nothing to wait for has status 127, and of a job ID it is said why it names no job
abbrev pub said_of : (operand : List ℕ) → Named → List (List ℕ)
said_of operand (Known target) = []
said_of operand Unknown = []
said_of operand (NoJob fault) = message_about (codes "wait") operand (fault_text fault) ∷ []

-- what `wait` has come to with it
abbrev pub report_behind : WaitReport → (operand : List ℕ) → Named → WaitReport
report_behind report operand found = record { messages = report.messages ++ said_of operand found; status = 127 }

-- ---- the first of the operands that are left: what it names is waited for; if it names nothing, the next one follows
abbrev pub step_by : (operands others messages : List (List ℕ)) → (further : WaitStep) → Named → WaitStep
step_by operands others messages further (Known target) =
    Waits (record { target = target; operands = operands; taken = length operands - length others; messages = messages })
step_by operands others messages further Unknown = further
step_by operands others messages further (NoJob fault) = further

-- with none left, `wait` is over: its status is that of the last one
abbrev pub step_to : List process.Process → List job.Job → (known : List ℕ) → (operands : List (List ℕ)) → WaitReport
    → (rest : List (List ℕ)) → WaitStep
step_to ps jobs known operands report [] = Over report
step_to ps jobs known operands report (operand ∷ others) =
    step_by operands others report.messages
    (step_to ps jobs known operands (report_behind report operand (named_of ps jobs known operand)) others)
    (named_of ps jobs known operand)

-- what follows so many operands
abbrev pub next_step : List process.Process → List job.Job → (known : List ℕ) → (operands : List (List ℕ)) → (taken : ℕ)
    → WaitReport → WaitStep
next_step ps jobs known operands taken report = step_to ps jobs known operands report (drop taken operands)

-- none was taken yet
unfoldable pub first_wait : List process.Process → List job.Job → (known : List ℕ) → (operands : List (List ℕ)) → WaitStep
first_wait ps jobs known operands = next_step ps jobs known operands 0 (record { messages = []; status = 0 })

-- what was waited for has ended with this status
unfoldable pub next_wait : List process.Process → List job.Job → (known : List ℕ) → OperandWait → (status : ℕ) → WaitStep
next_wait ps jobs known wait status =
    next_step ps jobs known wait.operands wait.taken (record { messages = wait.messages; status = status })

-- ---- the arguments: each operand is a number or a job ID
abbrev pub is_operand : List ℕ → Bool
is_operand operand = is_some (number_of operand) || is_job_id operand

-- without operands all processes are waited for
abbrev pub wait_with : List process.Process → List job.Job → (known : List ℕ) → (operands : List (List ℕ))
    → Result WaitStart BuiltinFault
wait_with ps jobs known [] = Ok All
wait_with ps jobs known (operand ∷ operands) =
    if list_all is_operand (operand ∷ operands) then Ok (Step (first_wait ps jobs known (operand ∷ operands))) else Err Usage

abbrev pub wait_parsed : List process.Process → List job.Job → (known : List ℕ) → Option Parsed → Result WaitStart BuiltinFault
wait_parsed ps jobs known None = Err Usage
wait_parsed ps jobs known (Some parsed) = wait_with ps jobs known parsed.1

unfoldable pub wait_of : List process.Process → List job.Job → (known : List ℕ) → (arguments : List (List ℕ))
    → Result WaitStart BuiltinFault
wait_of ps jobs known arguments = wait_parsed ps jobs known (options_and_operands [] arguments)
