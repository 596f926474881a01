-- How `kill` goes from operand to operand (XCU kill): each is asked of the kernel by itself, and the next one is looked up then.
use Rattle.std.specs.Prelude.{ℕ, List, [], ◌∷◌, ◌++◌, ◌-◌, Bool, true, false, Option, Some, None, Result, Ok, Err, codes, drop, length}
use Rattle.sh_builtin_jobs.specs.KillTargets.{kill_target}
use Rattle.sh_builtin_jobs.specs.Messages.{fault_text, message_about}
use Rattle.sh_builtin_jobs.specs.declared.command.KillSend.{KillSend}
use Rattle.sh_builtin_jobs.specs.declared.run.KillAsk.{KillAsk}
use Rattle.sh_builtin_jobs.specs.declared.run.KillStep.{KillStep}
use Rattle.sh_builtin_jobs.specs.declared.run.KillStep.TheVariants.{Asks, Over}
use Rattle.sh_builtin_jobs.specs.declared.target.JobControl.{JobControl}
use Rattle.sh_jobs.specs.declared.fault.JobFault.{JobFault}
use Rattle.sh_jobs.specs.declared.job.Job.{Job}
use Rattle.sh_kernel_processes.specs.declared.process.Process.{Process}
use Rattle.sh_kernel_processes.specs.declared.target.SignalTarget.{SignalTarget}

-- ---- what is said of an operand: of one that names no job, and of one that reaches no process
abbrev pub said_of : Result SignalTarget JobFault → (is_reached : Bool) → Option (List ℕ)
said_of (Err fault) is_reached = Some (fault_text fault)
said_of (Ok target) true = None
said_of (Ok target) false = Some (codes "no such process")

abbrev pub with_message : (messages : List (List ℕ)) → (word : List ℕ) → Option (List ℕ) → List (List ℕ)
with_message messages word None = messages
with_message messages word (Some text) = messages ++ message_about (codes "kill") word text ∷ []

-- ---- the status: 1 where something was said
abbrev pub kill_status : (messages : List (List ℕ)) → ℕ
kill_status [] = 0
kill_status (message ∷ messages) = 1

-- ---- the first of the operands that are left
abbrev pub step_to : JobControl → List Process → List Job → KillSend → (messages : List (List ℕ)) → (rest : List (List ℕ)) → KillStep
step_to control ps jobs send messages [] = Over (record { messages = messages; status = kill_status messages })
step_to control ps jobs send messages (word ∷ others) = Asks (record {
  send = send;
  taken = length send.operands - length others;
  word = word;
  target = kill_target control ps jobs word;
  messages = messages;
})

-- what follows so many operands
abbrev pub next_step : JobControl → List Process → List Job → KillSend → (taken : ℕ) → (messages : List (List ℕ)) → KillStep
next_step control ps jobs send taken messages = step_to control ps jobs send messages (drop taken send.operands)

unfoldable pub kill_start : JobControl → List Process → List Job → KillSend → KillStep
kill_start control ps jobs send = next_step control ps jobs send 0 []

unfoldable pub kill_next : JobControl → List Process → List Job → KillAsk → (is_reached : Bool) → KillStep
kill_next control ps jobs ask is_reached =
    next_step control ps jobs ask.send ask.taken (with_message ask.messages ask.word (said_of ask.target is_reached))
