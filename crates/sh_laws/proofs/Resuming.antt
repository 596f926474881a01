-- What is left of a built-in behind an answer leaves the shell its number and its functions.
use Rattle.std.proofs.Common.{◌≡◌, ℕ, List, [], ◌∷◌, length, Bool, true, false, refl}
use Rattle.std.specs.Prelude.{if◌then◌else◌, nat_eq}
use Rattle.sh_builtin_asking.specs.Resuming.{background_continued, continue_resumed, job_continued, kill_resumed, line_by, line_ended, line_read, line_resumed, resumed, wait_ended, wait_resumed, without_target}
use Rattle.sh_builtin_asking.specs.BuiltIns.{with_outcome}
use Rattle.sh_builtin_asking.specs.declared.answer.Answer.{Answer}
use Rattle.sh_builtin_asking.specs.declared.answer.Answer.TheVariants.{Bytes, Ended, Caught, Sent, Continued}
use Rattle.sh_builtin_jobs.specs.declared.continuing.ContinuedJob.{ContinuedJob}
use Rattle.sh_builtin_jobs.specs.declared.run.KillAsk.{KillAsk}
use Rattle.sh_builtin_outcome.specs.Outcomes.{reading}
use Rattle.sh_builtin_outcome.specs.declared.rest.BuiltinRest.{BuiltinRest}
use Rattle.sh_builtin_outcome.specs.declared.rest.BuiltinRest.TheVariants.{Reads, Waits, Kills, Continues}
use Rattle.sh_builtin_outcome.specs.declared.rest.Continuation.{Continuation}
use Rattle.sh_builtin_outcome.specs.declared.rest.Continuation.TheVariants.{Background, Foreground}
use Rattle.sh_builtin_regular.specs.Lines.{Progress, bytes_taken}
use Rattle.sh_builtin_regular.specs.declared.reader.LineReader.{LineReader}
use Rattle.sh_builtin_shell.specs.declared.shell.Shell.{Shell}
use Rattle.sh_builtin_wait.specs.declared.run.Awaited.{Awaited}
use Rattle.sh_builtin_wait.specs.declared.run.Awaited.TheVariants.{All, Operand}
use Rattle.sh_builtin_wait.specs.declared.target.WaitTarget.{WaitTarget}
use Rattle.sh_builtin_wait.specs.declared.target.WaitTarget.TheVariants as target
use Rattle.sh_kernel.specs.State.{KernelState}

pub record Same (left shell : Shell) : Type 0 where
  pub functions : left.functions ≡ shell.functions
  pub pid : left.pid ≡ shell.pid

-- ---- read
same : (shell : Shell) → Same shell shell
same shell = record { functions = refl; pid = refl }

ended_same : (shell : Shell) (reader : LineReader) (status : ℕ) → Same (line_ended shell reader status).shell shell
ended_same shell reader status = record { functions = refl; pid = refl }

line_by_same : (shell : Shell) (p : Progress) → Same (line_by shell p).shell shell
line_by_same shell p = at p.over
  where
    at : (b : Bool) → Same (if b then line_ended shell p.reader 0 else with_outcome shell (reading p.reader)).shell shell
    at true = ended_same shell p.reader 0
    at false = same shell

line_read_same : (shell : Shell) (reader : LineReader) (bytes : List ℕ) → Same (line_read shell reader bytes).shell shell
line_read_same shell reader bytes = at (nat_eq (length bytes) 0)
  where
    at : (b : Bool) → Same (if b then line_ended shell reader 1 else line_by shell (bytes_taken reader bytes)).shell shell
    at true = ended_same shell reader 1
    at false = line_by_same shell (bytes_taken reader bytes)

line_same : (shell : Shell) (reader : LineReader) (answer : Answer) → Same (line_resumed shell reader answer).shell shell
line_same shell reader (Bytes bytes) = line_read_same shell reader bytes
line_same shell reader (Ended status) = same shell
line_same shell reader (Caught signal) = same shell
line_same shell reader (Sent is_reached) = same shell
line_same shell reader Continued = same shell

-- ---- wait
target_same : (shell : Shell) (to : WaitTarget) → Same (without_target shell to) shell
target_same shell (target.Process pid) = record { functions = refl; pid = refl }
target_same shell (target.Job number pids) = record { functions = refl; pid = refl }

wait_ended_same : (s : KernelState) (shell : Shell) (awaited : Awaited) (status : ℕ) → Same (wait_ended s shell awaited status).shell shell
wait_ended_same s shell All status = record { functions = refl; pid = refl }
wait_ended_same s shell (Operand wait) status =
    let left = target_same shell wait.target in record { functions = left.functions; pid = left.pid }

wait_same : (s : KernelState) (shell : Shell) (awaited : Awaited) (answer : Answer) → Same (wait_resumed s shell awaited answer).shell shell
wait_same s shell awaited (Bytes bytes) = same shell
wait_same s shell awaited (Ended status) = wait_ended_same s shell awaited status
wait_same s shell awaited (Caught signal) = same shell
wait_same s shell awaited (Sent is_reached) = same shell
wait_same s shell awaited Continued = same shell

-- ---- kill
kill_same : (s : KernelState) (shell : Shell) (ask : KillAsk) (answer : Answer) → Same (kill_resumed s shell ask answer).shell shell
kill_same s shell ask (Bytes bytes) = same shell
kill_same s shell ask (Ended status) = same shell
kill_same s shell ask (Caught signal) = same shell
kill_same s shell ask (Sent is_reached) = record { functions = refl; pid = refl }
kill_same s shell ask Continued = same shell

-- ---- bg and fg
background_same : (shell : Shell) (jobs : List ContinuedJob) (messages : List (List ℕ)) (status : ℕ) → Same (background_continued shell jobs messages status).shell shell
background_same shell [] messages status = same shell
background_same shell (job ∷ jobs) messages status = record { functions = refl; pid = refl }

job_same : (shell : Shell) (continuation : Continuation) → Same (job_continued shell continuation).shell shell
job_same shell (Background jobs messages status) = background_same shell jobs messages status
job_same shell (Foreground job) = record { functions = refl; pid = refl }

continue_same : (shell : Shell) (continuation : Continuation) (answer : Answer) → Same (continue_resumed shell continuation answer).shell shell
continue_same shell continuation (Bytes bytes) = same shell
continue_same shell continuation (Ended status) = same shell
continue_same shell continuation (Caught signal) = same shell
continue_same shell continuation (Sent is_reached) = same shell
continue_same shell continuation Continued = job_same shell continuation

pub resumed_same : (s : KernelState) (shell : Shell) (rest : BuiltinRest) (answer : Answer) → Same (resumed s shell rest answer).shell shell
unfolding resumed
resumed_same s shell (Reads reader) answer = line_same shell reader answer
resumed_same s shell (Waits awaited) answer = wait_same s shell awaited answer
resumed_same s shell (Kills ask) answer = kill_same s shell ask answer
resumed_same s shell (Continues continuation) answer = continue_same shell continuation answer
