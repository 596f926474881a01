-- What a built-in comes to, beside what it changes of the shell: what it writes, and how it ends.
use Rattle.std.specs.Prelude.{ℕ, List, [], ◌∷◌, ◌&&◌, Bool, true, false, Option, Some, None}
use Rattle.sh_builtin_outcome.specs.Builtins.{is_special, name_of}
use Rattle.sh_builtin_outcome.specs.Messages.{fault_text, line_of, status_of}
use Rattle.sh_builtin_outcome.specs.declared.builtin.Builtin.{Builtin}
use Rattle.sh_builtin_outcome.specs.declared.outcome.Completion.{Completion}
use Rattle.sh_builtin_outcome.specs.declared.outcome.Completion.TheVariants.{Asks, Done, Foreground, Left, Runs}
use Rattle.sh_builtin_outcome.specs.declared.outcome.Leave.{Leave}
use Rattle.sh_builtin_outcome.specs.declared.outcome.Leave.TheVariants as leave
use Rattle.sh_builtin_outcome.specs.declared.outcome.Outcome.{Outcome}
use Rattle.sh_builtin_outcome.specs.declared.outcome.TextOrigin.{TextOrigin}
use Rattle.sh_builtin_outcome.specs.declared.rest.BuiltinRest.{BuiltinRest}
use Rattle.sh_builtin_outcome.specs.declared.rest.BuiltinRest.TheVariants.{Reads, Waits, Kills, Continues}
use Rattle.sh_builtin_outcome.specs.declared.rest.Continuation.{Continuation}
use Rattle.sh_builtin_outcome.specs.declared.rest.JobWait.{JobWait}
use Rattle.sh_builtin_environment.specs.declared.outcome.BuiltinFault.{BuiltinFault}
use Rattle.sh_builtin_environment.specs.declared.outcome.BuiltinFault.TheVariants as fault
use Rattle.sh_builtin_environment.specs.declared.outcome.Outcome.{Outcome as Answer}
use Rattle.sh_builtin_environment.specs.declared.outcome.Outcome.TheVariants as answer
use Rattle.sh_builtin_wait.specs.KillAsk.{KillAsk}
use Rattle.sh_builtin_regular.specs.declared.reader.LineReader.{LineReader}
use Rattle.sh_builtin_wait.specs.declared.run.Awaited.{Awaited}
use Rattle.sh_kernel_processes.specs.Sets.{no_signals}
use Rattle.sh_kernel_processes.specs.declared.set.SignalSet.{SignalSet}

-- its output, its messages, and how it ends
abbrev pub outcome : List ℕ → List (List ℕ) → Completion → Outcome
outcome out err status = record { signals = no_signals; out = out; err = err; status = status }

-- the signals whose traps it has set
abbrev pub with_signals : Outcome → SignalSet → Outcome
with_signals outcome signals = record outcome { signals = signals }

abbrev pub done : ℕ → Outcome
done status = outcome [] [] (Done status)

abbrev pub output : List ℕ → Outcome
output text = outcome text [] (Done 0)

abbrev pub saying : List ℕ → (messages : List (List ℕ)) → ℕ → Outcome
saying out messages status = outcome out messages (Done status)

abbrev pub left : Leave → Outcome
left leave = outcome [] [] (Left leave)

abbrev pub running : TextOrigin → List ℕ → Outcome
running origin text = outcome [] [] (Runs (record { origin = origin; is_special = true }) text)

-- it asks something of the kernel first
abbrev pub asking : List ℕ → BuiltinRest → Outcome
asking out rest = outcome out [] (Asks rest)

abbrev pub reading : LineReader → Outcome
reading reader = asking [] (Reads reader)

abbrev pub waiting : Awaited → Outcome
waiting awaited = asking [] (Waits awaited)

abbrev pub killing : KillAsk → Outcome
killing ask = asking [] (Kills ask)

abbrev pub continuing : List ℕ → Continuation → Outcome
continuing out continuation = asking out (Continues continuation)

-- the shell waits for a job in the foreground
abbrev pub foreground : JobWait → Outcome
foreground wait = outcome [] [] (Foreground wait)

-- what it does behind the kernel's answer, where it asks
abbrev pub rest_in : Completion → Option BuiltinRest
rest_in (Done status) = None
rest_in (Left l) = None
rest_in (Runs how text) = None
rest_in (Asks rest) = Some rest
rest_in (Foreground wait) = None

-- a line in place of what it was to do, with the status 2
abbrev pub refused_with : List ℕ → Outcome
refused_with line = saying [] (line ∷ []) 2

-- the status of a shell that is left so; break and continue leave no shell
abbrev pub shell_status : Leave → ℕ
shell_status (leave.Exit status) = status
shell_status (leave.Fault status) = status
shell_status (leave.Return status) = status
shell_status (leave.Break inside) = 0
shell_status (leave.Continue inside) = 0

-- an error in a special built-in ends a shell that isn't interactive (2.8.1)
abbrev pub failure : (is_special : Bool) → ℕ → Completion
failure true status = Left (leave.Fault 2)
failure false status = Done status

-- a condition of trap that is none is no such error, and ends no shell (XCU trap, EXIT STATUS)
abbrev pub is_error : BuiltinFault → Bool
is_error (fault.BadCondition word) = false
is_error fault.Usage = true
is_error (fault.BadName word) = true
is_error (fault.ReadOnly variable) = true
is_error (fault.CannotOpen path) = true

-- one that is refused has a message, and no output
abbrev pub refusal : Builtin → BuiltinFault → Outcome
refusal builtin why =
    outcome [] (line_of (fault_text (name_of builtin) why) ∷ []) (failure (is_special builtin && is_error why) (status_of why))

-- one with wrong options or operands
abbrev pub misuse : Builtin → Outcome
misuse builtin = refusal builtin fault.Usage

-- of what a built-in that acts on the shell's environment answers
abbrev pub outcome_of : Builtin → Answer → Outcome
outcome_of builtin (answer.Done status) = done status
outcome_of builtin (answer.Output text) = output text
outcome_of builtin (answer.Fault why) = refusal builtin why
