-- What an interactive shell writes before it reads a command by descriptor 0 (XCU 2.1, 2.5.3 PS1 and PS2, 2.11): a line for each job that has
-- changed, and a prompt.
use Rattle.std.specs.Option.{is_some, unwrap_or}
use Rattle.std.specs.Prelude.{ℕ, List, [], ◌∷◌, ◌||◌, Bool, true, false, length, nat_eq, not, Option, Some, None, codes, if◌then◌else◌}
use Rattle.sh_builtin_jobs.specs.Listing.{after_listing, job_lines}
use Rattle.sh_builtin_shell.specs.Shells.{up_to_date}
use Rattle.sh_builtin_shell.specs.declared.shell.Shell.{Shell}
use Rattle.sh_exec_actions.specs.declared.action.Action.{Action}
use Rattle.sh_exec_actions.specs.declared.beginning.Beginning.{Beginning}
use Rattle.sh_exec_actions.specs.declared.action.Action.TheVariants.{Prompting, ReadInput}
use Rattle.sh_exec_actions.specs.declared.action.Active.TheVariants.{Next}
use Rattle.sh_exec_machine.specs.Transfers.{Giving, give_bytes}
use Rattle.sh_exec_machine.specs.declared.transfer.WriteOutcome.{WriteOutcome}
use Rattle.sh_exec_machine.specs.declared.transfer.WriteOutcome.TheVariants as given
use Rattle.sh_exec_signals.specs.Placed.{Placed, at_place}
use Rattle.sh_jobs.specs.News.{next_changed}
use Rattle.sh_jobs.specs.declared.line.JobForm.TheVariants.{Short}
use Rattle.sh_kernel.specs.State.{KernelState}
use Rattle.sh_vars.specs.Environment.{Environment, value_of}

-- ---- PS1 before a command, PS2 behind the beginning of one; as they stand, without an expansion
abbrev pub prompt_name : (text : List ℕ) → List ℕ
prompt_name [] = codes "PS1"
prompt_name (byte ∷ bytes) = codes "PS2"

abbrev pub prompt_of : Environment → (text : List ℕ) → List ℕ
prompt_of env text = unwrap_or (value_of env (prompt_name text)) []

-- jobs are told before a command, the one with the least number first
abbrev pub job_to_tell : KernelState → Shell → (text : List ℕ) → Option ℕ
job_to_tell s shell [] = next_changed s.machine.processes shell.jobs
job_to_tell s shell (byte ∷ bytes) = None

-- ---- what comes before the read of a command, or of its next line: a write, if there is something to write
abbrev pub has_prompt : KernelState → Shell → (text : List ℕ) → Bool
has_prompt s shell text = is_some (job_to_tell s shell text) || not (nat_eq (length (prompt_of shell.vars text)) 0)

unfoldable pub input_action : KernelState → Shell → Beginning → Action
input_action s shell beginning = if has_prompt s shell beginning.text then Prompting beginning else ReadInput beginning

-- ---- one write to descriptor 2: what it is, is decided as it begins. A write that would wait is made again; what can't be written is dropped.
-- Descriptor 2 of the first shell never leads to a pipe, so no write goes in parts
abbrev pub is_waiting : WriteOutcome → Bool
is_waiting given.Whole = false
is_waiting (given.Part count) = false
is_waiting given.Wait = true
is_waiting given.Failed = false

abbrev pub stays : KernelState → Shell → Beginning → Placed
stays s shell beginning = at_place s shell (Next (Prompting beginning))

-- a job that is told; one that is done goes by that
abbrev pub with_job_told : KernelState → Shell → (number : ℕ) → Shell
with_job_told s shell number = record shell { jobs = after_listing s.machine.processes shell.jobs Short (number ∷ []) }

abbrev pub behind_job : KernelState → Shell → Beginning → Placed
behind_job s shell beginning = at_place s shell (Next (input_action s shell beginning))

abbrev pub job_written : Giving → Shell → Beginning → (number : ℕ) → Placed
job_written g shell beginning number =
    if is_waiting g.told then stays g.after shell beginning else behind_job g.after (with_job_told g.after shell number) beginning

abbrev pub tell_job : KernelState → Shell → Beginning → (number : ℕ) → Placed
tell_job s shell beginning number =
    job_written (give_bytes s shell.pid 2 (job_lines s.machine.processes shell.jobs Short (number ∷ []))) shell beginning number

abbrev pub prompt_written : Giving → Shell → Beginning → Placed
prompt_written g shell beginning = if is_waiting g.told then stays g.after shell beginning else at_place g.after shell (Next (ReadInput beginning))

abbrev pub write_prompt : KernelState → Shell → Beginning → Placed
write_prompt s shell beginning = prompt_written (give_bytes s shell.pid 2 (prompt_of shell.vars beginning.text)) shell beginning

abbrev pub prompt_by : KernelState → Shell → Beginning → Option ℕ → Placed
prompt_by s shell beginning (Some number) = tell_job s (up_to_date s shell) beginning number
prompt_by s shell beginning None = write_prompt s shell beginning

unfoldable pub prompt_turn : KernelState → Shell → Beginning → Placed
prompt_turn s shell beginning = prompt_by s shell beginning (job_to_tell s shell beginning.text)
