-- Traps on signals (XCU 2.15 trap, 2.12): before which actions of a shell that of a trap may come, and the turn in which it is taken.
use Rattle.std.specs.Option.{is_some}
use Rattle.std.specs.Prelude.{ℕ, zero, suc, List, [], ◌∷◌, ◌&&◌, ◌||◌, Bool, true, false, not, Option, Some, None, if◌then◌else◌}
use Rattle.sh_builtin_outcome.specs.Rests.{ask_of}
use Rattle.sh_builtin_outcome.specs.declared.rest.Ask.{Ask}
use Rattle.sh_builtin_outcome.specs.declared.rest.Ask.TheVariants as ask
use Rattle.sh_builtin_shell.specs.declared.shell.Shell.{Shell}
use Rattle.sh_exec_actions.specs.declared.action.Action.{Action}
use Rattle.sh_exec_actions.specs.declared.action.Action.TheVariants.{Reading, Prompting, ReadInput, Expanding, ReadSubstitution, WaitSubstitution, Asking, WaitForJob, Redirecting, Forking, Starting, ForkStage, ForkList, AssignLoopVariable, Defining, Waiting, Writing, Trapping, Ending}
use Rattle.sh_expand.specs.Answers.{Pending}
use Rattle.sh_exec_actions.specs.declared.action.ToExpand.{ToExpand}
use Rattle.sh_exec_actions.specs.declared.action.ToExpand.TheVariants.{Words, Values, Redirects, ForWords, CaseWord, CasePattern}
use Rattle.sh_exec_actions.specs.declared.form.Form.{Form}
use Rattle.sh_exec_actions.specs.declared.form.Form.TheVariants.{Interruption}
use Rattle.sh_exec_actions.specs.Preparing.{fatal}
use Rattle.sh_exec_command.specs.Reading.{next_command}
use Rattle.sh_exec_settling.specs.Forms.{Acted, behind_status, with_run}
use Rattle.sh_exec_forms.specs.Running.{At, In}
use Rattle.sh_exec_forms.specs.Frames.{levels_left}
use Rattle.sh_exec_settling.specs.Signals.{is_dropping, is_interrupt_next, pending_action}
use Rattle.sh_exec_parts.specs.Messages.{refusal_text}
use Rattle.sh_exec_parts.specs.Simple.{compound_redirects}
use Rattle.sh_exec_parts.specs.declared.message.Refusal.TheVariants as refusal
use Rattle.sh_exec_turns.specs.Acting.{read_turn}
use Rattle.sh_kernel.specs.Calls.{after_take_signal}
use Rattle.sh_kernel.specs.State.{KernelState}

abbrev pub is_none : {A : Type 0} → List A → Bool
is_none [] = true
is_none (a ∷ others) = false

-- ---- the first expansion of a command: that of its words and those of its redirections; its assignments, where it has nothing else
abbrev pub is_first : ToExpand → Bool
is_first (Words command in_place status) = true
is_first (Values command) = not command.has_words
is_first (Redirects command) = true
is_first (ForWords command) = is_none (compound_redirects command)
is_first (CaseWord command) = is_none (compound_redirects command)
is_first (CasePattern case) = false

-- where a substitution has been needed, this isn't the beginning of the expansion
abbrev pub is_begun : Option Pending → Bool
is_begun None = false
is_begun (Some pending) = true

abbrev pub begins : ToExpand → Option Pending → Bool
begins wants pending = if is_begun pending then false else is_first wants

-- ---- the action of a trap comes where a command would begin: before a reading, a definition, the next round of a for, the first expansion of
-- a command, and the first process of a pipeline, a subshell or an asynchronous list. So it comes after a command that runs in the
-- foreground (2.12)
abbrev pub may_interrupt : Action → Bool
may_interrupt (Reading rest status) = true
may_interrupt (Prompting beginning) = false
may_interrupt (ReadInput beginning) = true
may_interrupt (Expanding wants pending) = begins wants pending
may_interrupt (ReadSubstitution substitution) = false
may_interrupt (WaitSubstitution substitution) = false
may_interrupt (Asking rest) = false
may_interrupt (WaitForJob wait) = false
may_interrupt (Redirecting p) = false
may_interrupt (Forking p) = false
may_interrupt (Starting start) = false
may_interrupt (ForkStage stages) = is_none stages.children
may_interrupt (ForkList list) = true
may_interrupt (AssignLoopVariable series) = true
may_interrupt (Defining definition) = true
may_interrupt (Waiting wait) = false
may_interrupt (Writing piece finish) = false
may_interrupt (Trapping status) = true
may_interrupt (Ending status) = false

-- the action that comes before this one: that of the pending signal with the lowest number
abbrev pub trap_before : KernelState → Shell → Action → Option (List ℕ)
trap_before s shell place = if may_interrupt place then pending_action s shell else None

-- ---- its first command is read in this turn; behind it the shell goes on at its place, and `$?` is again what it was
abbrev pub interrupted : (levels : ℕ) → KernelState → Shell → Action → (text : List ℕ) → Acted
interrupted zero s shell place text = with_run s shell (At (fatal (refusal_text refusal.TooDeep)))
interrupted (suc levels) s shell place text =
    with_run s shell (In (Interruption shell.vars.special.status place) (read_turn true false shell.vars 0 (next_command shell.aliases text)))

-- where the shell is to end, `$?` is the status with which it is to
abbrev pub shell_before : Shell → Action → Shell
shell_before shell (Trapping status) = behind_status shell status
shell_before shell _ = shell

unfoldable pub interruption : (around : List Form) → KernelState → Shell → Action → (text : List ℕ) → Acted
interruption around s shell place text = interrupted (levels_left around) (after_take_signal s shell.pid) (shell_before shell place) place text

-- ---- INT without a trap: an interactive shell drops what it does (sh, ASYNCHRONOUS EVENTS), where it would take a trap, and where the built-in wait
-- waits, unless a signal with a lower number comes first
abbrev pub is_wait : Ask → Bool
is_wait ask.Read = false
is_wait ask.Wait = true
is_wait ask.Signal = false
is_wait ask.Continue = false

abbrev pub may_drop : Action → Bool
may_drop (Reading rest status) = true
may_drop (Prompting beginning) = false
may_drop (ReadInput beginning) = true
may_drop (Expanding wants pending) = begins wants pending
may_drop (ReadSubstitution substitution) = false
may_drop (WaitSubstitution substitution) = false
may_drop (Asking rest) = is_wait (ask_of rest)
may_drop (WaitForJob wait) = false
may_drop (Redirecting p) = false
may_drop (Forking p) = false
may_drop (Starting start) = false
may_drop (ForkStage stages) = is_none stages.children
may_drop (ForkList list) = true
may_drop (AssignLoopVariable series) = true
may_drop (Defining definition) = true
may_drop (Waiting wait) = false
may_drop (Writing piece finish) = false
may_drop (Trapping status) = true
may_drop (Ending status) = false

-- and at once where the built-in read reads, which is no place for a trap
abbrev pub is_read : Ask → Bool
is_read ask.Read = true
is_read ask.Wait = false
is_read ask.Signal = false
is_read ask.Continue = false

abbrev pub drops_at_once : Action → Bool
drops_at_once (Asking rest) = is_read (ask_of rest)
drops_at_once _ = false

abbrev pub drops_before : KernelState → Shell → Action → Bool
drops_before s shell place = is_dropping s shell && (drops_at_once place || (may_drop place && is_interrupt_next s shell))

-- a shell waits no longer for what it would read, or wait for, where it has a trap to take before, or something to drop
abbrev pub is_called : KernelState → Shell → Action → Bool
is_called s shell place = is_some (trap_before s shell place) || drops_before s shell place
