-- The actions of a shell that make no process.
use Rattle.std.specs.Prelude.{ℕ, List, [], ◌∷◌, ◌++◌, Bool, true, false, length, nat_eq, Option, Some, None, Result, Ok, Err, if◌then◌else◌}
use Rattle.sh_builtin_shell.specs.Functions.{Named}
use Rattle.sh_exec_parts.specs.Messages.{message, refusal_text}
use Rattle.sh_builtin_shell.specs.declared.shell.Shell.{Shell}
use Rattle.sh_builtin_environment.specs.TrapMaps.{action_of, with_action}
use Rattle.sh_signal.specs.declared.condition.Condition.TheVariants.{Exit}
use Rattle.sh_exec_parts.specs.declared.message.Piece.{Piece}
use Rattle.sh_exec_parts.specs.declared.message.Refusal.{Refusal}
use Rattle.sh_exec_parts.specs.declared.message.Refusal.TheVariants as refusal
use Rattle.sh_exec_parts.specs.declared.redirection.Redirection.{Redirection}
use Rattle.sh_exec_command.specs.Assigning.{assign_turn}
use Rattle.sh_exec_command.specs.Cases.{case_turn, pattern_turn}
use Rattle.sh_exec_command.specs.Defining.{define_turn}
use Rattle.sh_exec_command.specs.Expanding.{Turn, words_turn}
use Rattle.sh_exec_actions.specs.Preparing.{ahead, failing, not_done}
use Rattle.sh_exec_command.specs.Redirects.{redirects_turn}
use Rattle.sh_exec_command.specs.Series as series
use Rattle.sh_exec_command.specs.Series.{series_turn}
use Rattle.sh_exec_command.specs.Reading.{next_command}
use Rattle.sh_exec_command.specs.declared.found.Found.{Found}
use Rattle.sh_exec_command.specs.declared.found.Found.TheVariants as found
use Rattle.sh_exec_actions.specs.Statuses as statuses
use Rattle.sh_exec_actions.specs.Statuses.{unexcused}
use Rattle.sh_exec_actions.specs.declared.action.Active.{Active}
use Rattle.sh_exec_actions.specs.declared.action.Active.TheVariants.{Next, Done}
use Rattle.sh_exec_actions.specs.declared.action.Finish.{Finish}
use Rattle.sh_expand.specs.Answers.{Pending}
use Rattle.sh_exec_actions.specs.declared.action.Action.{Action}
use Rattle.sh_exec_actions.specs.declared.action.Action.TheVariants.{WaitSubstitution, ReadSubstitution, Ending, Trapping, Writing}
use Rattle.sh_exec_actions.specs.declared.action.ExpandedCommand.{ExpandedCommand}
use Rattle.sh_exec_actions.specs.declared.action.Role.{Role}
use Rattle.sh_exec_actions.specs.declared.action.Role.TheVariants as role
use Rattle.sh_exec_actions.specs.declared.action.Substitution.{Substitution}
use Rattle.sh_exec_actions.specs.declared.action.ToExpand.{ToExpand}
use Rattle.sh_exec_actions.specs.declared.action.ToExpand.TheVariants.{Words, Values, Redirects, ForWords, CaseWord, CasePattern}
use Rattle.sh_exec_command.specs.declared.series.Round.{Round}
use Rattle.sh_exec_command.specs.declared.series.Round.TheVariants as round
use Rattle.sh_exec_machine.specs.Redirecting.{redirection_outcome}
use Rattle.sh_exec_machine.specs.Transfers.{give_bytes, take_bytes}
use Rattle.sh_exec_machine.specs.declared.transfer.ReadOutcome.{ReadOutcome}
use Rattle.sh_exec_machine.specs.declared.transfer.ReadOutcome.TheVariants as taken
use Rattle.sh_exec_machine.specs.declared.undone.Undone.{Undone}
use Rattle.sh_exec_waiting.specs.Writing.{written_by}
use Rattle.sh_exec_settling.specs.Forms.{Acted, behind_status, with_run}
use Rattle.sh_exec_forms.specs.Entering.{items_run, list_run}
use Rattle.sh_exec_forms.specs.Moves.{move_run}
use Rattle.sh_exec_forms.specs.Stacks.{run_in}
use Rattle.sh_exec_forms.specs.Running.{Run, At, In}
use Rattle.sh_exec_actions.specs.declared.form.Form.{Form}
use Rattle.sh_exec_actions.specs.declared.form.Form.TheVariants.{Text, ForBody, Trapped}
use Rattle.sh_files.specs.Nodes.{FileMap}
use Rattle.sh_kernel.specs.Calls.{close_call, end_call}
use Rattle.sh_kernel.specs.State.{KernelState}
use Rattle.sh_kernel_descriptors.specs.declared.descriptor.DescriptorRef.TheVariants.{Aside}
use Rattle.sh_kernel_descriptors.specs.declared.fault.KernelFault.{KernelFault}
use Rattle.sh_syntax.specs.declared.tree.Command.{Command}
use Rattle.sh_syntax.specs.declared.tree.Command.TheViews as view
use Rattle.sh_vars.specs.Environment.{Environment}

-- ---- reading (2.1): where no command follows the text is done, with the status of its last command, which is 0 before the first one
-- a text that is refused ends the shell (2.8.1); where `command` has it run it has a status, but what is nested too deep ends it there too
abbrev pub is_fatal : (ends_shell : Bool) → Refusal → Bool
is_fatal ends_shell refusal.Syntax = ends_shell
is_fatal ends_shell refusal.BadSubstitution = ends_shell
is_fatal ends_shell refusal.TooDeep = true

abbrev pub after_refusal : (ends_shell : Bool) → Refusal → Active
after_refusal ends_shell why = Next (Writing (message (refusal_text why)) (failing (is_fatal ends_shell why) statuses.error))

-- an interactive shell that reads on in its text does so behind what was refused
abbrev pub refusal_run : (ends_shell reads_on : Bool) → Refusal → (rest : List ℕ) → Run
refusal_run ends_shell true why rest = In (Text rest) (At (after_refusal ends_shell why))
refusal_run ends_shell false why rest = At (after_refusal ends_shell why)

abbrev pub read_turn : (ends_shell reads_on : Bool) → Environment → (status : ℕ) → Found → Run
read_turn ends_shell reads_on env status found.Nothing = At (Done (unexcused status))
read_turn ends_shell reads_on env status (found.Command tree rest) =
    In (Text rest) (items_run (view.out-CompoundList tree).items (unexcused env.special.status))
read_turn ends_shell reads_on env status (found.Fault why rest) = refusal_run ends_shell reads_on why rest

-- ---- expansion
abbrev pub expand_turn : FileMap → Environment → List Named → ToExpand → Option Pending → Turn
expand_turn files env functions (Words command in_place status) pending = words_turn files env functions command in_place status pending
expand_turn files env functions (Values p) pending = assign_turn files env p pending
expand_turn files env functions (Redirects command) pending = redirects_turn files env command pending
expand_turn files env functions (ForWords command) pending = series_turn files env command pending
expand_turn files env functions (CaseWord command) pending = case_turn files env command pending
expand_turn files env functions (CasePattern case) pending = pattern_turn env case pending

-- ---- reading what a substitution's process writes, 1024 bytes at a time; a read that fails counts as end of file
abbrev pub next : Action → Run
next place = At (Next place)

unfoldable pub after_collection : KernelState → Shell → Substitution → ℕ → Acted
after_collection s shell substitution aside = with_run (close_call s shell.pid (Aside aside)).after shell (next (WaitSubstitution substitution))

abbrev pub with_written : Substitution → List ℕ → Substitution
with_written substitution bytes = record substitution { written = substitution.written ++ bytes }

-- the end of the pipe is closed at its end of file
abbrev pub collect_by : KernelState → Shell → Substitution → ℕ → ReadOutcome → Acted
collect_by s shell substitution aside (taken.Bytes bytes) =
    if nat_eq (length bytes) 0 then after_collection s shell substitution aside
    else with_run s shell (next (ReadSubstitution (with_written substitution bytes)))
collect_by s shell substitution aside taken.Wait = with_run s shell (next (ReadSubstitution substitution))
collect_by s shell substitution aside taken.Failed = after_collection s shell substitution aside

unfoldable pub collect_from : KernelState → Shell → Substitution → ℕ → Acted
collect_from s shell substitution aside =
    let t = take_bytes s shell.pid (Aside aside) 1024 in collect_by t.after shell substitution aside t.told

abbrev pub collect_end : KernelState → Shell → Substitution → Option ℕ → Acted
collect_end s shell substitution None = with_run s shell (next (WaitSubstitution substitution))
collect_end s shell substitution (Some aside) = collect_from s shell substitution aside

unfoldable pub collect_turn : KernelState → Shell → Substitution → Acted
collect_turn s shell substitution = collect_end s shell substitution substitution.aside

-- ---- redirection (2.7); what the process of a program or of a subshell changes is never undone; what exec changes is, up to where it has
-- acted (2.15)
abbrev pub keeps : Role → Bool
keeps role.Program = false
keeps (role.Subshell list) = false
keeps _ = true

abbrev pub undone_by : List Undone → Option Undone → List Undone
undone_by undo None = undo
undone_by undo (Some one) = undo ++ one ∷ []

abbrev pub with_undo : ExpandedCommand → Option Undone → ExpandedCommand
with_undo p one = record p { undo = record p.undo { descriptors = undone_by p.undo.descriptors one } }

abbrev pub redirect_by : ExpandedCommand → List ℕ → Result (Unit {0}) KernelFault → Option Undone → Run
redirect_by p word (Ok _) one = move_run (ahead (with_undo p one))
redirect_by p word (Err f) one = move_run (not_done p word f)

unfoldable pub redirect_one : KernelState → Shell → ExpandedCommand → Redirection → Acted
redirect_one s shell p redirection =
    let r = redirection_outcome (keeps p.role) s shell.pid shell.vars.directory redirection in
    with_run r.after shell (redirect_by p redirection.word r.answer r.undone)

abbrev pub redirect_from : KernelState → Shell → ExpandedCommand → List Redirection → Acted
redirect_from s shell p [] = with_run s shell (move_run (ahead p))
redirect_from s shell p (redirection ∷ redirections) = redirect_one s shell (record p { redirections = redirections }) redirection

unfoldable pub redirect_turn : KernelState → Shell → ExpandedCommand → Acted
redirect_turn s shell p = redirect_from s shell p p.redirections

-- ---- writing
unfoldable pub write_turn : KernelState → Shell → Piece → Finish → Acted
write_turn s shell piece finish =
    let g = give_bytes s shell.pid piece.descriptor piece.bytes in with_run g.after shell (At (written_by piece finish g.told))

-- ---- a for: its variable has the next value, and its body is entered (2.9.4.2)
abbrev pub round_run : Round → Run
round_run (round.Body series) = In (ForBody series) (list_run series.body)
round_run (round.Over active) = At active

abbrev pub given_round : KernelState → Shell → series.Given → Acted
given_round s shell g = with_run s (record shell { vars = g.environment }) (round_run g.round)

-- ---- a function is defined (2.9.5)
abbrev pub defined : KernelState → Shell → Command → Acted
defined s shell definition = with_run s (record shell { functions = define_turn shell.functions definition }) (At (Done (unexcused 0)))

-- ---- the trap on EXIT (2.15 trap) is taken where a shell is to end: if it has an action, and that isn't empty
abbrev pub ending_by : Option (List ℕ) → (status : ℕ) → Action
ending_by None status = Ending status
ending_by (Some []) status = Ending status
ending_by (Some (byte ∷ bytes)) status = Trapping status

abbrev pub ending : Shell → (status : ℕ) → Action
ending shell status = ending_by (action_of shell.traps Exit) status

-- it is taken once
abbrev pub without_trap : Shell → Shell
without_trap shell = record shell { traps = with_action shell.traps Exit None }

-- `$?` is the status with which the shell is to end, and the action's first command is read
abbrev pub trap_action : KernelState → Shell → (status : ℕ) → List ℕ → Acted
trap_action s shell status text = with_run s shell (In (Trapped status) (read_turn true false shell.vars 0 (next_command shell.aliases text)))

abbrev pub trap_by : KernelState → Shell → (status : ℕ) → Option (List ℕ) → Acted
trap_by s shell status None = with_run s shell (next (Ending status))
trap_by s shell status (Some text) = trap_action s (behind_status (without_trap shell) status) status text

unfoldable pub trap_turn : KernelState → Shell → (status : ℕ) → Acted
trap_turn s shell status = trap_by s shell status (action_of shell.traps Exit)

-- ---- the end of the process
unfoldable pub end_turn : KernelState → Shell → ℕ → Acted
end_turn s shell status = with_run (end_call s shell.pid status).after shell (next (Ending status))

-- what an action leaves, inside the forms round its place
abbrev pub in_forms : List Form → Acted → Acted
in_forms forms a = with_run a.machine a.shell (run_in forms a.run)
