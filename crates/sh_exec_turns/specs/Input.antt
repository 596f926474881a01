-- The turn in which an interactive shell reads its next command by descriptor 0 (XCU 2.1, sh "STDIN").
use Rattle.std.specs.Prelude.{ℕ, List, [], ◌++◌, ◌-◌, ◌==◌, Bool, true, false, length, nat_eq, slice_get, if◌then◌else◌}
use Rattle.std.specs.Option.{option_map_or}
use Rattle.sh_aliases.specs.Aliases.{AliasTable}
use Rattle.sh_builtin_shell.specs.declared.shell.Shell.{Shell}
use Rattle.sh_exec_actions.specs.Beginnings.{aliases_of, begun, not_begun}
use Rattle.sh_exec_actions.specs.Statuses.{unexcused}
use Rattle.sh_exec_actions.specs.declared.action.Action.{Action}
use Rattle.sh_exec_actions.specs.declared.action.Action.TheVariants.{ReadInput}
use Rattle.sh_exec_actions.specs.declared.action.Active.TheVariants.{Next, Done}
use Rattle.sh_exec_actions.specs.declared.beginning.Beginning.{Beginning}
use Rattle.sh_exec_actions.specs.declared.form.Form.TheVariants.{Input}
use Rattle.sh_exec_command.specs.Reading.{input_found}
use Rattle.sh_exec_command.specs.declared.found.InputFound.{InputFound}
use Rattle.sh_exec_command.specs.declared.found.InputFound.TheVariants as found
use Rattle.sh_exec_forms.specs.Entering.{items_run}
use Rattle.sh_exec_settling.specs.Forms.{Acted, with_run}
use Rattle.sh_exec_forms.specs.Running.{Run, At, In}
use Rattle.sh_exec_machine.specs.Transfers.{take_bytes}
use Rattle.sh_exec_machine.specs.declared.transfer.ReadOutcome.{ReadOutcome}
use Rattle.sh_exec_machine.specs.declared.transfer.ReadOutcome.TheVariants as taken
use Rattle.sh_exec_settling.specs.ReadLimit.{most_read}
use Rattle.sh_exec_settling.specs.Prompting.{input_action}
use Rattle.sh_exec_turns.specs.Acting.{after_refusal}
use Rattle.sh_kernel.specs.State.{KernelState}
use Rattle.sh_kernel_descriptors.specs.declared.descriptor.DescriptorRef.TheVariants.{Number}
use Rattle.sh_syntax.specs.declared.tree.Command.TheViews as view

-- ---- the beginning of a command: behind a newline its next line is prompted for, behind a part of a line it isn't
abbrev pub ends_line : List ℕ → Bool
ends_line text = option_map_or (λ byte. byte == 10) (slice_get text (length text - 1)) false

abbrev pub behind_beginning : KernelState → Shell → Beginning → Action
behind_beginning s shell beginning = if ends_line beginning.text then input_action s shell beginning else ReadInput beginning

-- ---- the end of the file: where no command has begun the shell ends, with the status of its last command
abbrev pub behind_blank : (is_end : Bool) → KernelState → Shell → (rest : List ℕ) → Run
behind_blank true s shell rest = At (Done (unexcused shell.vars.special.status))
behind_blank false s shell rest = At (Next (input_action s shell (not_begun rest)))

-- ---- what was read so far, by these aliases: a command is run; what is refused has a message, and is dropped
abbrev pub input_run : (is_end : Bool) → KernelState → Shell → AliasTable → InputFound → Run
input_run is_end s shell aliases (found.Command tree rest) =
    In (Input rest) (items_run (view.out-CompoundList tree).items (unexcused shell.vars.special.status))
input_run is_end s shell aliases (found.Blank rest) = behind_blank is_end s shell rest
input_run is_end s shell aliases (found.More text) = At (Next (behind_beginning s shell (begun aliases text)))
input_run is_end s shell aliases (found.Fault why) = In (Input []) (At (after_refusal true why))

abbrev pub input_read : (is_end : Bool) → KernelState → Shell → AliasTable → (text : List ℕ) → Acted
input_read is_end s shell aliases text = with_run s shell (input_run is_end s shell aliases (input_found aliases is_end text))

-- ---- one read; one that fails counts as the end of the file
abbrev pub input_taken : KernelState → Shell → Beginning → ReadOutcome → Acted
input_taken s shell beginning (taken.Bytes bytes) =
    input_read (nat_eq (length bytes) 0) s shell (aliases_of shell.aliases beginning) (beginning.text ++ bytes)
input_taken s shell beginning taken.Wait = with_run s shell (At (Next (ReadInput beginning)))
input_taken s shell beginning taken.Failed = input_read true s shell (aliases_of shell.aliases beginning) beginning.text

unfoldable pub input_turn : KernelState → Shell → Beginning → Acted
input_turn s shell beginning =
    let t = take_bytes s shell.pid (Number 0) (most_read s.machine shell.pid) in input_taken t.after shell beginning t.told
