use Rattle.std.proofs.Common.{ℕ, Bool, ap, ◌∙◌}
use Rattle.sh_builtin_shell.specs.Shells.{forked_shell}
use Rattle.sh_builtin_shell.specs.declared.shell.Shell.{Shell}
use Rattle.sh_exec_actions.specs.Preparing.{ahead}
use Rattle.sh_exec_actions.specs.declared.action.ExpandedCommand.{ExpandedCommand}
use Rattle.sh_exec_forms.specs.Moves.{move_run}
use Rattle.sh_exec_forms.specs.Running.{InterpreterState}
use Rattle.sh_exec_shell.specs.Forks.{in_process}
use Rattle.sh_exec_shell.proofs.forks.begin_program.Goals as goal

abbrev made : ℕ → Shell → ExpandedCommand → (ignored : Bool) → InterpreterState
made child shell p ignored = record { shell = forked_shell child shell; run = in_process ignored (move_run (ahead p)) }

-- failures are ignored in the process as they are round it
pub returns-in-Ok-put_program-clause-made : goal.returns-in-Ok-put_program-clause-made
returns-in-Ok-put_program-clause-made c = c.in-Ok-put_program.ensures ∙ ap (made c.args.child c.args.shell.now c.args.prepared) c.is_failure_ignored.ensures
