-- Where a command goes on.
use Rattle.sh_exec_actions.specs.declared.action.Move.{Move}
use Rattle.sh_exec_actions.specs.declared.action.Move.TheVariants as move
use Rattle.sh_exec_actions.specs.declared.form.Form.TheVariants.{Restoring}
use Rattle.sh_exec_forms.specs.Bodies.{body_of}
use Rattle.sh_exec_forms.specs.Entering.{form_run, list_run}
use Rattle.sh_exec_forms.specs.Running.{Run, At, In}

abbrev pub move_run : Move → Run
move_run (move.At active) = At active
move_run (move.Held undo active) = In (Restoring undo) (At active)
move_run (move.Enter list) = list_run list
move_run (move.Compound undo command) = In (Restoring undo) (form_run command)
move_run (move.Subshell list) = body_of list
