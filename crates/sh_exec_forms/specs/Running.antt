-- What a shell's process runs: a tree of running forms, with the one place at which it acts.
use Rattle.sh_builtin_shell.specs.declared.shell.Shell.{Shell}
use Rattle.sh_exec_actions.specs.declared.action.Active.{Active}
use Rattle.sh_exec_actions.specs.declared.form.Form.{Form}

-- an active place, or a form round another tree
pub data Run : Type 0 where
  At : Active → Run
  In : Form → Run → Run

-- a shell (2.13), and what it runs
pub record InterpreterState : Type 0 where
  pub shell : Shell
  pub run : Run

-- the one active place of a tree
abbrev pub active_of : Run → Active
active_of (At active) = active
active_of (In form run) = active_of run

-- the same forms round another place
abbrev pub with_active : Run → Active → Run
with_active (At active) next = At next
with_active (In form run) next = In form (with_active run next)
