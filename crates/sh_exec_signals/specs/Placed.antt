-- What a turn leaves that enters no form: the machine, the shell, and the active place.
use Rattle.std.specs.Prelude.{◌≡◌}
use Rattle.sh_builtin_shell.specs.declared.shell.Shell.{Shell}
use Rattle.sh_exec_actions.specs.declared.action.Active.{Active}
use Rattle.sh_kernel.specs.State.{KernelKept, KernelState, StandsAt}

pub record Placed : Type 0 where
  pub machine : KernelState
  pub shell : Shell
  pub active : Active

abbrev pub at_place : KernelState → Shell → Active → Placed
at_place s shell active = record { machine = s; shell = shell; active = active }

-- the kernel, the shell and the place are what the turn leaves
pub record IsPlaced (kernel : KernelKept) (shell : Shell) (active : Active) (p : Placed) : Type 0 where
  pub state : StandsAt kernel p.machine
  pub shell_is : shell ≡ p.shell
  pub active_is : active ≡ p.active
