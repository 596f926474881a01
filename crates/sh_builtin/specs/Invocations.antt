-- Built-ins as they are run: an error of a special built-in that `command` runs doesn't end the shell (XCU command, 2.8.1).
use Rattle.std.specs.Prelude.{ℕ, List, Bool, true, false}
use Rattle.sh_builtin.specs.Running.{built_in}
use Rattle.sh_builtin_asking.specs.BuiltIns.{BuiltIn, with_outcome}
use Rattle.sh_builtin_outcome.specs.declared.invocation.Invocation.{Invocation}
use Rattle.sh_builtin_outcome.specs.declared.outcome.Completion.{Completion}
use Rattle.sh_builtin_outcome.specs.declared.outcome.Completion.TheVariants.{Asks, Done, Foreground, Left, Runs}
use Rattle.sh_builtin_outcome.specs.declared.outcome.Leave.{Leave}
use Rattle.sh_builtin_outcome.specs.declared.outcome.Leave.TheVariants as leave
use Rattle.sh_builtin_outcome.specs.declared.outcome.Outcome.{Outcome}
use Rattle.sh_builtin_shell.specs.declared.shell.Shell.{Shell}
use Rattle.sh_kernel.specs.State.{KernelState}

-- ---- an error of one that isn't special is its status, and so is one that refuses a text that it has run
abbrev pub regular_leave : Leave → Completion
regular_leave (leave.Exit status) = Left (leave.Exit status)
regular_leave (leave.Fault status) = Done status
regular_leave (leave.Return status) = Left (leave.Return status)
regular_leave (leave.Break inside) = Left (leave.Break inside)
regular_leave (leave.Continue inside) = Left (leave.Continue inside)

abbrev pub regular_completion : Completion → Completion
regular_completion (Done status) = Done status
regular_completion (Left l) = regular_leave l
regular_completion (Runs how text) = Runs (record how { is_special = false }) text
regular_completion (Asks rest) = Asks rest
regular_completion (Foreground wait) = Foreground wait

abbrev pub outcome_as : (is_special : Bool) → Outcome → Outcome
outcome_as true outcome = outcome
outcome_as false outcome = record outcome { status = regular_completion outcome.status }

-- ---- with its arguments, in a shell's process of this kernel
unfoldable pub invoked : KernelState → Shell → (last : ℕ) → Invocation → List (List ℕ) → BuiltIn
invoked s shell last invocation arguments =
    let b = built_in s shell last invocation.builtin arguments in with_outcome b.shell (outcome_as invocation.is_special b.outcome)
