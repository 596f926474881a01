use Rattle.std.proofs.Common.{◌∙◌, ◌++◌, ◌∷◌, [], ap, subst, sym}
use Rattle.sh_kernel_processes.specs.Processes.{next_pid}
use Rattle.sh_kernel_processes.specs.declared.process.Status.TheVariants.{Running}
use Rattle.sh_kernel_machine.specs.Machine.{StandsAt}
use Rattle.sh_kernel_machine.specs.Tables.{held_in}
use Rattle.sh_kernel_machine.proofs.Standing.{forks}
use Rattle.sh_kernel_machine.proofs.machine.Machine.fork.Goals as goal

pub returns-clause-ok : goal.returns-clause-ok
returns-clause-ok c s st =
    let before = subst (λ m. StandsAt m s) (sym c.self.view_is) st in
    forks _ (held_in c.fork_in.new.tables.entries) c.fork_in.new.entries c.start.new.self.all s c.args.pid _
    (c.start.ensures ∙ ap (λ all. all ++ record { maker = c.args.pid; status = Running } ∷ []) c.reserve.ensures.same)
    (ap (λ all. next_pid all) (c.as_slice.ensures ∙ c.reserve.ensures.same)) before (c.in_ok-fork_in.ensures.listed c.self.invariant.2) (λ es l. c.in_ok-fork_in.ensures.linked es c.self.invariant.2 l)
