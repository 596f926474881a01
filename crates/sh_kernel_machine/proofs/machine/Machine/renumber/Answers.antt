use Rattle.std.proofs.Common.{subst, sym}
use Rattle.sh_kernel_machine.specs.Machine.{StandsAt}
use Rattle.sh_kernel_machine.specs.Tables.{held_in}
use Rattle.sh_kernel_machine.proofs.Standing.{renames}
use Rattle.sh_kernel_machine.proofs.machine.Machine.renumber.Goals as goal

pub returns : goal.returns
returns c s st =
    let before = subst (λ m. StandsAt m s) (sym c.self.view_is) st in
    renames _ (held_in c.rename_in.new.tables.entries) s c.args.pid c.args.name c.args.number before (c.rename_in.ensures.listed c.self.invariant.2) (c.rename_in.ensures.linked c.self.inside.entries)
