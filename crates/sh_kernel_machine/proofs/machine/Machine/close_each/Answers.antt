use Rattle.std.proofs.Common.{subst, sym}
use Rattle.std.specs.Prelude.{vec_len}
use Rattle.sh_kernel_machine.specs.Machine.{StandsAt}
use Rattle.sh_kernel_machine.specs.Tables.{held_in}
use Rattle.sh_kernel_machine.proofs.Standing.{closes}
use Rattle.sh_kernel_machine.proofs.machine.Machine.close_each.Goals as goal

pub invariant_of-self : goal.invariant_of-self
invariant_of-self c = (c.close_in.ensures.counted c.self.invariant.0, c.close_in.ensures.paired _ c.self.invariant.1, c.close_in.ensures.own c.self.invariant.2)

pub returns : goal.returns
returns c s st =
    let before = subst (λ m. StandsAt m s) (sym c.self.view_is) st in
    closes _ (held_in c.close_in.new.tables.entries) c.close_in.new.entries c.close_in.new.pipes.entries s c.args.pid c.args.closing before c.self.invariant.0 (c.close_in.ensures.listed c.self.invariant.2) c.close_in.ensures.linked
    (λ es ps l agree. c.close_in.ensures.pipes (vec_len c.self.inside.piped) es ps c.self.invariant.2 c.self.invariant.1 c.self.invariant.0 l agree)
