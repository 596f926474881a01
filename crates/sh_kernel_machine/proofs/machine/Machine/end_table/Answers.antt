use Rattle.std.proofs.Common.{subst, sym}
use Rattle.std.specs.Prelude.{vec_len}
use Rattle.sh_kernel_descriptors.specs.declared.descriptor.Closing.TheVariants.{All}
use Rattle.sh_kernel_machine.specs.Machine.{StandsAt}
use Rattle.sh_kernel_machine.specs.Tables.{held_in}
use Rattle.sh_kernel_machine.proofs.Standing.{closes}
use Rattle.sh_kernel_machine.proofs.machine.Machine.end_table.Goals as goal

pub returns : goal.returns
returns c s st =
    let before = subst (λ m. StandsAt m s) (sym c.self.view_is) st in
    closes _ (held_in c.end_in.new.tables.entries) c.end_in.new.entries c.end_in.new.pipes.entries s c.args.pid All before c.self.invariant.0 (c.end_in.ensures.listed c.self.invariant.2) (λ es n l. c.end_in.ensures.linked es c.self.invariant.2 n l)
    (λ es ps l agree. c.end_in.ensures.pipes (vec_len c.self.inside.piped) es ps c.self.invariant.2 c.self.invariant.1 c.self.invariant.0 l agree)
