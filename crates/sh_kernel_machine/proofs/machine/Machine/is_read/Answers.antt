use Rattle.std.proofs.Common.{◌≡◌, ◌∙◌, Some, subst, sym}
use Rattle.sh_kernel_descriptors.specs.Descriptors as names
use Rattle.sh_kernel_descriptors.specs.Kept.{listed, target_at}
use Rattle.sh_kernel_descriptors.specs.declared.description.Target.TheVariants.{WriteEnd}
use Rattle.sh_kernel_machine.specs.Machine.{MachineKept, StandsAt}
use Rattle.sh_kernel_machine.specs.Tables.{held_in}
use Rattle.sh_kernel_machine.proofs.Owning.{any_same}
use Rattle.sh_kernel_machine.proofs.machine.Machine.is_read.Goals as goal

pub returns : goal.returns
returns c s st at =
    let before = subst (λ m. StandsAt m s) (sym c.self.view_is) st in
    let there = subst (λ (m : MachineKept). target_at m.entries c.args.key ≡ Some (WriteEnd c.args.pipe)) (sym c.self.view_is) at in
    c.has_reader.ensures _ (held_in c.self.inside.held.entries) s.descriptions c.self.invariant.1 c.self.invariant.0 before.descriptions there
    ∙ any_same (names.is_reader s.descriptions c.args.pipe) (listed (held_in c.self.inside.held.entries)) s.descriptors before.descriptors
