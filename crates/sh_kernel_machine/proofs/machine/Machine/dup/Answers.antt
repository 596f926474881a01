use Rattle.std.proofs.Common.{◌∙◌, ap, sym}
use Rattle.sh_kernel_descriptors.specs.Naming.{is_description}
use Rattle.sh_kernel_machine.proofs.Standing.{stays_found}
use Rattle.sh_kernel_machine.proofs.machine.Machine.dup.Goals as goal

pub refer_to-requires : goal.refer_to-requires
refer_to-requires c = (
  c.in-Some.ensures.among,
  stays_found c.args.pid c.args.name c.args.to c.args.self.now.held c.in-Some.h (sym c.in-Some.ensures.found)
      (sym (ap (λ o. is_description c.in-Some.h.descriptor.description o) c.number_of-number.ensures.found) ∙ sym c.if-is_description.ensures),
)
