use Rattle.std.proofs.Common.{◌∙◌, ap, subst, sym}
use Rattle.std.specs.Prelude.{IfSome}
use Rattle.sh_kernel_descriptors.specs.Counts as counts
use Rattle.sh_kernel_descriptors.specs.Kept.{Among}
use Rattle.sh_kernel_machine.specs.Machine.{MachineKept, StandsAt}
use Rattle.sh_kernel_machine.specs.Tables.{held_in}
use Rattle.sh_kernel_machine.proofs.Standing.{looked_among, looked_none, looked_some}
use Rattle.sh_kernel_machine.proofs.machine.Machine.look.Goals as goal

pub returns-clause-none : goal.returns-clause-none
returns-clause-none c s st = looked_none _ s c.args.pid c.args.name c.find_in.result (c.find_in.ensures c.self.invariant.2) (subst (λ m. StandsAt m s) (sym c.self.view_is) st)

pub returns-clause-some : goal.returns-clause-some
returns-clause-some c s st = looked_some _ s c.args.pid c.args.name c.find_in.result (c.find_in.ensures c.self.invariant.2) (subst (λ m. StandsAt m s) (sym c.self.view_is) st)

pub returns-clause-among : goal.returns-clause-among
returns-clause-among c =
    subst (λ (m : MachineKept). IfSome c.find_in.result (λ h. Among h m.held)) c.self.view_is
    (looked_among (held_in c.self.inside.held.entries) c.args.pid c.args.name c.find_in.result (c.find_in.ensures c.self.invariant.2))

pub returns-clause-found : goal.returns-clause-found
returns-clause-found c = c.find_in.ensures c.self.invariant.2 ∙ ap (λ (m : MachineKept). counts.find m.held c.args.pid c.args.name) c.self.view_is
