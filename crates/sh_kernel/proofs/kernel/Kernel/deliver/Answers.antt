use Rattle.std.proofs.Common.{sym, subst, ap, ◌∙◌}
use Rattle.sh_kernel_processes.specs.Sending.{after_send, pids_of}
use Rattle.sh_kernel.specs.State.{KernelKept, StandsAt}
use Rattle.sh_kernel.specs.contracts.kernel.Kernel.{the_view}
use Rattle.sh_kernel.proofs.Standing.{of_all, stands_after}
use Rattle.sh_kernel.proofs.kernel.Kernel.deliver.Goals as goal

pub returns-clause-state : goal.returns-clause-state
returns-clause-state c s st =
    let inside : StandsAt (the_view c.self.inside) s = subst (λ (k : KernelKept). StandsAt k s) (sym c.self.view_is) st in
    stands_after (the_view c.self.inside) c.send.new.self c.send.new.members.items c.note.new.self.changes s (λ members. after_send (record { processes = s.machine.processes; members = members }) c.args.to.now c.args.signal) inside
    (c.send.ensures.state s.machine inside.machine)
    (c.send.ensures.left s.machine inside.machine)
    (c.note.ensures s.machine.processes (pids_of c.self.inside.members.items)
    (of_all s.machine.processes c.args.self.now.machine.processes c.self.inside.members.items c.args.pids.now c.args.before.now st.machine.processes (c.requires.0 ∙ ap (λ (k : KernelKept). pids_of k.members) (sym c.self.view_is)) c.requires.2))
