use Rattle.std.proofs.Common.{List, filter, sym, subst}
use Rattle.sh_kernel_processes.specs.Sending.{after_end, pids_of}
use Rattle.sh_kernel_processes.specs.declared.member.Member.{Member}
use Rattle.sh_kernel.specs.Changes.{is_stopped_at}
use Rattle.sh_kernel.specs.State.{KernelKept, StandsAt}
use Rattle.sh_kernel.specs.contracts.kernel.Kernel.{the_view}
use Rattle.sh_kernel.proofs.Standing.{noted_of_stopped, of_stopped, stands_after}
use Rattle.sh_kernel.proofs.kernel.Kernel.exit.Goals as goal

pub returns-clause-ok : goal.returns-clause-ok
returns-clause-ok c s st =
    let inside : StandsAt (the_view c.self.inside) s = subst (λ (k : KernelKept). StandsAt k s) (sym c.self.view_is) st in
    let members = c.self.inside.members.items in
    let before = of_stopped s.machine.processes c.self.inside.machine.processes c.as_slice.result.now members c.in_ok-stopped.stopped.items c.as_slice-2.result.now inside.machine.processes c.as_slice.ensures.value c.in_ok-stopped.ensures c.as_slice-2.ensures.value in
    let ended = c.in_ok-end.ensures.ok s.machine inside.machine in
    stands_after (the_view c.self.inside) c.end.new.self c.end.new.members.items c.note.new.self.changes s (λ (ms : List Member). after_end (record { processes = s.machine.processes; members = ms }) c.args.pid c.args.status) inside ended
    (c.in_ok-end.ensures.left s.machine inside.machine)
    (noted_of_stopped c.self.inside.changes.changes c.end.new.self s.machine members c.args.pid c.args.status c.note.new.self.changes ended
    (c.note.ensures s.machine.processes (filter (is_stopped_at s.machine.processes) (pids_of members)) before))
