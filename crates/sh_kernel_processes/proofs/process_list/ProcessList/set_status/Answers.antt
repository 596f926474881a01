use Rattle.std.proofs.Common.{◌∙◌, ap, arith, sym}
use Rattle.sh_kernel_processes.specs.Living.{living_after}
use Rattle.sh_kernel_processes.specs.Processes.{live_count, is_live, status_at}
use Rattle.sh_kernel_processes.proofs.Counting.{changed}
use Rattle.sh_kernel_processes.proofs.process_list.ProcessList.set_status.Goals as goal

pub invariant_of-self : goal.invariant_of-self
invariant_of-self c =
    c.living_after-self-inside.ensures
    ∙ ap (λ b. living_after c.self.inside.living b c.is_live-2.result) c.is_live.ensures
    ∙ ap (λ b. living_after c.self.inside.living (is_live c.in-Some.before) b) c.is_live-2.ensures
    ∙ changed c.self.inside.all.items c.args.pid c.in-Some.before c.args.status c.self.inside.living c.self.invariant (omega (arith, c.len-count.ensures, c.len-count.type_inv))
    (ap (λ ps. status_at ps c.args.pid) (sym c.as_slice.ensures.value) ∙ sym c.status_at.ensures ∙ c.in-Some.is)
    ∙ ap (λ ps. live_count ps) (sym c.set_status.ensures)
