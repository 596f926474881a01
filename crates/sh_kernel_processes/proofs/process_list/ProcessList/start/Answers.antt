use Rattle.std.proofs.Common.{◌∙◌, ap, arith}
use Rattle.sh_kernel_processes.specs.Processes.{live_count}
use Rattle.sh_kernel_processes.proofs.Counting.{one_more, within}
use Rattle.sh_kernel_processes.proofs.process_list.ProcessList.start.Goals as goal

pub invariant_of-self : goal.invariant_of-self
invariant_of-self c =
    let more = ap (λ ps. live_count ps) c.push_reserved.ensures.items ∙ one_more c.args.maker c.self.inside.all.items in
    omega (arith, more, within c.self.inside.all.items, c.self.invariant, c.len-count.ensures, c.saturating_add-self-inside.ensures)
