use Rattle.std.proofs.Common.{List, sym, ap, ◌∙◌, subst}
use Rattle.sh_kernel_processes.specs.Processes.{lives}
use Rattle.sh_kernel_processes.specs.declared.process.Process.{Process}
use Rattle.sh_kernel.specs.State.{WatchKept}
use Rattle.sh_kernel.specs.Watching.{Holds}
use Rattle.sh_kernel.proofs.Watching.{one_more_lives}
use Rattle.sh_kernel.proofs.kernel.Kernel.find_living.Goals as goal

pub invariant_of-self : goal.invariant_of-self
invariant_of-self c = λ current s agrees.
    let was = c.self.invariant current s agrees in
    let told = ap (λ (ps : List Process). lives ps c.args.pid) (sym agrees.machine.processes) ∙ sym c.lives.ensures ∙ c.if-not-lives.false in
    subst (λ (w : WatchKept). Holds w s) (sym c.in-Ok.ensures)
    (record { living = one_more_lives s c.self.inside.watch.living c.args.pid was.living told; blocked = was.blocked })
