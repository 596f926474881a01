use Rattle.std.proofs.Common.{sym, ◌∙◌, subst}
use Rattle.sh_kernel.specs.State.{KernelKept, WatchKept}
use Rattle.sh_kernel.specs.Watching.{AgreesWith, Holds}
use Rattle.sh_kernel.proofs.Watching.{one_more_blocked}
use Rattle.sh_kernel.proofs.kernel.Kernel.find_blocked.Goals as goal

pub invariant_of-self : goal.invariant_of-self
invariant_of-self c = λ current s agrees.
    let was = c.self.invariant current s agrees in
    let there = subst (λ (k : KernelKept). AgreesWith k.machine k.members k.terminal s) c.self.view_is agrees in
    let told = sym (c.is_blocked.ensures s there) ∙ c.if-not-is_blocked.false in
    subst (λ (w : WatchKept). Holds w s) (sym c.in-Ok.ensures)
    (record { living = was.living; blocked = one_more_blocked s c.self.inside.watch.blocked (record { pid = c.args.pid; cause = c.args.cause }) was.blocked told })
