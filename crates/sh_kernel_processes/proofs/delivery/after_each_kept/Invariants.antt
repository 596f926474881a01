use Rattle.std.proofs.Common.{◌≡◌, length}
use Rattle.sh_kernel_processes.specs.Delivery.{after_each_kept}
use Rattle.sh_kernel_processes.proofs.delivery.after_each_kept.Given as goal

abbrev pub invariant-signals : goal.invariant-signals
invariant-signals l =
    after_each_kept l.is_orphaned l.kept l.rest l.to ≡ after_each_kept l.is_orphaned l.kept l.signals l.fn.to

abbrev pub decreases-signals : goal.decreases-signals
decreases-signals l = length l.rest
