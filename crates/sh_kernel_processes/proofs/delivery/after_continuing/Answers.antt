use Rattle.std.proofs.Common.{◌∙◌, ap}
use Rattle.sh_kernel_processes.specs.Delivery.{after_delivery, after_each_kept}
use Rattle.sh_kernel_processes.proofs.delivery.after_continuing.Goals as goal
use Rattle.sh_signal.specs.Signals.{signals}
use Rattle.sh_signal.specs.declared.signal.Signal.TheVariants.{Continue}

pub returns : goal.returns
returns c =
    c.after_each_kept.ensures
    ∙ ap (λ all. after_each_kept c.args.is_orphaned c.args.to.member.kept all c.after_delivery-running.result) c.all.ensures
    ∙ ap (after_each_kept c.args.is_orphaned c.args.to.member.kept signals)
    (c.after_delivery-running.ensures ∙ ap (λ r. after_delivery c.args.is_orphaned r Continue) c.running_again.ensures)
