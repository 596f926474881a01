use Rattle.std.proofs.Common.{sym, ap, ◌∙◌}
use Rattle.sh_expand_parts.specs.Closings.{closing, arithmetic_closing}
use Rattle.sh_expand_parts.specs.declared.closing.Closed.TheVariants.{Fails}
use Rattle.sh_expand_parts.proofs.closing.compute.Goals as goal

pub returns-in_ok-fault-in-Err : goal.returns-in_ok-fault-in-Err
returns-in_ok-fault-in-Err c =
    ap (λ f. closing (Fails f) c.value_of.new.vars) c.in_ok-fault-in-Err.ensures.ok
    ∙ ap (arithmetic_closing c.args.context c.args.saved c.args.text.now) (sym (c.in-Err.ensures.fault c.in_ok-fault-in-Err.ensures.memory))
