use Rattle.std.proofs.Common.{ap, subst, ◌∙◌}
use Rattle.sh_exec.specs.Programs.{HasLeft}
use Rattle.sh_exec.specs.Starting.{located_for, start_named, started_by}
use Rattle.sh_exec.proofs.start.start_named.Goals as goal

-- the files are the kernel's
pub returns-clause-state : goal.returns-clause-state
unfolding start_named
returns-clause-state g c = λ s h.
    subst (λ l. HasLeft c.start_located.new.kernel c.in_ok-started.started (started_by g.S.Stock.meaning s c.args.shell.now (record { name = c.args.name.now; operands = c.args.operands.now; ends_shell = c.args.ends_shell }) l))
    (c.in_ok-located.ensures ∙ ap (λ files. located_for files c.args.shell.now.vars c.args.name.now) (c.files.ensures s h))
    (c.in_ok-started.ensures.state s h)
