use Rattle.sh_exec.specs.State.{start}
use Rattle.psh.proofs.Driving.{shows_some}
use Rattle.psh.proofs.serving.run.Goals as goal

pub returns-in-Ok-clause-cut : goal.returns-in-Ok-clause-cut
returns-in-Ok-clause-cut g c = λ h.
    shows_some g.S.Stock.meaning c.args.files c.args.settings c.args.all.now c.args.out.now.items c.lead.new.out.items
    (c.lead.ensures.cut (start c.args.files c.args.settings) c.in-Ok.ensures h)
