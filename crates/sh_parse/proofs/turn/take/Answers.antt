use Rattle.std.proofs.Common.{◌∙◌, sym}
use Rattle.sh_parse.proofs.Lines.{on_takes}
use Rattle.sh_parse.proofs.turn.take.Goals as goal

pub returns : goal.returns
returns c =
    λ e. on_takes c.args.command.now.aliases e c.args.command.now.text c.args.judged c.args.waiting c.args.item c.args.nul c.go_on.result (sym c.ends_line.ensures ∙ c.if-ends_line.false) c.go_on.ensures
