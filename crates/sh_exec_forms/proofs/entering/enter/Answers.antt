use Rattle.std.proofs.Common.{rules}
use Rattle.sh_exec_forms.proofs.Inside.{items_inside}
use Rattle.sh_exec_forms.proofs.entering.enter.Goals as goal

pub returns-in-Ok-entered : goal.returns-in-Ok-entered
returns-in-Ok-entered c = search (rules, items_inside c.args.items)
