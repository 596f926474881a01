use Rattle.std.proofs.Common.{ap, sym, ◌∙◌}
use Rattle.sh_kernel_descriptors.specs.Counts as counts
use Rattle.sh_kernel_machine.proofs.Tabling.{find_nothing, find_table}
use Rattle.sh_kernel_machine.proofs.tables.find_in.Goals as goal

pub returns-in-Some : goal.returns-in-Some
returns-in-Some c o =
    c.find.ensures ∙ ap (λ hs. counts.find hs c.args.pid c.args.name) c.as_slice.ensures.value
    ∙ find_table c.args.pid c.args.name c.args.tables.now.entries c.in-Some.table.now o c.len-count.ensures.ordered (sym c.in-Some.ensures.value)

pub returns-in-None : goal.returns-in-None
returns-in-None c o = find_nothing c.args.pid c.args.name c.args.tables.now.entries o (sym c.in-None.ensures.value)
