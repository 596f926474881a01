use Rattle.std.proofs.Common.{ap, subst, sym, ◌∙◌}
use Rattle.sh_kernel_machine.specs.Tables.{AreOwn, held_in}
use Rattle.sh_kernel_machine.proofs.Tabling.{empty_held, empty_own, nothing_there}
use Rattle.sh_kernel_machine.proofs.tables.make_table.Goals as goal

pub returns-in-Ok-clause-own : goal.returns-in-Ok-clause-own
returns-in-Ok-clause-own c o =
    subst (λ es. AreOwn es) (sym c.in-Ok.ensures.entries) (empty_own c.args.pid c.args.tables.now.entries c.new.result c.new.ensures.items (nothing_there _ c.if-contains_key.ensures) o)

pub returns-in-Ok-clause-held : goal.returns-in-Ok-clause-held
returns-in-Ok-clause-held c = ap (λ es. held_in es) c.in-Ok.ensures.entries ∙ empty_held c.args.pid c.args.tables.now.entries c.new.result c.new.ensures.items (nothing_there _ c.if-contains_key.ensures)
