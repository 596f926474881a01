use Rattle.sh_kernel_machine.proofs.Copying.{held_copied, own_copied}
use Rattle.sh_kernel_machine.proofs.machine.copying.copy_tables.Goals as goal

pub returns-clause-held : goal.returns-clause-held
returns-clause-held c = held_copied c.args.tables.now.entries c.in_ok-copy.copy.entries c.in_ok-copy.ensures.cases

pub returns-clause-own : goal.returns-clause-own
returns-clause-own c = own_copied c.args.tables.now.entries c.in_ok-copy.copy.entries c.in_ok-copy.ensures.cases
