use Rattle.std.proofs.Common.{ap, subst, sym}
use Rattle.sh_kernel_descriptors.specs.Naming.{after_renaming}
use Rattle.sh_kernel_machine.proofs.Owning.{own_renamed}
use Rattle.sh_kernel_machine.proofs.Tabling.{OneTable, one_counted, one_linked_only, none_changes, one_listed, one_own, own_missing}
use Rattle.sh_kernel_descriptors.specs.Kept.{listed}
use Rattle.sh_kernel_machine.specs.Tables.{Changes, held_in, own}
use Rattle.sh_kernel_machine.proofs.tables.rename_in.Goals as goal

one : (c : goal.After-tables-in-Some-1) → OneTable c.args.pid c.args.tables.now.entries (c.get_mut.follows.lender c.rename.new.held).entries c.in-Some.table.now c.rename.new.held
one c = record {
  found = sym c.in-Some.ensures.value;
  now = (c.get_mut.follows.holds c.rename.new.held).0;
  sorted = c.in-Some.ensures.ordered;
  sorted' = (c.get_mut.follows.holds c.rename.new.held).4;
}

pub returns-in-Some-clause-own : goal.returns-in-Some-clause-own
returns-in-Some-clause-own c = one_own c.args.pid _ _ _ _ (one c) (λ ds. after_renaming ds c.args.pid c.args.name c.args.number) (own_renamed c.args.pid c.args.name c.args.number) c.rename.ensures.listed

pub returns-in-Some-clause-listed : goal.returns-in-Some-clause-listed
returns-in-Some-clause-listed c = one_listed c.args.pid _ _ _ _ (one c) (λ ds. after_renaming ds c.args.pid c.args.name c.args.number) (own_renamed c.args.pid c.args.name c.args.number) c.rename.ensures.listed

pub returns-in-Some-clause-counted : goal.returns-in-Some-clause-counted
returns-in-Some-clause-counted c entries n = one_counted c.args.pid _ _ _ _ (one c) entries entries (λ more. c.rename.ensures.counted more entries) n

pub returns-in-Some-clause-linked : goal.returns-in-Some-clause-linked
returns-in-Some-clause-linked c entries es l = one_linked_only c.args.pid _ _ _ _ (one c) entries es (λ more. c.rename.ensures.linked more entries es) l

pub returns-in_default-clause-listed : goal.returns-in_default-clause-listed
returns-in_default-clause-listed c o =
    let none = own_missing c.args.pid c.args.tables.now.entries o (sym c.in_default.ensures.value) in
    subst (λ m. Changes c.args.pid (held_in c.args.tables.now.entries) (held_in m.entries) (after_renaming (own c.args.pid (listed (held_in c.args.tables.now.entries))) c.args.pid c.args.name c.args.number)) (sym c.get_mut.follows.holds-at-none)
    (none_changes c.args.pid (held_in c.args.tables.now.entries) (after_renaming (own c.args.pid (listed (held_in c.args.tables.now.entries))) c.args.pid c.args.name c.args.number) (ap (λ ds. after_renaming ds c.args.pid c.args.name c.args.number) none) none)
