use Rattle.std.proofs.Common.{ap, sym, subst}
use Rattle.sh_kernel_descriptors.specs.Kept.{listed}
use Rattle.sh_kernel_descriptors.specs.Closings.{descriptors_left}
use Rattle.sh_kernel_machine.specs.Tables.{Changes, held_in, own}
use Rattle.sh_kernel_machine.proofs.Owning.{own_left}
use Rattle.sh_kernel_machine.proofs.Tabling.{OneTable, none_changes, none_goes, one_counted, one_linked, one_listed, one_own, one_pipes, own_missing}
use Rattle.sh_kernel_machine.proofs.tables.close_in.Goals as goal

one : (c : goal.After-tables-in-Some-1) → OneTable c.args.pid c.args.tables.now.entries (c.get_mut.follows.lender c.close.new.held).entries c.in-Some.table.now c.close.new.held
one c = record {
  found = sym c.in-Some.ensures.value;
  now = (c.get_mut.follows.holds c.close.new.held).0;
  sorted = c.in-Some.ensures.ordered;
  sorted' = (c.get_mut.follows.holds c.close.new.held).4;
}

pub returns-in-Some-clause-own : goal.returns-in-Some-clause-own
returns-in-Some-clause-own c = one_own c.args.pid _ _ _ _ (one c) (λ ds. descriptors_left c.args.pid c.args.closing ds) (own_left c.args.pid c.args.closing) c.close.ensures.listed

pub returns-in-Some-clause-listed : goal.returns-in-Some-clause-listed
returns-in-Some-clause-listed c = one_listed c.args.pid _ _ _ _ (one c) (λ ds. descriptors_left c.args.pid c.args.closing ds) (own_left c.args.pid c.args.closing) c.close.ensures.listed

pub returns-in-Some-clause-counted : goal.returns-in-Some-clause-counted
returns-in-Some-clause-counted c n = one_counted c.args.pid _ _ _ _ (one c) c.args.entries.now c.close.new.entries c.close.ensures.counted n

pub returns-in-Some-clause-linked : goal.returns-in-Some-clause-linked
returns-in-Some-clause-linked c es n l = one_linked c.args.pid _ _ _ _ (one c) c.args.entries.now c.close.new.entries es es (λ more. c.close.ensures.linked more es) n l

pub returns-in-Some-clause-pipes : goal.returns-in-Some-clause-pipes
returns-in-Some-clause-pipes c made es ps o pair n l agree =
    one_pipes c.args.pid _ _ _ _ (one c) c.args.closing c.args.entries.now c.args.pipes.now.entries c.close.new.pipes.entries es es ps (λ more none m k. c.close.ensures.pipes more made es ps none pair m k agree) o n l

pub returns-in_default-clause-listed : goal.returns-in_default-clause-listed
returns-in_default-clause-listed c o =
    let none = own_missing c.args.pid c.args.tables.now.entries o (sym c.in_default.ensures.value) in
    subst (λ m. Changes c.args.pid (held_in c.args.tables.now.entries) (held_in m.entries) (descriptors_left c.args.pid c.args.closing (own c.args.pid (listed (held_in c.args.tables.now.entries))))) (sym c.get_mut.follows.holds-at-none)
    (none_changes c.args.pid (held_in c.args.tables.now.entries) (descriptors_left c.args.pid c.args.closing (own c.args.pid (listed (held_in c.args.tables.now.entries)))) (ap (λ ds. descriptors_left c.args.pid c.args.closing ds) none) none)

pub returns-in_default-clause-pipes : goal.returns-in_default-clause-pipes
returns-in_default-clause-pipes c made es ps o pair n l agree =
    none_goes c.args.pid c.args.closing (held_in c.args.tables.now.entries) c.args.pipes.now.entries es ps (own_missing c.args.pid c.args.tables.now.entries o (sym c.in_default.ensures.value)) agree
