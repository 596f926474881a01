use Rattle.std.proofs.Common.{sym}
use Rattle.std.specs.Prelude.{◌≡◌, ◌++◌, true}
use Rattle.std.specs.BTreeMap.{is_at}
use Rattle.std.specs.Map.{remove_entry}
use Rattle.std.specs.Ordering.{nat_cmp}
use Rattle.sh_kernel_descriptors.specs.Counts.{held_left, stays}
use Rattle.sh_kernel_descriptors.specs.Kept.{Among}
use Rattle.sh_kernel_machine.specs.Tables.{held_in}
use Rattle.sh_kernel_descriptors.specs.declared.descriptor.Closing.TheVariants.{Named}
use Rattle.sh_kernel_descriptors.specs.declared.descriptor.DescriptorRef.TheVariants.{Number}
use Rattle.sh_kernel_machine.proofs.Owning.{own_with, with_given}
use Rattle.sh_kernel_machine.proofs.Tabling.{OneTable, among_left, one_counted_rest, one_linked_rest, one_listed, one_own, one_pipes, split_at}
use Rattle.sh_kernel_machine.proofs.tables.refer_in.Goals as goal

one : (c : goal.After-tables-in-Some-1) → OneTable c.args.pid c.args.tables.now.entries (c.get_mut.follows.lender c.refer.new.held).entries c.in-Some.table.now c.refer.new.held
one c = record {
  found = sym c.in-Some.ensures.value;
  now = (c.get_mut.follows.holds c.refer.new.held).0;
  sorted = c.in-Some.ensures.ordered;
  sorted' = (c.get_mut.follows.holds c.refer.new.held).4;
}

pub returns-clause-own : goal.returns-clause-own
returns-clause-own c = one_own c.args.pid _ _ _ _ (one c) (λ ds. with_given c.args.pid c.args.number c.args.to.descriptor.description ds) (own_with c.args.pid c.args.number c.args.to.descriptor.description) c.refer.ensures.listed

pub returns-clause-listed : goal.returns-clause-listed
returns-clause-listed c = one_listed c.args.pid _ _ _ _ (one c) (λ ds. with_given c.args.pid c.args.number c.args.to.descriptor.description ds) (own_with c.args.pid c.args.number c.args.to.descriptor.description) c.refer.ensures.listed

left : (c : goal.After-tables-in-Some-1) → Among c.args.to (held_in c.args.tables.now.entries) → stays c.args.pid (Named (Number c.args.number)) c.args.to ≡ true
    → Among c.args.to (held_in (remove_entry (is_at (nat_cmp c.args.pid)) c.args.tables.now.entries) ++ held_left c.args.pid (Named (Number c.args.number)) c.in-Some.table.now.items)
left c a s =
    among_left c.args.pid (Named (Number c.args.number)) (held_in c.args.tables.now.entries) (held_in (remove_entry (is_at (nat_cmp c.args.pid)) c.args.tables.now.entries)) c.in-Some.table.now.items c.args.to
    (split_at c.args.pid c.args.tables.now.entries c.in-Some.table.now (sym c.in-Some.ensures.value)) a s

pub returns-clause-counted : goal.returns-clause-counted
returns-clause-counted c fit a s n =
    one_counted_rest c.args.pid _ _ _ _ (one c) c.args.entries.now c.refer.new.entries (λ m. c.refer.ensures.counted (held_in (remove_entry (is_at (nat_cmp c.args.pid)) c.args.tables.now.entries)) fit (left c a s) m) n

pub returns-clause-linked : goal.returns-clause-linked
returns-clause-linked c es a s n l =
    one_linked_rest c.args.pid _ _ _ _ (one c) c.args.entries.now c.refer.new.entries es es (λ m k. c.refer.ensures.linked (held_in (remove_entry (is_at (nat_cmp c.args.pid)) c.args.tables.now.entries)) es (left c a s) m k) n l

pub returns-clause-pipes : goal.returns-clause-pipes
returns-clause-pipes c made es ps o pair n l agree =
    one_pipes c.args.pid _ _ _ _ (one c) (Named (Number c.args.number)) c.args.entries.now c.args.pipes.now.entries c.refer.new.pipes.entries es es ps (λ more none m k. c.refer.ensures.pipes more made es ps none pair m k agree) o n l
