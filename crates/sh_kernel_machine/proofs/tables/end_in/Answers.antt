use Rattle.std.proofs.Common.{ap, subst, sym}
use Rattle.sh_kernel_descriptors.specs.Closings.{descriptors_left}
use Rattle.sh_kernel_descriptors.specs.Kept.{IsCounted, Linked, listed}
use Rattle.sh_kernel_descriptors.specs.declared.descriptor.Closing.TheVariants.{All}
use Rattle.sh_kernel_machine.specs.Tables.{AreOwn, Changes, held_in, own}
use Rattle.sh_kernel_machine.proofs.Tabling.{ended_changes, ended_counted, ended_linked, ended_pipes, none_changes, none_goes, own_missing, own_removed}
use Rattle.sh_kernel_machine.proofs.tables.end_in.Goals as goal

pub returns-in-Some-clause-own : goal.returns-in-Some-clause-own
returns-in-Some-clause-own c o = subst (λ es. AreOwn es) (sym c.remove.ensures.entries) (own_removed c.args.pid c.args.tables.now.entries o)

pub returns-in-Some-clause-listed : goal.returns-in-Some-clause-listed
returns-in-Some-clause-listed c o =
    subst (λ es. Changes c.args.pid (held_in c.args.tables.now.entries) (held_in es) (descriptors_left c.args.pid All (own c.args.pid (listed (held_in c.args.tables.now.entries))))) (sym c.remove.ensures.entries)
    (ended_changes c.args.pid c.args.tables.now.entries c.in-Some.table c.close.new.held.items o (sym c.in-Some.ensures.value) c.close.ensures.listed c.len-count.ensures.ordered)

pub returns-in-Some-clause-counted : goal.returns-in-Some-clause-counted
returns-in-Some-clause-counted c o n =
    subst (λ es. IsCounted c.close.new.entries (held_in es)) (sym c.remove.ensures.entries)
    (ended_counted c.args.pid c.args.tables.now.entries c.in-Some.table c.close.new.held.items o (sym c.in-Some.ensures.value) c.close.ensures.listed c.args.entries.now c.close.new.entries c.close.ensures.counted n)

pub returns-in-Some-clause-linked : goal.returns-in-Some-clause-linked
returns-in-Some-clause-linked c ds o n l =
    subst (λ es. Linked (held_in es) c.close.new.entries ds) (sym c.remove.ensures.entries)
    (ended_linked c.args.pid c.args.tables.now.entries c.in-Some.table c.close.new.held.items o (sym c.in-Some.ensures.value) c.close.ensures.listed c.args.entries.now c.close.new.entries ds (λ more. c.close.ensures.linked more ds) n l)

pub returns-in-Some-clause-pipes : goal.returns-in-Some-clause-pipes
returns-in-Some-clause-pipes c made ds ps o pair n l agree =
    ended_pipes c.args.pid c.args.tables.now.entries c.in-Some.table c.close.new.held.items o (sym c.in-Some.ensures.value) c.close.ensures.listed c.len-count.ensures.ordered c.args.entries.now c.close.new.pipes.entries ds ps
    (λ more none m k. c.close.ensures.pipes more made ds ps none pair m k agree) n l

pub returns-in_default-clause-listed : goal.returns-in_default-clause-listed
returns-in_default-clause-listed c o =
    let none = own_missing c.args.pid c.args.tables.now.entries o (sym c.in_default.ensures.value) in
    subst (λ es. Changes c.args.pid (held_in c.args.tables.now.entries) (held_in es) (descriptors_left c.args.pid All (own c.args.pid (listed (held_in c.args.tables.now.entries))))) (sym c.in_default.ensures.unchanged)
    (none_changes c.args.pid (held_in c.args.tables.now.entries) (descriptors_left c.args.pid All (own c.args.pid (listed (held_in c.args.tables.now.entries)))) (ap (λ ds. descriptors_left c.args.pid All ds) none) none)

pub returns-in_default-clause-pipes : goal.returns-in_default-clause-pipes
returns-in_default-clause-pipes c made es ps o pair n l agree =
    none_goes c.args.pid All (held_in c.args.tables.now.entries) c.args.pipes.now.entries es ps (own_missing c.args.pid c.args.tables.now.entries o (sym c.in_default.ensures.value)) agree
