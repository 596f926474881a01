use Rattle.std.proofs.Common.{sym, [], ◌∷◌}
use Rattle.std.specs.Prelude.{◌++◌}
use Rattle.sh_kernel_descriptors.specs.declared.descriptor.Closing.TheVariants.{Named}
use Rattle.sh_kernel_descriptors.specs.declared.descriptor.DescriptorRef.TheVariants.{Number}
use Rattle.sh_kernel_machine.proofs.Owning.{own_with, with_given}
use Rattle.sh_kernel_machine.proofs.Tabling.{OneTable, one_counted, one_linked, one_listed, one_own, one_pipes}
use Rattle.sh_kernel_machine.proofs.tables.add_in.Goals as goal

one : (c : goal.After-tables-in-Some-1) → OneTable c.args.pid c.args.tables.now.entries (c.get_mut.follows.lender c.add.new.held).entries c.in-Some.table.now c.add.new.held
one c = record {
  found = sym c.in-Some.ensures.value;
  now = (c.get_mut.follows.holds c.add.new.held).0;
  sorted = c.in-Some.ensures.ordered;
  sorted' = (c.get_mut.follows.holds c.add.new.held).4;
}

pub returns-clause-own : goal.returns-clause-own
returns-clause-own c = one_own c.args.pid _ _ _ _ (one c) (λ ds. with_given c.args.pid c.args.number c.args.k ds) (own_with c.args.pid c.args.number c.args.k) c.add.ensures.listed

pub returns-clause-listed : goal.returns-clause-listed
returns-clause-listed c = one_listed c.args.pid _ _ _ _ (one c) (λ ds. with_given c.args.pid c.args.number c.args.k ds) (own_with c.args.pid c.args.number c.args.k) c.add.ensures.listed

pub returns-clause-counted : goal.returns-clause-counted
returns-clause-counted c n = one_counted c.args.pid _ _ _ _ (one c) c.args.entries.now c.add.new.entries c.add.ensures.counted n

pub returns-clause-linked : goal.returns-clause-linked
returns-clause-linked c es k n l = one_linked c.args.pid _ _ _ _ (one c) c.args.entries.now c.add.new.entries es (es ++ c.args.description ∷ []) (λ more m j. c.add.ensures.linked more es k m j) n l

pub returns-clause-pipes : goal.returns-clause-pipes
returns-clause-pipes c made es ps k o pair n l agree =
    one_pipes c.args.pid _ _ _ _ (one c) (Named (Number c.args.number)) c.args.entries.now c.args.pipes.now.entries c.add.new.pipes.entries es (es ++ c.args.description ∷ []) ps (λ more none m j. c.add.ensures.pipes more made es ps none pair m j agree) o n l
