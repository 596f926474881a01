use Rattle.std.proofs.Common.{ap, refl, sym, ◌∙◌}
use Rattle.std.proofs.lemmas.Result.{on_ok_weaker}
use Rattle.sh_kernel_descriptors.specs.Counts.{ends_listed, with_ends, with_new}
use Rattle.sh_kernel_descriptors.specs.Kept.{listed}
use Rattle.sh_kernel_machine.specs.Tables.{held_in}
use Rattle.sh_kernel_machine.proofs.Owning.{own_ends}
use Rattle.sh_kernel_machine.proofs.Tabling.{OneTable, either_way, on_err_weaker, one_counted, one_ends, one_linked, one_listed, one_own, same_held}
use Rattle.sh_kernel_machine.proofs.tables.add_pipe_in.Goals as goal

one : (c : goal.After-tables-in-Some-1) → OneTable c.args.pid c.args.tables.now.entries (c.get_mut.follows.lender c.add_pipe.new.held).entries c.in-Some.table.now c.add_pipe.new.held
one c = record {
  found = sym c.in-Some.ensures.value;
  now = (c.get_mut.follows.holds c.add_pipe.new.held).0;
  sorted = c.in-Some.ensures.ordered;
  sorted' = (c.get_mut.follows.holds c.add_pipe.new.held).4;
}

pub returns-clause-own : goal.returns-clause-own
returns-clause-own c o =
    either_way c.add_pipe.result _ _ _ c.add_pipe.ensures.listed c.add_pipe.ensures.held
    (λ e. one_own c.args.pid _ _ _ _ (one c) (λ ds. ends_listed c.args.pid c.args.from c.args.to c.args.k ds) (own_ends c.args.pid c.args.from c.args.to c.args.k) e o)
    (λ e. one_own c.args.pid _ _ _ _ (one c) (λ ds. ds) (λ ds. refl) (ap (λ t. listed t.items) e) o)

pub returns-clause-listed : goal.returns-clause-listed
returns-clause-listed c = on_ok_weaker c.add_pipe.result (λ e o. one_listed c.args.pid _ _ _ _ (one c) (λ ds. ends_listed c.args.pid c.args.from c.args.to c.args.k ds) (own_ends c.args.pid c.args.from c.args.to c.args.k) e o) c.add_pipe.ensures.listed

pub returns-clause-counted : goal.returns-clause-counted
returns-clause-counted c = on_ok_weaker c.add_pipe.result (λ f n. one_counted c.args.pid _ _ _ _ (one c) c.args.entries.now c.add_pipe.new.entries f n) c.add_pipe.ensures.counted

pub returns-clause-linked : goal.returns-clause-linked
returns-clause-linked c = on_ok_weaker c.add_pipe.result (λ f es k n l. one_linked c.args.pid _ _ _ _ (one c) c.args.entries.now c.add_pipe.new.entries es (with_ends c.args.pipe es) (λ more m j. f more es k m j) n l) c.add_pipe.ensures.linked

pub returns-clause-pipes : goal.returns-clause-pipes
returns-clause-pipes c =
    on_ok_weaker c.add_pipe.result (λ f es ps k q o pair n l agree. one_ends c.args.pid _ _ _ _ (one c) c.args.from c.args.to c.args.k c.args.entries.now c.add_pipe.new.pipes.entries es (with_ends c.args.pipe es) (with_new ps)
    (λ more none m j. f more es ps none k q pair m j agree) o n l) c.add_pipe.ensures.pipes

pub returns-clause-held : goal.returns-clause-held
returns-clause-held c =
    on_err_weaker c.add_pipe.result (λ e. ap (λ es. held_in es) (one c).now ∙ same_held c.args.pid c.args.tables.now.entries c.in-Some.table.now c.add_pipe.new.held (one c).found (ap (λ t. t.items) e)) c.add_pipe.ensures.held
