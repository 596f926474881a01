use Rattle.std.proofs.Common.{ap, refl, sym, ◌∙◌}
use Rattle.std.proofs.lemmas.Result.{on_ok_weaker}
use Rattle.std.specs.BTreeMap.{is_at}
use Rattle.std.specs.Map.{lookup}
use Rattle.std.specs.Ordering.{nat_cmp}
use Rattle.sh_kernel_descriptors.specs.Kept.{listed}
use Rattle.sh_kernel_machine.specs.Tables.{held_in}
use Rattle.sh_kernel_machine.proofs.Tabling.{OneTable, one_own, same_held, set_found}
use Rattle.sh_kernel_machine.proofs.tables.grow.Goals as goal

one : (c : goal.After-tables-in-Some-1) → OneTable c.args.pid c.args.tables.now.entries (c.get_mut.follows.lender c.reserve.new.self).entries c.in-Some.table.now c.reserve.new.self
one c = record {
  found = sym c.in-Some.ensures.value;
  now = (c.get_mut.follows.holds c.reserve.new.self).0;
  sorted = c.in-Some.ensures.ordered;
  sorted' = (c.get_mut.follows.holds c.reserve.new.self).4;
}

pub returns-in-Some-clause-own : goal.returns-in-Some-clause-own
returns-in-Some-clause-own c = one_own c.args.pid _ _ _ _ (one c) (λ ds. ds) (λ ds. refl) (ap (λ hs. listed hs) c.reserve.ensures.items)

pub returns-in-Some-clause-held : goal.returns-in-Some-clause-held
returns-in-Some-clause-held c = ap (λ es. held_in es) (one c).now ∙ same_held c.args.pid c.args.tables.now.entries c.in-Some.table.now c.reserve.new.self (one c).found c.reserve.ensures.items

pub returns-in-Some-clause-room : goal.returns-in-Some-clause-room
returns-in-Some-clause-room c = on_ok_weaker c.reserve.result (λ e. (c.reserve.new.self, ap (λ es. lookup (is_at (nat_cmp c.args.pid)) es) (one c).now ∙ set_found c.args.pid c.args.tables.now.entries c.in-Some.table.now c.reserve.new.self (one c).found, e)) c.reserve.ensures.ok
