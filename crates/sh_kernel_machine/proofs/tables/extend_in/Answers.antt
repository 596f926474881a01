use Rattle.std.proofs.Common.{ap, refl, sym, ◌∙◌, true, false, cond, Bool}
use Rattle.std.specs.Prelude.{◌++◌, ◌≡◌, is_ok}
use Rattle.sh_kernel_descriptors.specs.Kept.{listed}
use Rattle.sh_kernel_machine.specs.Tables.{AreOwn, held_in}
use Rattle.sh_kernel_machine.proofs.Tabling.{OneTable, longer_listed, longer_same, on_err_if, on_ok_if, one_listed, one_own, own_longer, same_held}
use Rattle.sh_kernel_machine.proofs.tables.extend_in.Goals as goal

one : (c : goal.After-tables-in-Some-1) → OneTable c.args.pid c.args.tables.now.entries (c.get_mut.follows.lender c.extend_from_slice.new.self).entries c.in-Some.table.now c.extend_from_slice.new.self
one c = record {
  found = sym c.in-Some.ensures.value;
  now = (c.get_mut.follows.holds c.extend_from_slice.new.self).0;
  sorted = c.in-Some.ensures.ordered;
  sorted' = (c.get_mut.follows.holds c.extend_from_slice.new.self).4;
}

longer : (c : goal.After-tables-in-Some-1) → is_ok c.extend_from_slice.result ≡ true → c.extend_from_slice.new.self.items ≡ c.in-Some.table.now.items ++ c.args.more.now
longer c e = c.extend_from_slice.ensures.items ∙ ap (λ b. cond b (c.in-Some.table.now.items ++ c.args.more.now) c.in-Some.table.now.items) e

same : (c : goal.After-tables-in-Some-1) → is_ok c.extend_from_slice.result ≡ false → c.extend_from_slice.new.self.items ≡ c.in-Some.table.now.items
same c e = c.extend_from_slice.ensures.items ∙ ap (λ b. cond b (c.in-Some.table.now.items ++ c.args.more.now) c.in-Some.table.now.items) e

pub returns-in-Some-clause-own : goal.returns-in-Some-clause-own
returns-in-Some-clause-own c o mine = of_result (is_ok c.extend_from_slice.result) refl
  where
    of_result : (b : Bool) → is_ok c.extend_from_slice.result ≡ b → AreOwn (c.get_mut.follows.lender c.extend_from_slice.new.self).entries
    of_result true e = one_own c.args.pid _ _ _ _ (one c) (λ ds. ds ++ listed c.args.more.now) (own_longer c.args.pid (listed c.args.more.now) mine) (longer_listed c.args.pid _ _ _ _ (one c) c.args.more.now (longer c e)) o
    of_result false e = one_own c.args.pid _ _ _ _ (one c) (λ ds. ds) (λ ds. refl) (ap (λ hs. listed hs) (same c e)) o

pub returns-in-Some-clause-listed : goal.returns-in-Some-clause-listed
returns-in-Some-clause-listed c = on_ok_if c.extend_from_slice.result _ (λ e o mine. one_listed c.args.pid _ _ _ _ (one c) (λ ds. ds ++ listed c.args.more.now) (own_longer c.args.pid (listed c.args.more.now) mine) (longer_listed c.args.pid _ _ _ _ (one c) c.args.more.now (longer c e)) o)

pub returns-in-Some-clause-same : goal.returns-in-Some-clause-same
returns-in-Some-clause-same c = on_ok_if c.extend_from_slice.result _ (λ e. longer_same c.args.pid _ _ _ _ (one c) c.args.more.now (longer c e))

pub returns-in-Some-clause-err : goal.returns-in-Some-clause-err
returns-in-Some-clause-err c = on_err_if c.extend_from_slice.result _ (λ e. ap (λ es. held_in es) (one c).now ∙ same_held c.args.pid c.args.tables.now.entries c.in-Some.table.now c.extend_from_slice.new.self (one c).found (same c e))
