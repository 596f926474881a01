use Rattle.std.proofs.Common.{ℕ, List, ap, ◌∙◌}
use Rattle.std.specs.FinMap as map
use Rattle.sh_vars.specs.Environment.{Variable, VariableMap}
use Rattle.sh_vars.proofs.Places.{found_in, missing_in}
use Rattle.sh_vars.proofs.table.Table.find.Goals as goal

pub returns-in-Ok-clause-found : goal.returns-in-Ok-clause-found
returns-in-Ok-clause-found c =
    let es = c.self.inside.entries.items in
    found_in c.args.name.now es c.in-Ok.index c.index.result.now c.self.invariant (rw c.deref.ensures.value at c.in-Ok.ensures) c.index.ensures
    ∙ ap (λ (m : VariableMap). map.get m c.args.name.now) c.self.view_is

pub returns-in-Err-clause-found : goal.returns-in-Err-clause-found
returns-in-Err-clause-found c =
    missing_in c.args.name.now c.self.inside.entries.items c.in-Err.field-0 c.self.invariant (rw c.deref.ensures.value at c.in-Err.ensures)
    ∙ ap (λ (m : VariableMap). map.get m c.args.name.now) c.self.view_is

pub returns-in-Ok-clause-named : goal.returns-in-Ok-clause-named
returns-in-Ok-clause-named c = ap (λ (e : List ℕ × Variable). e.0) c.index.ensures ∙ (rw c.deref.ensures.value at c.in-Ok.ensures).1 c.index.result.now
