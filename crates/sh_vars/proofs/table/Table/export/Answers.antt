use Rattle.std.proofs.Common.{true}
use Rattle.sh_vars.proofs.Places.{changed_rises, changed_map}
use Rattle.sh_vars.proofs.table.Table.export.Goals as goal

pub invariant_of-self-2 : goal.invariant_of-self-2
invariant_of-self-2 c =
    changed_rises (λ v. record v { exported = true }) _ _ (record { rises = c.self.invariant; held = c.in_ok-index.ensures.ok }) c.index_mut.ensures.value c.export.ensures

pub returns : goal.returns
returns c =
    changed_map (λ v. record v { exported = true }) _ _ (record { rises = c.self.invariant; held = c.in_ok-index.ensures.ok }) c.index_mut.ensures.value c.export.ensures _ c.self.view_is
