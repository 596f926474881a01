use Rattle.sh_vars.proofs.Places.{removed_rises, removed_map, nothing_removed}
use Rattle.sh_vars.proofs.table.Table.remove.Goals as goal

pub invariant_of-self : goal.invariant_of-self
invariant_of-self c =
    removed_rises c.args.name.now c.self.inside.entries.items _ c.in-Ok.index c.self.invariant (rw c.deref.ensures.value at c.in-Ok.ensures) c.remove.ensures.items

pub returns : goal.returns
returns c =
    removed_map c.args.name.now c.self.inside.entries.items _ c.in-Ok.index c.self.invariant (rw c.deref.ensures.value at c.in-Ok.ensures) c.remove.ensures.items c.args.self.now c.self.view_is

pub returns-in_default : goal.returns-in_default
returns-in_default c =
    nothing_removed c.args.name.now c.self.inside.entries.items c.in_default.field-0 c.self.invariant (rw c.deref.ensures.value at c.in_default.ensures) c.args.self.now c.self.view_is
