use Rattle.std.proofs.Common.{ap, ◌∙◌}
use Rattle.std.specs.List.{insert}
use Rattle.sh_vars.proofs.Places.{held_found, held_new}
use Rattle.sh_vars.proofs.table.hold.Goals as goal

pub returns-in-Ok-clause-ok : goal.returns-in-Ok-clause-ok
returns-in-Ok-clause-ok c = held_found c.args.name.now c.args.entries.now.items c.in-Ok.index c.requires (rw c.deref.ensures.value at c.in-Ok.ensures)

pub returns-in_ok-insert-in-Err-clause-ok : goal.returns-in_ok-insert-in-Err-clause-ok
returns-in_ok-insert-in-Err-clause-ok c =
    held_new c.args.name.now c.args.entries.now.items c.insert.new.self.items c.in-Err.index (rw c.deref.ensures.value at c.in-Err.ensures)
    (c.in_ok-insert-in-Err.ensures.items ∙ ap (insert c.args.entries.now.items c.in-Err.index) c.in_ok-entry-in-Err.ensures)
