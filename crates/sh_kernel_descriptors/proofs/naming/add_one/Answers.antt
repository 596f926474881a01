use Rattle.std.proofs.Common.{arith, refl}
use Rattle.std.specs.Prelude.{◌++◌, ◌+◌}
use Rattle.sh_kernel_descriptors.specs.Counts.{given}
use Rattle.sh_kernel_descriptors.specs.declared.kept.Entry.{Entry}
use Rattle.sh_kernel_descriptors.specs.declared.kept.Held.{Held}
use Rattle.sh_kernel_descriptors.proofs.Coming.{counted_last, counted_new, linked_last, linked_new}
use Rattle.sh_kernel_descriptors.proofs.naming.add_one.Goals as goal

abbrev new-of : goal.After-push_reserved → Held
new-of c = given c.args.pid c.args.number c.args.k c.keep_new-key.result

abbrev entry-of : goal.After-push_reserved → Entry
entry-of c = record { description = c.args.description; count = 1; other = c.args.other }

pub returns-clause-added : goal.returns-clause-added
returns-clause-added c = record { between = c.close.new.entries; gone = c.close.ensures.at; free = c.keep_new-key.ensures.free; updates = c.keep_new-key.ensures.updates }

pub returns-clause-counted : goal.returns-clause-counted
returns-clause-counted c more n =
    counted_last more c.close.new.held.items c.push_reserved.new.self.items (new-of c) c.keep_new-key.new.entries c.push_reserved.ensures.items
    (counted_new (more ++ c.close.new.held.items) c.close.new.entries c.keep_new-key.new.entries (entry-of c) (new-of c) refl c.keep_new-key.ensures.free c.keep_new-key.ensures.updates (c.close.ensures.counted more n))

pub returns-clause-linked : goal.returns-clause-linked
returns-clause-linked c more es k n l =
    linked_last more c.close.new.held.items c.push_reserved.new.self.items (new-of c) c.keep_new-key.new.entries _ c.push_reserved.ensures.items
    (linked_new (more ++ c.close.new.held.items) c.close.new.entries c.keep_new-key.new.entries es (entry-of c) (new-of c) k c.keep_new-key.ensures.free c.keep_new-key.ensures.updates (c.close.ensures.counted more n) (c.close.ensures.linked more es n l))

pub returns-clause-room : goal.returns-clause-room
returns-clause-room c n r = omega (arith, c.close.ensures.room (n + 1) r, c.keep_new-key.ensures.len, c.keep_new-key.ensures.capacity)

pub keep_new-key-requires : goal.keep_new-key-requires
keep_new-key-requires c = c.close.ensures.room 1 c.requires.room
