use Rattle.std.proofs.Common.{ap, subst, sym, ◌∙◌, List}
use Rattle.std.specs.Prelude.{◌≡◌, ◌++◌, true}
use Rattle.sh_kernel_descriptors.specs.Counts as counts
use Rattle.sh_kernel_descriptors.specs.Kept.{listed}
use Rattle.sh_kernel_descriptors.specs.Copies as fork_copies
use Rattle.sh_kernel_descriptors.specs.declared.kept.Held.{Held}
use Rattle.sh_kernel_machine.specs.Tables.{SameHeld, held_in, own}
use Rattle.sh_kernel_machine.proofs.Tabling.{copied_listed, counted_by, forked_changes, linked_by}
use Rattle.sh_kernel_machine.proofs.tables.fork_in.Goals as goal

pub returns-in_err-extend_in-clause-own : goal.returns-in_err-extend_in-clause-own
returns-in_err-extend_in-clause-own c o =
    c.extend_in.ensures.own (c.make_table.ensures.own o)
    (subst (λ (hs : List Held). own c.args.child (listed hs) ≡ listed hs) (sym c.as_slice.ensures.value) (copied_listed (held_in c.args.tables.now.entries) c.args.pid c.args.child c.in_ok-copied.copied.items (c.in_ok-copied.ensures.copies o)).1)

pub returns-clause-own : goal.returns-clause-own
returns-clause-own c o =
    c.extend_in.ensures.own (c.make_table.ensures.own o)
    (subst (λ (hs : List Held). own c.args.child (listed hs) ≡ listed hs) (sym c.as_slice.ensures.value) (copied_listed (held_in c.args.tables.now.entries) c.args.pid c.args.child c.in_ok-copied.copied.items (c.in_ok-copied.ensures.copies o)).1)

pub returns-clause-listed : goal.returns-clause-listed
returns-clause-listed c o =
    let copied = copied_listed (held_in c.args.tables.now.entries) c.args.pid c.args.child c.in_ok-copied.copied.items (c.in_ok-copied.ensures.copies o) in
    let mine = subst (λ (hs : List Held). own c.args.child (listed hs) ≡ listed hs) (sym c.as_slice.ensures.value) copied.1 in
    forked_changes c.args.child (held_in c.args.tables.now.entries) (held_in c.make_table.new.tables.entries) (held_in c.extend_in.new.tables.entries) (listed c.as_slice.result.now)
    (fork_copies.copies (own c.args.pid (listed (held_in c.args.tables.now.entries))) c.args.pid c.args.child) c.make_table.ensures.held
    (ap (λ hs. listed hs) c.as_slice.ensures.value ∙ copied.0) (c.in_ok-extend_in.ensures.listed (c.make_table.ensures.own o) mine)

pub returns-clause-counted : goal.returns-clause-counted
returns-clause-counted c o n =
    let found = c.in_ok-copied.ensures.copies o in
    let room = subst (λ (hs : List Held). counts.may_come c.args.entries.now hs ≡ true) (sym c.as_slice-2.ensures.value) c.in_ok-copied.ensures.room in
    counted_by (held_in c.args.tables.now.entries ++ c.as_slice-2.result.now) (held_in c.extend_in.new.tables.entries) c.share_copies.new.entries
    (subst (λ (hs : List Held). SameHeld (held_in c.args.tables.now.entries ++ hs) (held_in c.extend_in.new.tables.entries)) (c.as_slice.ensures.value ∙ sym c.as_slice-2.ensures.value)
    (subst (λ (hs : List Held). SameHeld (hs ++ c.as_slice.result.now) (held_in c.extend_in.new.tables.entries)) c.make_table.ensures.held c.in_ok-extend_in.ensures.same))
    (c.share_copies.ensures.counted (held_in c.args.tables.now.entries) found.0 c.args.pid c.args.child (c.as_slice-2.ensures.value ∙ found.1) room found.3 n)

pub returns-clause-linked : goal.returns-clause-linked
returns-clause-linked c es o l =
    let found = c.in_ok-copied.ensures.copies o in
    linked_by (held_in c.args.tables.now.entries ++ c.as_slice-2.result.now) (held_in c.extend_in.new.tables.entries) c.share_copies.new.entries es
    (subst (λ (hs : List Held). SameHeld (held_in c.args.tables.now.entries ++ hs) (held_in c.extend_in.new.tables.entries)) (c.as_slice.ensures.value ∙ sym c.as_slice-2.ensures.value)
    (subst (λ (hs : List Held). SameHeld (hs ++ c.as_slice.result.now) (held_in c.extend_in.new.tables.entries)) c.make_table.ensures.held c.in_ok-extend_in.ensures.same))
    (c.share_copies.ensures.linked (held_in c.args.tables.now.entries) found.0 c.args.pid c.args.child es (c.as_slice-2.ensures.value ∙ found.1) found.3 l)
