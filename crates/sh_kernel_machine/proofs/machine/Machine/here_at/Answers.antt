use Rattle.std.proofs.Common.{◌∙◌, ap, arith, false, refl, subst, sym}
use Rattle.sh_files.specs.Nodes.{nameless}
use Rattle.std.specs.Prelude.{slice_get, vec_len}
use Rattle.sh_kernel_descriptors.specs.Closings.{pipe_of}
use Rattle.sh_kernel_descriptors.specs.declared.description.Description.{Description}
use Rattle.sh_kernel_descriptors.specs.Opening.{description_of, for_reading}
use Rattle.sh_kernel_machine.specs.Machine.{StandsAt}
use Rattle.sh_kernel_machine.specs.Tables.{held_in}
use Rattle.sh_kernel_machine.proofs.Standing.{counted_room, no_end, opened_call, opens, paired_room, with_numbers, with_room}
use Rattle.sh_kernel_machine.proofs.machine.Machine.here_at.Goals as goal

pub returns-clause-call : goal.returns-clause-call
returns-clause-call c s st =
    let before = subst (λ m. StandsAt m s) (sym c.self.view_is) st in
    let d = c.description_of.ensures ∙ ap (λ t. description_of t for_reading false) c.target_of-target.ensures in
    let mine = c.reserve_in.ensures.own c.self.invariant.2 in
    let counted = counted_room (held_in c.self.inside.held.entries) (held_in c.reserve_in.new.tables.entries) c.self.inside.entries c.reserve.new.self c.reserve_in.ensures.held c.in_ok-reserve.ensures.rest_kept c.self.invariant.0 in
    let paired = paired_room (vec_len c.self.inside.piped) c.self.inside.entries c.reserve.new.self c.in_ok-reserve.ensures.rest_kept c.self.invariant.1 in
    let stands =
    opens _ (held_in c.add_in.new.tables.entries) c.add_in.new.entries c.add_in.new.pipes.entries c.add_nameless.new.self _ s c.args.pid c.args.number c.in-Ok.node for_reading false c.description_of.result (omega (arith, c.push_reserved.ensures.len, c.len.ensures)) d
    (with_numbers _ c.len.result _ s (c.len.ensures ∙ c.in_ok-reserve-2.ensures.len) refl
    (with_room _ (held_in c.reserve_in.new.tables.entries) c.reserve.new.self s c.reserve_in.ensures.held c.in_ok-reserve.ensures.rest_kept before))
    counted (c.add_in.ensures.listed mine) c.add_in.ensures.linked (λ es ps k n l agree. c.add_in.ensures.pipes (vec_len c.self.inside.piped) es ps k mine paired n l agree) in
    opened_call _ c.add_nameless.new.self s c.args.pid c.args.number c.in-Ok.node for_reading false _ (ap (λ files. nameless files c.args.bytes.now) (sym before.files) ∙ ap (λ bytes. nameless c.self.inside.files bytes) (sym c.in_ok-body.ensures.items) ∙ c.in-Ok.ensures.ok) stands

pub invariant_of-self-in-Err : goal.invariant_of-self-in-Err
invariant_of-self-in-Err c = (counted_room (held_in c.self.inside.held.entries) (held_in c.reserve_in.new.tables.entries) c.self.inside.entries c.reserve.new.self c.reserve_in.ensures.held c.in_ok-reserve.ensures.rest_kept c.self.invariant.0, paired_room (vec_len c.self.inside.piped) c.self.inside.entries c.reserve.new.self c.in_ok-reserve.ensures.rest_kept c.self.invariant.1, c.reserve_in.ensures.own c.self.invariant.2)

pub invariant_of-self-2 : goal.invariant_of-self-2
invariant_of-self-2 c =
    let none = ap (λ (d : Description). pipe_of d.target) c.description_of.ensures ∙ ap (λ t. pipe_of t) c.target_of-target.ensures ∙ no_end c.in-Ok.node (slice_get c.add_nameless.new.self.nodes c.in-Ok.node) in
    (c.add_in.ensures.counted (counted_room (held_in c.self.inside.held.entries) (held_in c.reserve_in.new.tables.entries) c.self.inside.entries c.reserve.new.self c.reserve_in.ensures.held c.in_ok-reserve.ensures.rest_kept c.self.invariant.0), c.add_in.ensures.paired _ none (paired_room (vec_len c.self.inside.piped) c.self.inside.entries c.reserve.new.self c.in_ok-reserve.ensures.rest_kept c.self.invariant.1), c.add_in.ensures.own (c.reserve_in.ensures.own c.self.invariant.2))
