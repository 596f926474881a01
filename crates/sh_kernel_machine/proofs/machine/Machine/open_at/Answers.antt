use Rattle.std.proofs.Common.{◌∙◌, ap, arith, refl, subst, sym}
use Rattle.sh_files.specs.Nodes.{opened}
use Rattle.std.specs.Prelude.{slice_get, vec_len}
use Rattle.sh_kernel_descriptors.specs.Closings.{pipe_of}
use Rattle.sh_kernel_descriptors.specs.declared.description.Description.{Description}
use Rattle.sh_kernel_descriptors.specs.Opening.{description_of}
use Rattle.sh_kernel_machine.specs.Machine.{StandsAt}
use Rattle.sh_kernel_machine.specs.Tables.{held_in}
use Rattle.sh_kernel_machine.proofs.Standing.{counted_room, no_end, opened_call, opens, paired_room, with_numbers, with_room}
use Rattle.sh_kernel_machine.proofs.machine.Machine.open_at.Goals as goal

pub returns : goal.returns
returns c s st =
    let before = subst (λ m. StandsAt m s) (sym c.self.view_is) st in
    let d = c.description_of.ensures ∙ ap (λ t. description_of t c.args.how c.args.append) c.target_of-target.ensures in
    let mine = c.reserve_in.ensures.own c.self.invariant.2 in
    let counted = counted_room (held_in c.self.inside.held.entries) (held_in c.reserve_in.new.tables.entries) c.self.inside.entries c.reserve.new.self c.reserve_in.ensures.held c.in_ok-reserve.ensures.rest_kept c.self.invariant.0 in
    let paired = paired_room (vec_len c.self.inside.piped) c.self.inside.entries c.reserve.new.self c.in_ok-reserve.ensures.rest_kept c.self.invariant.1 in
    let stands =
    opens _ (held_in c.add_in.new.tables.entries) c.add_in.new.entries c.add_in.new.pipes.entries c.open.new.self _ s c.args.pid c.args.number c.in-Ok.node c.args.how c.args.append c.description_of.result (omega (arith, c.push_reserved.ensures.len, c.len.ensures)) d
    (with_numbers _ c.len.result _ s (c.len.ensures ∙ c.in_ok-reserve-2.ensures.len) refl
    (with_room _ (held_in c.reserve_in.new.tables.entries) c.reserve.new.self s c.reserve_in.ensures.held c.in_ok-reserve.ensures.rest_kept before))
    counted (c.add_in.ensures.listed mine) c.add_in.ensures.linked (λ es ps k n l agree. c.add_in.ensures.pipes (vec_len c.self.inside.piped) es ps k mine paired n l agree) in
    opened_call _ c.open.new.self s c.args.pid c.args.number c.in-Ok.node c.args.how c.args.append _ (ap (λ files. opened files c.args.directory.now c.args.path.now c.args.how) (sym before.files) ∙ c.in-Ok.ensures.ok) stands

pub invariant_of-self-in-Err : goal.invariant_of-self-in-Err
invariant_of-self-in-Err c = (counted_room (held_in c.self.inside.held.entries) (held_in c.reserve_in.new.tables.entries) c.self.inside.entries c.reserve.new.self c.reserve_in.ensures.held c.in_ok-reserve.ensures.rest_kept c.self.invariant.0, paired_room (vec_len c.self.inside.piped) c.self.inside.entries c.reserve.new.self c.in_ok-reserve.ensures.rest_kept c.self.invariant.1, c.reserve_in.ensures.own c.self.invariant.2)

pub invariant_of-self-2 : goal.invariant_of-self-2
invariant_of-self-2 c =
    let none = ap (λ (d : Description). pipe_of d.target) c.description_of.ensures ∙ ap (λ t. pipe_of t) c.target_of-target.ensures ∙ no_end c.in-Ok.node (slice_get c.open.new.self.nodes c.in-Ok.node) in
    (c.add_in.ensures.counted (counted_room (held_in c.self.inside.held.entries) (held_in c.reserve_in.new.tables.entries) c.self.inside.entries c.reserve.new.self c.reserve_in.ensures.held c.in_ok-reserve.ensures.rest_kept c.self.invariant.0), c.add_in.ensures.paired _ none (paired_room (vec_len c.self.inside.piped) c.self.inside.entries c.reserve.new.self c.in_ok-reserve.ensures.rest_kept c.self.invariant.1), c.add_in.ensures.own (c.reserve_in.ensures.own c.self.invariant.2))
