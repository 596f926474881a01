use Rattle.std.proofs.Common.{◌∙◌, arith, subst, sym}
use Rattle.std.specs.Prelude.{◌≡◌, ◌+◌, vec_len}
use Rattle.sh_kernel_descriptors.specs.Kept.{IsCounted, IsPaired}
use Rattle.sh_kernel_machine.specs.Machine.{StandsAt}
use Rattle.sh_kernel_machine.specs.Tables.{held_in}
use Rattle.sh_kernel_machine.proofs.Standing.{counted_room, paired_room, pipes, with_numbers, with_room}
use Rattle.sh_kernel_machine.proofs.machine.Machine.make_pipe.Goals as goal

pub returns-clause-ok : goal.returns-clause-ok
returns-clause-ok c s st =
    let before = subst (λ m. StandsAt m s) (sym c.self.view_is) st in
    let mine = c.reserve_in.ensures.own c.self.invariant.2 in
    let paired = subst (λ n. IsPaired n c.reserve.new.self) (sym (c.len-2.ensures ∙ c.in_ok-reserve-3.ensures.len)) (paired_room (vec_len c.self.inside.piped) c.self.inside.entries c.reserve.new.self c.in_ok-reserve.ensures.rest_kept c.self.invariant.1) in
    pipes _ (held_in c.add_pipe_in.new.tables.entries) c.add_pipe_in.new.entries c.add_pipe_in.new.pipes.entries _ _ s c.args.pid c.args.from c.args.to
    (omega (arith, c.push_reserved-2.ensures.len, c.push_reserved.ensures.len, c.len.ensures))
    (omega (arith, c.push_reserved-3.ensures.len, c.len-2.ensures))
    (with_numbers _ c.len.result c.len-2.result s (c.len.ensures ∙ c.in_ok-reserve-2.ensures.len) (c.len-2.ensures ∙ c.in_ok-reserve-3.ensures.len)
    (with_room _ (held_in c.reserve_in.new.tables.entries) c.reserve.new.self s c.reserve_in.ensures.held c.in_ok-reserve.ensures.rest_kept before))
    (counted_room (held_in c.self.inside.held.entries) (held_in c.reserve_in.new.tables.entries) c.self.inside.entries c.reserve.new.self c.reserve_in.ensures.held c.in_ok-reserve.ensures.rest_kept c.self.invariant.0)
    (c.in_ok-add_pipe_in.ensures.listed mine) c.in_ok-add_pipe_in.ensures.linked (λ es ps k q n l agree. c.in_ok-add_pipe_in.ensures.pipes es ps k q mine paired n l agree)

pub invariant_of-self-2 : goal.invariant_of-self-2
invariant_of-self-2 c =
    let room = paired_room (vec_len c.self.inside.piped) c.self.inside.entries c.reserve.new.self c.in_ok-reserve.ensures.rest_kept c.self.invariant.1 in
    let more : c.len-2.result + 1 ≡ vec_len c.push_reserved-3.new.self = omega (arith, c.push_reserved-3.ensures.len, c.len-2.ensures) in (
      c.in_ok-add_pipe_in.ensures.counted (counted_room (held_in c.self.inside.held.entries) (held_in c.reserve_in.new.tables.entries) c.self.inside.entries c.reserve.new.self c.reserve_in.ensures.held c.in_ok-reserve.ensures.rest_kept c.self.invariant.0),
      subst (λ n. IsPaired n c.add_pipe_in.new.entries) more
          (c.in_ok-add_pipe_in.ensures.paired (subst (λ n. IsPaired n c.reserve.new.self) (sym (c.len-2.ensures ∙ c.in_ok-reserve-3.ensures.len)) room)),
      c.add_pipe_in.ensures.own (c.reserve_in.ensures.own c.self.invariant.2),
    )

pub invariant_of-self-in_err-add_pipe_in : goal.invariant_of-self-in_err-add_pipe_in
invariant_of-self-in_err-add_pipe_in c = (
  subst (λ entries. IsCounted entries (held_in c.add_pipe_in.new.tables.entries)) (sym c.in_err-add_pipe_in.ensures.entries) (counted_room (held_in c.self.inside.held.entries) (held_in c.add_pipe_in.new.tables.entries) c.self.inside.entries c.reserve.new.self (c.in_err-add_pipe_in.ensures.held ∙ c.reserve_in.ensures.held) c.in_ok-reserve.ensures.rest_kept c.self.invariant.0),
  subst (λ entries. IsPaired (vec_len c.reserve-3.new.self) entries) (sym c.in_err-add_pipe_in.ensures.entries) (subst (λ n. IsPaired n c.reserve.new.self) (sym c.in_ok-reserve-3.ensures.len) (paired_room (vec_len c.self.inside.piped) c.self.inside.entries c.reserve.new.self c.in_ok-reserve.ensures.rest_kept c.self.invariant.1)),
  c.add_pipe_in.ensures.own (c.reserve_in.ensures.own c.self.invariant.2),
)
