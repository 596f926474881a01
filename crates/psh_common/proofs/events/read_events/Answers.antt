use Rattle.std.proofs.Common.{◌+◌, ◌≤◌, ◌∙◌, sym, arith}
use Rattle.std.specs.Prelude.{option_map}
use Rattle.psh_common.specs.Lines.{further_parts, parts}
use Rattle.psh_common.specs.Events.{events_in, events_of, size_of}
use Rattle.psh_common.proofs.Reading.{behind-none, line-left, line-read}
use Rattle.psh_common.proofs.events.read_events.Goals as goal

pub lines-init : goal.lines-init
unfolding events_of
lines-init c =
    (rw c.new-all.ensures.items (sym (behind-none (events_in 0 0 (parts 10 c.args.bytes.now)))), omega arith, omega arith, (omega arith, omega arith))

pub lines-preserved : goal.lines-preserved
lines-preserved c =
    let size = c.size_of-place.ensures in
    let here = rw c.in-Some.is at c.lines.invariant.3 in
    let small : c.lines.place + size_of c.cut.result.0.now (further_parts 10 (option_map (λ rest. rest.now) c.cut.result.1)) ≤ 268435456 = omega arith in (
      rw size
          ((rw c.in-Some.is at c.lines.invariant.0)
          ∙ line-read c.lines.line c.lines.place c.in-Some.rest.now c.cut.result.0.now (option_map (λ rest. rest.now) c.cut.result.1) c.lines.all.items c.add_line.new.all.items
          c.cut.ensures.parts small c.in_ok-add_line.ensures.ok),
      omega arith,
      omega (arith, here.1),
      line-left (λ rest. rest.now) c.cut.result.1 c.lines.line c.lines.place _ c.size_of-place.result c.cut.result.0.now c.in-Some.rest.now size c.cut.ensures.size here.0 here.1,
    )
