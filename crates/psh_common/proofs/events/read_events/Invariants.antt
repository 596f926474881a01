use Rattle.std.proofs.Common.{◌≡◌, ◌+◌, ◌≤◌, IfSome, length}
use Rattle.std.specs.Prelude.{option_map}
use Rattle.std.specs.Option.{option_map_or}
use Rattle.psh_common.specs.Events.{behind, events_of}
use Rattle.psh_common.proofs.Reading.{left_events}
use Rattle.psh_common.proofs.events.read_events.Given as goal

abbrev pub invariant-lines : goal.invariant-lines
invariant-lines l =
    (events_of l.bytes ≡ behind l.all.items (left_events l.line l.place (option_map (λ rest. rest.now) l.left)))
    × (l.place ≤ 268435456)
    × (l.line ≤ l.place + 1)
    × IfSome l.left (λ rest. (l.place + length rest.now ≡ length l.bytes) × (l.line ≤ l.place))

abbrev pub decreases-lines : goal.decreases-lines
decreases-lines l = option_map_or (λ rest. length rest.now + 1) l.left 0
