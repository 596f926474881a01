use Rattle.std.proofs.Common.{◌≡◌, ◌++◌, length}
use Rattle.psh_common.specs.Events.{typed_turns}
use Rattle.psh_common.proofs.events.add_typed.Given as goal

abbrev pub invariant-bytes : goal.invariant-bytes
invariant-bytes l = l.all.items ++ typed_turns l.rest ≡ l.fn.all.items ++ typed_turns l.text

abbrev pub decreases-bytes : goal.decreases-bytes
decreases-bytes l = length l.rest
