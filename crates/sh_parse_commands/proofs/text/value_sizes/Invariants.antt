use Rattle.std.proofs.Common.{◌≡◌, ◌+◌, ◌*◌, ◌^◌, ◌≤◌, length}
use Rattle.sh_parse_commands.specs.Programs.{value_sizes}
use Rattle.sh_parse_commands.proofs.text.value_sizes.Given as goal

abbrev pub invariant-aliases : goal.invariant-aliases
invariant-aliases l = (l.sum + value_sizes l.rest ≡ value_sizes l.aliases) × (l.sum + 2 ^ 64 * length l.rest ≤ 2 ^ 64 * length l.aliases)

abbrev pub decreases-aliases : goal.decreases-aliases
decreases-aliases l = length l.rest
