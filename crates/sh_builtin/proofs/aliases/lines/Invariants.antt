use Rattle.std.proofs.Common.{◌≡◌, ◌++◌, length}
use Rattle.sh_builtin.specs.Aliases.{alias_lines}
use Rattle.sh_builtin.proofs.aliases.lines.Given as goal

abbrev pub invariant-aliases : goal.invariant-aliases
invariant-aliases l = l.text ++ alias_lines l.rest ≡ alias_lines l.aliases

abbrev pub decreases-aliases : goal.decreases-aliases
decreases-aliases l = length l.rest
