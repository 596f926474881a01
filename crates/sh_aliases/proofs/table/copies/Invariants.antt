use Rattle.std.proofs.Common.{◌≡◌, take}
use Rattle.sh_aliases.proofs.table.copies.Given as goal

abbrev pub invariant-loop-alias : goal.invariant-loop-alias
invariant-loop-alias l = l.copies.items ≡ take l.alias-index l.aliases
