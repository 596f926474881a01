use Rattle.std.proofs.Common.{◌≡◌, map, take}
use Rattle.sh_expand_parts.specs.Removals.{without_match}
use Rattle.sh_expand_parts.proofs.removal.all_without_match.Given as goal

abbrev pub invariant-loop-text : goal.invariant-loop-text
invariant-loop-text l = l.all ≡ map (without_match l.affix l.extent l.pattern) (take l.text-index l.texts)
