use Rattle.std.proofs.Common.{◌≡◌, ◌++◌, length}
use Rattle.sh_exec_parts.specs.Wants.{words_wanted}
use Rattle.sh_exec_parts.proofs.wanted.put_words.Given as goal

abbrev pub invariant-items : goal.invariant-items
invariant-items l = l.wanted ++ words_wanted l.declares l.rest ≡ l.initial.wanted ++ words_wanted l.declares l.items

abbrev pub decreases-items : goal.decreases-items
decreases-items l = length l.rest
