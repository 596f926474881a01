use Rattle.std.proofs.Common.{length}
use Rattle.sh_parse_documents.proofs.Sizes.{Reached}
use Rattle.sh_parse_documents.proofs.bodies.bodies_size.Given as goal

abbrev pub invariant-loop-delimiter : goal.invariant-loop-delimiter
invariant-loop-delimiter l = Reached l.at_end l.text l.due-2 l.due l.joined l.rest

abbrev pub decreases-loop-delimiter : goal.decreases-loop-delimiter
decreases-loop-delimiter l = length l.rest
