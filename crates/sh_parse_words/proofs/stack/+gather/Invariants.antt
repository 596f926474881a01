use Rattle.std.proofs.Common.{length}
use Rattle.sh_parse_words.proofs.stack.+gather.Given as goal

abbrev pub decreases-gather : goal.decreases-gather
decreases-gather l = length l.kept.now
