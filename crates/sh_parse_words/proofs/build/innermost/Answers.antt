use Rattle.sh_parse_words.proofs.Frames.{popped}
use Rattle.sh_parse_words.proofs.build.innermost.Goals as goal

pub returns-clause-value : goal.returns-clause-value
returns-clause-value c = (popped c.args.frames.now c.pop.new.self c.pop.result c.pop.ensures.items c.pop.ensures.some).value

pub returns-clause-left : goal.returns-clause-left
returns-clause-left c = (popped c.args.frames.now c.pop.new.self c.pop.result c.pop.ensures.items c.pop.ensures.some).left
