use Rattle.sh_arith.proofs.Starting.{goes}
use Rattle.sh_arith.proofs.read.take_at.Goals as goal

pub returns-in-Ok-clause-reached : goal.returns-in-Ok-clause-reached
returns-in-Ok-clause-reached c =
    let e = c.in-Ok.ensures in
    goes c.args.recognizer.now.grammar c.take_token.new.recognizer.grammar c.args.recognizer.now.tokens c.take_token.new.recognizer.tokens c.args.levels.now c.take_token.new.levels _ c.take_token.ensures.grammar e.ok e.begins e.levels e.shallow
