use Rattle.std.proofs.Common.{arith, ap}
use Rattle.sh_arith_grammar.specs.Levels.{is_deep}
use Rattle.sh_arith_grammar.specs.Lexical.{tokens_from}
use Rattle.sh_arith.proofs.Starting.{starts, started_with, stops}
use Rattle.sh_arith.proofs.read.take_all.Goals as goal

pub loop-others-init : goal.loop-others-init
loop-others-init c =
    record {
      grammar = c.requires.grammar;
      tokens = started_with c.args.recognizer.now.tokens (tokens_from 0 0 c.args.text.now) c.requires.start;
      reached = starts c.args.recognizer.now.grammar c.args.recognizer.now.tokens c.args.levels.now c.requires.grammar c.requires.start c.requires.levels;
      shallow = ap is_deep c.requires.levels;
      few = omega arith;
    }

pub returns-in-Err-clause-fault : goal.returns-in-Err-clause-fault
returns-in-Err-clause-fault c =
    stops c.loop-others.recognizer.grammar c.loop-others.recognizer.tokens _ _ c.loop-others.levels c.in-Err.fault c.loop-others.invariant.grammar c.loop-others.invariant.reached c.loop-others.invariant.tokens c.in-Err.ensures.fault
