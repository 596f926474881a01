use Rattle.sh_laws_pipelines.proofs.Turning.{ends, idles, stops}
use Rattle.sh_laws_pipelines.proofs.turns.other_turns_of_stages_are_steps.Goals as goal

pub returns-clause-stops : goal.returns-clause-stops
returns-clause-stops g c = stops g.S.Stock.meaning

pub returns-clause-idles : goal.returns-clause-idles
returns-clause-idles g c = idles g.S.Stock.meaning

pub returns-clause-ends : goal.returns-clause-ends
returns-clause-ends g c = ends g.S.Stock.meaning
