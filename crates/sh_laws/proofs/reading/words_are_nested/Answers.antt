use Rattle.sh_laws.proofs.Scanned.{body_nested, value_nested, word_nested}
use Rattle.sh_laws.proofs.reading.words_are_nested.Goals as goal

pub returns-clause-words : goal.returns-clause-words
returns-clause-words c = word_nested

pub returns-clause-bodies : goal.returns-clause-bodies
returns-clause-bodies c = body_nested

pub returns-clause-values : goal.returns-clause-values
returns-clause-values c = value_nested
