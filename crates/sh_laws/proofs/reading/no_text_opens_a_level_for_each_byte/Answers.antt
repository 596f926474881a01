use Rattle.sh_laws.proofs.Levels.{token_not_deep, body_not_deep}
use Rattle.sh_laws.proofs.reading.no_text_opens_a_level_for_each_byte.Goals as goal

pub returns-clause-tokens : goal.returns-clause-tokens
returns-clause-tokens c = token_not_deep

pub returns-clause-bodies : goal.returns-clause-bodies
returns-clause-bodies c = body_not_deep
