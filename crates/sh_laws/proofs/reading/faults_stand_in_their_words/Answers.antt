use Rattle.sh_parse.proofs.Faults.{texts_in}
use Rattle.sh_parse_commands.specs.Programs.{inside_of}
use Rattle.sh_laws.proofs.Bodies.{bodies_stand}
use Rattle.sh_laws.proofs.Faults.{first_stands}
use Rattle.sh_laws.proofs.Words.{faults_stand}
use Rattle.sh_laws.proofs.reading.faults_stand_in_their_words.Goals as goal

pub returns-clause-words : goal.returns-clause-words
returns-clause-words c = λ table from. faults_stand ((inside_of table).read from) (texts_in table from)

pub returns-clause-bodies : goal.returns-clause-bodies
returns-clause-bodies c = λ table from. bodies_stand ((inside_of table).read from) (texts_in table from)

pub returns-clause-first : goal.returns-clause-first
returns-clause-first c = λ table from. first_stands ((inside_of table).read from) (texts_in table from)
