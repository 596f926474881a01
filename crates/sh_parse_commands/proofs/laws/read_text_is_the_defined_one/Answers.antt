use Rattle.sh_parse_commands.proofs.Nested.{read_fixed}
use Rattle.sh_parse_commands.proofs.Without.{text_defined}
use Rattle.sh_parse_commands.proofs.laws.read_text_is_the_defined_one.Goals as goal

pub returns-clause-itself : goal.returns-clause-itself
returns-clause-itself c = read_fixed

pub returns-clause-defined : goal.returns-clause-defined
returns-clause-defined c = text_defined
