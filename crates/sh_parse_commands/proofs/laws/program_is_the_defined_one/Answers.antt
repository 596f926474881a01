use Rattle.sh_parse_commands.proofs.Without.{program_defined}
use Rattle.sh_parse_commands.proofs.laws.program_is_the_defined_one.Goals as goal

pub returns : goal.returns
returns c = program_defined
