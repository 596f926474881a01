use Rattle.sh_parse_commands.proofs.Texts.{one_derivation}
use Rattle.sh_parse_commands.proofs.laws.no_tokens_have_two_derivations.Goals as goal

pub returns : goal.returns
returns c = one_derivation
