use Rattle.sh_token_pieces.proofs.Tokens.{prefix_shown}
use Rattle.sh_token_pieces.proofs.context.accept.Goals as goal

pub returns-clause-told : goal.returns-clause-told
returns-clause-told c = prefix_shown _ _ _ c.requires c.in_ok-taken.ensures.prefix
