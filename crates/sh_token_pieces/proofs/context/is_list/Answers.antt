use Rattle.sh_token_pieces.proofs.Tokens.{whole_shown}
use Rattle.sh_token_pieces.proofs.context.is_list.Goals as goal

pub returns : goal.returns
returns c = whole_shown _ _ c.requires c.may_end.ensures
