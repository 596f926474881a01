use Rattle.sh_laws.proofs.Spelled.{one_word}
use Rattle.sh_laws.proofs.reading.pieces_spell_one_word.Goals as goal

pub returns : goal.returns
returns c = one_word
