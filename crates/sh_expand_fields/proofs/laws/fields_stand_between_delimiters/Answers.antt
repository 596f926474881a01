use Rattle.sh_expand_fields.proofs.Between.{stands_between}
use Rattle.sh_expand_fields.proofs.Only.{only_split}
use Rattle.sh_expand_fields.proofs.laws.fields_stand_between_delimiters.Goals as goal

pub returns : goal.returns
returns c = record { stand = stands_between; only = only_split }
