use Rattle.std.proofs.Common.{rules}
use Rattle.std.proofs.lemmas.Fn.{filter_same}
use Rattle.std.specs.Prelude.{not}
use Rattle.sh_aliases.specs.Aliases.{has_name}
use Rattle.sh_aliases.proofs.table.remove.Goals as goal

pub returns : goal.returns
returns c = filter_same _ (λ alias. not (has_name c.args.name.now alias)) _ (λ x b f' k. search rules) _ _ c.retain.ensures.filtered
