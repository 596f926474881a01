use Rattle.std.proofs.Common.{rules}
use Rattle.std.specs.Prelude.{not}
use Rattle.std.proofs.lemmas.Fn.{filter_same}
use Rattle.sh_jobs.specs.Table.{has_number}
use Rattle.sh_jobs.proofs.table.remove.Goals as goal

pub returns : goal.returns
returns c = filter_same _ (λ job. not (has_number c.args.number job)) _ (λ x b f' k. search rules) _ _ c.retain.ensures.filtered
