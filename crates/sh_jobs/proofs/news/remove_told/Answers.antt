use Rattle.std.proofs.Common.{rules}
use Rattle.std.proofs.lemmas.Fn.{filter_same}
use Rattle.sh_jobs.proofs.news.remove_told.Goals as goal

pub returns : goal.returns
returns c = λ s h. filter_same _ _ _ (λ x b f' k. search (rules, h)) _ _ c.retain.ensures.filtered
