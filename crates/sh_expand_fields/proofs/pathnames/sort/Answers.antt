use Rattle.std.proofs.lemmas.List.Filters.{dedup_is}
use Rattle.sh_expand_fields.proofs.Sorting.{same_texts, sorted_once}
use Rattle.sh_expand_fields.proofs.pathnames.sort.Goals as goal

pub returns-clause-rising : goal.returns-clause-rising
returns-clause-rising c = sorted_once c.args.paths.now.items c.sort_unstable.new.self.items c.dedup.new.self.items c.sort_unstable.ensures.sorted (dedup_is _ _ _ c.dedup.ensures.filtered)

pub returns-clause-same : goal.returns-clause-same
returns-clause-same c = same_texts c.args.paths.now.items c.sort_unstable.new.self.items c.dedup.new.self.items c.sort_unstable.ensures.permutation (dedup_is _ _ _ c.dedup.ensures.filtered)
