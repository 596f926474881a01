use Rattle.std.proofs.Common.{◌∙◌, sym}
use Rattle.sh_expand_fields.proofs.Reaching.{matched}
use Rattle.sh_expand_fields.proofs.Sorting.{bytes, none_rises}
use Rattle.sh_expand_fields.proofs.pathnames.find_in_order.Goals as goal

pub returns-then-not-has_pattern-clause-rising : goal.returns-then-not-has_pattern-clause-rising
returns-then-not-has_pattern-clause-rising c = none_rises c.new.result.items c.new.ensures.items

pub returns-clause-found : goal.returns-clause-found
returns-clause-found c = matched c.args.files.now c.args.directory.now c.args.pattern.now (bytes c.in_ok-paths.paths.items) (bytes c.sort.new.paths.items) (sym c.has_pattern.ensures ∙ c.if-not-has_pattern.false) c.in_ok-paths.ensures c.sort.ensures.same
