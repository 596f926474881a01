use Rattle.std.proofs.Common.{true, false}
use Rattle.sh_expand_fields.proofs.Leading.{leads_by}
use Rattle.sh_expand_fields.proofs.Sorting.{bytes}
use Rattle.sh_expand_fields.proofs.pathnames.add_behind.Goals as goal

pub returns-then-last : goal.returns-then-last
returns-then-last c = leads_by c.args.last true c.args.files.now c.args.directory.now c.args.before.now c.args.component.now (bytes c.args.paths.now.items) (bytes c.add_last.new.paths.items) c.if-last.true c.in_ok-add_last.ensures

pub returns : goal.returns
returns c = leads_by c.args.last false c.args.files.now c.args.directory.now c.args.before.now c.args.component.now (bytes c.args.paths.now.items) (bytes c.add_prefixes.new.prefixes.items) c.if-last.false c.in_ok-add_prefixes.ensures
