use Rattle.std.proofs.Common.{arith}
use Rattle.std.proofs.lemmas.Grind.{common_steps}
use Rattle.sh_exec_parts.proofs.Prepared.{by_item}
use Rattle.sh_exec_parts.specs.Simple.{redirect_of, redirects_of}
use Rattle.sh_exec_parts.proofs.redirection.prepared_redirections.Goals as goal

pub items-preserved : goal.items-preserved
items-preserved c = grind (arith, common_steps, by_item c.args.no_clobber (redirect_of c.in-Some.item.now) (redirects_of c.in-Some.others.now) c.items.left.now)
