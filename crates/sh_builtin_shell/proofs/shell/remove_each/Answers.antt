use Rattle.std.proofs.Common.{◌==◌, rules}
use Rattle.std.specs.List.{list_any}
use Rattle.std.specs.Prelude.{not}
use Rattle.std.proofs.lemmas.Fn.{filter_same}
use Rattle.sh_builtin_shell.proofs.shell.remove_each.Goals as goal

pub returns : goal.returns
returns c = filter_same _ (λ process. not (list_any (λ pid. process == pid) c.args.pids.now)) _ (λ x b f' k. search rules) _ _ c.retain.ensures.filtered
