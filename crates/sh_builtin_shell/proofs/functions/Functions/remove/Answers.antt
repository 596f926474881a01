use Rattle.std.proofs.Common.{◌∙◌, ap, rules}
use Rattle.std.proofs.lemmas.Fn.{filter_same}
use Rattle.std.specs.Prelude.{not}
use Rattle.sh_builtin_shell.specs.Functions.{has_name, without}
use Rattle.sh_builtin_shell.proofs.functions.Functions.remove.Goals as goal

pub returns : goal.returns
returns c =
    filter_same _ (λ function. not (has_name c.args.name.now function)) _ (λ x b f' k. search rules) _ _ c.retain.ensures.filtered
    ∙ ap (λ functions. without functions c.args.name.now) c.self.view_is
