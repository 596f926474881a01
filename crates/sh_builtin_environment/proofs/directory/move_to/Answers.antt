use Rattle.std.proofs.Common.{◌∙◌, Option, ap, unwrap_or}
use Rattle.sh_builtin_environment.proofs.Apart.{apart}
use Rattle.sh_builtin_environment.specs.Directories.{new_name}
use Rattle.sh_vars.specs.Environment.{Environment, Variable, absent, is_read_only}
use Rattle.sh_builtin_environment.proofs.directory.move_to.Goals as goal

pub set_value-requires-2-clause-may_change : goal.set_value-requires-2-clause-may_change
set_value-requires-2-clause-may_change c =
    ap (λ (env : Environment). is_read_only env new_name) c.in_ok-set_value.ensures
    ∙ ap (λ (found : Option Variable). (unwrap_or found absent).read_only) (apart c.args.vars.now.variables _)
    ∙ c.requires.new
