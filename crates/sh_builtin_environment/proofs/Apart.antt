-- PWD is as it was where OLDPWD is set.
use Rattle.std.proofs.Common.{◌≡◌}
use Rattle.std.proofs.lemmas.Cmp.{nat_list_cmp_total}
use Rattle.std.specs.FinMap as map
use Rattle.sh_builtin_environment.specs.Directories.{new_name, old_name}
use Rattle.sh_vars.specs.Environment.{Variable, VariableMap}

pub apart : (variables : VariableMap) (v : Variable) → map.get (map.insert variables old_name v) new_name ≡ map.get variables new_name
apart variables v = map.get-insert nat_list_cmp_total variables old_name v new_name
