-- How the prover stores a map of variables.
use Rattle.std.specs.Ordering.{nat_cmp}
use Rattle.std.specs.Cmp.Lexicographic.{slice_cmp}
use Rattle.std.specs.FinMap.{code}
use Rattle.std.specs.Coded.{Coded, code_by, coded×, coded_list, coded_option, coded_bool, coded_ℕ}
use Rattle.std.specs.Prelude.{ℕ, List, Bool, Option, refl}
use Rattle.sh_vars.specs.Environment.{Variable, VariableMap}

abbrev pub variable_code : Coded Variable
variable_code =
    code_by (Option (List ℕ) × (Bool × Bool)) (coded× (coded_option (coded_list coded_ℕ)) (coded× coded_bool coded_bool)) (λ v. (v.value, (v.exported, v.read_only))) (λ t. record { value = t.0; exported = t.1.0; read_only = t.1.1 }) (λ _. refl)

abbrev pub map_code : Coded VariableMap
map_code = code {R = slice_cmp nat_cmp} (coded_list coded_ℕ) variable_code
