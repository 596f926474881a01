-- What is read of a map of variables after one was put.
use Rattle.std.proofs.Common.{◌≡◌, ◌≢◌, ℕ, List, Bool, true, false, cond, Option, Some, refl, ap, ◌∙◌}
use Rattle.std.specs.Option.{option_and_then}
use Rattle.std.specs.Ordering.{eq_by_cmp, is_eq}
use Rattle.std.specs.FinMap as map
use Rattle.std.proofs.lemmas.Cmp.{nat_list_cmp_total}
use Rattle.std.specs.Cmp.{tied_itself}
use Rattle.sh_vars.specs.Environment.{Variable, VariableMap}
use Rattle.sh_vars.proofs.Places.{order, same_name, equal}

abbrev pub read : VariableMap → List ℕ → Option (List ℕ)
read m q = option_and_then (λ (v : Variable). v.value) (map.get m q)

pub read_put : (m : VariableMap) (q : List ℕ) (v : Variable) → read (map.insert m q v) q ≡ v.value
read_put m q v =
    ap (option_and_then (λ (w : Variable). w.value)) (map.get-insert nat_list_cmp_total m q v q ∙ ap (λ r. cond (is_eq r) (Some v) (map.get m q)) (tied_itself nat_list_cmp_total q))

other_read : (b : Bool) (v : Variable) (o : Option Variable) → (b ≡ true → ⊥) → cond b (Some v) o ≡ o
other_read true v o never = absurd (never refl)
other_read false v o _ = refl

pub read_other : (m : VariableMap) (q : List ℕ) (v : Variable) (x : List ℕ) → x ≢ q → read (map.insert m q v) x ≡ read m x
read_other m q v x apart =
    ap (option_and_then (λ (w : Variable). w.value)) (map.get-insert nat_list_cmp_total m q v x
    ∙ other_read (eq_by_cmp order x q) v (map.get m x) (λ e. apart (same_name x q (equal _ e))))
