use Rattle.std.proofs.Common.{List, ℕ, map, drop}
use Rattle.std.specs.Borrow.{Bor}
use Rattle.std.specs.Prelude.{◌↔◌}
use Rattle.sh_expand_fields.specs.Pathnames.{IsOne}
use Rattle.sh_expand_fields.proofs.pathnames.is_one.Given as goal

abbrev pub invariant-names : goal.invariant-names
invariant-names l = IsOne l.name (map (λ (n : Bor (List ℕ)). n.now) (drop l.other-index l.names)) ↔ IsOne l.name (map (λ (n : Bor (List ℕ)). n.now) l.names)
