use Rattle.std.proofs.Common.{List, ℕ, map, drop, ◌⊎◌}
use Rattle.std.specs.Borrow.{Bor}
use Rattle.sh_expand_fields.specs.Pathnames.{IsOne}
use Rattle.sh_expand_fields.specs.Walk.{Taken}
use Rattle.sh_expand_fields.proofs.Ones.{Left}
use Rattle.sh_expand_fields.proofs.pathnames.add_taken.Given as goal

abbrev pub invariant-names : goal.invariant-names
invariant-names l =
    Left (map (λ path. path.items) l.paths.items)
    (Taken l.before l.end l.component (map (λ (n : Bor (List ℕ)). n.now) (drop l.name-index l.names)))
    (λ t. IsOne t (map (λ path. path.items) l.initial.paths.items) ⊎ Taken l.before l.end l.component (map (λ (n : Bor (List ℕ)). n.now) l.names) t)
