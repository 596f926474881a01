use Rattle.std.proofs.Common.{map, length}
use Rattle.sh_expand_fields.specs.Walk.{LeadsFrom}
use Rattle.sh_expand_fields.proofs.Ones.{Left}
use Rattle.sh_expand_fields.proofs.pathnames.lead.Given as goal

abbrev pub invariant-prefixes : goal.invariant-prefixes
invariant-prefixes l =
    Left (map (λ path. path.items) l.paths.items)
    (LeadsFrom l.last l.files l.directory (map (λ path. path.items) l.rest) l.component)
    (LeadsFrom l.last l.files l.directory (map (λ path. path.items) l.prefixes) l.component)

abbrev pub decreases-prefixes : goal.decreases-prefixes
decreases-prefixes l = length l.rest
