use Rattle.std.proofs.Common.{length, map}
use Rattle.sh_expand_fields.specs.Pathnames.{components_of}
use Rattle.sh_expand_fields.proofs.Reaching.{Stand}
use Rattle.sh_expand_fields.proofs.pathnames.find.Given as goal

abbrev pub invariant-components : goal.invariant-components
invariant-components l = Stand l.files l.directory (map (λ path. path.items) l.prefixes.items) (components_of l.rest) l.pattern

abbrev pub decreases-components : goal.decreases-components
decreases-components l = length l.rest
