use Rattle.std.proofs.Common.{◌≡◌, length}
use Rattle.std.specs.List.{list_any}
use Rattle.sh_expand_fields.specs.Pathnames.{components_of, is_pattern}
use Rattle.sh_expand_fields.proofs.component.has_pattern.Given as goal

abbrev pub invariant-components : goal.invariant-components
invariant-components l = list_any is_pattern (components_of l.rest) ≡ list_any is_pattern (components_of l.pattern)

abbrev pub decreases-components : goal.decreases-components
decreases-components l = length l.rest
