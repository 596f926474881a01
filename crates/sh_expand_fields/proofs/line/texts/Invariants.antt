use Rattle.std.proofs.Common.{◌≡◌, ◌++◌}
use Rattle.sh_expand_fields.specs.Lines.{texts}
use Rattle.sh_expand_fields.proofs.line.texts.Given as goal

abbrev pub invariant-fields : goal.invariant-fields
invariant-fields l = l.found ++ texts l.ifs l.more l.rest ≡ texts l.ifs l.count l.line

abbrev pub decreases-fields : goal.decreases-fields
decreases-fields l = l.more
