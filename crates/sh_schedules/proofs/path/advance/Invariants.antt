use Rattle.std.proofs.Common.{◌≡◌, ◌++◌, List, length}
use Rattle.sh_schedules.specs.Paths.{HaveNoOther}
use Rattle.sh_schedules.specs.declared.path.Turn.{Turn}
use Rattle.sh_schedules.proofs.path.advance.Given as goal

-- the turns that are gone have no other
abbrev pub invariant-turns : goal.invariant-turns
invariant-turns l = (spent : List Turn) × (l.fn.path.items ≡ l.path.items ++ spent) × HaveNoOther spent

abbrev pub decreases-turns : goal.decreases-turns
decreases-turns l = length l.path.items
