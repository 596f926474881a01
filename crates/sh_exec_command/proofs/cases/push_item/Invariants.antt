use Rattle.std.proofs.Common.{◌≡◌, ◌++◌, length}
use Rattle.std.specs.Prelude.{map}
use Rattle.sh_exec_command.specs.Cases.{branch_of, item_branches}
use Rattle.sh_exec_command.proofs.cases.push_item.Given as goal
use Rattle.sh_syntax.specs.declared.tree.Command.TheViews as view

abbrev pub invariant-patterns : goal.invariant-patterns
invariant-patterns l = l.branches ++ map (branch_of (view.out-CaseItem l.fn.item).body) l.rest ≡ l.fn.branches ++ item_branches l.fn.item

abbrev pub decreases-patterns : goal.decreases-patterns
decreases-patterns l = length l.rest
