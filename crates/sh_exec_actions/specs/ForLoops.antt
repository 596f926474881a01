-- What a for goes on with (XCU 2.9.4.2): its next value, or the end with this status where none is left.
use Rattle.std.specs.Prelude.{ℕ, List, [], ◌∷◌}
use Rattle.sh_exec_actions.specs.declared.action.Action.TheVariants.{AssignLoopVariable}
use Rattle.sh_exec_actions.specs.declared.action.Active.{Active}
use Rattle.sh_exec_actions.specs.declared.action.Active.TheVariants.{Next, Done}
use Rattle.sh_exec_actions.specs.declared.action.ForLoop.{ForLoop}
use Rattle.sh_exec_actions.specs.declared.status.CommandStatus.{CommandStatus}

abbrev pub given_by : ForLoop → List (List ℕ) → CommandStatus → Active
given_by series [] status = Done status
given_by series (value ∷ values) status = Next (AssignLoopVariable series)

abbrev pub rest_of_series : ForLoop → CommandStatus → Active
rest_of_series series status = given_by series series.values status
