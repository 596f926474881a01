-- The traps of a shell (XCU 2.15 trap): an action for conditions.
use Rattle.std.specs.Prelude.{ℕ, List, [], ◌∷◌, ◌++◌, Option, Some, None, codes, map, replicate, set, slice_get}
use Rattle.std.specs.Option.{option_and_then}
use Rattle.sh_signal.specs.Conditions.{conditions, name_of, place_of}
use Rattle.sh_signal.specs.declared.condition.Condition.{Condition}
use Rattle.sh_builtin_environment.specs.Listing.{in_quotes}

-- by the conditions' numbers, from 0 to 22; where there is no action, the default is done; an empty action
-- ignores a signal
abbrev pub TrapMap : Type 0
TrapMap = List (Option (List ℕ))

abbrev pub none_set : TrapMap
none_set = replicate 23 None

abbrev pub action_of : TrapMap → Condition → Option (List ℕ)
action_of traps condition = option_and_then (λ action. action) (slice_get traps (place_of condition))

abbrev pub with_action : TrapMap → Condition → Option (List ℕ) → TrapMap
with_action traps condition action = set traps (place_of condition) action

-- a subshell goes on ignoring what is ignored, and has no other trap (2.13)
abbrev pub ignored_by : List ℕ → Option (List ℕ)
ignored_by [] = Some []
ignored_by (b ∷ bs) = None

abbrev pub subshell_action : Option (List ℕ) → Option (List ℕ)
subshell_action None = None
subshell_action (Some action) = ignored_by action

abbrev pub in_subshell : TrapMap → TrapMap
in_subshell traps = map subshell_action traps

-- ---- as they are listed: lines that a shell can read again, in the order of the numbers
abbrev pub line : Condition → Option (List ℕ) → List ℕ
line condition None = []
line condition (Some action) = codes "trap -- " ++ in_quotes action ++ 32 ∷ name_of condition ++ 10 ∷ []

abbrev pub lines : TrapMap → List Condition → List ℕ
lines traps [] = []
lines traps (condition ∷ others) = line condition (action_of traps condition) ++ lines traps others

abbrev pub trap_listing : TrapMap → List ℕ
trap_listing traps = lines traps conditions
