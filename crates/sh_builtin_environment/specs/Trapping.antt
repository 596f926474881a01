-- trap (XCU 2.15): what its operands do to the traps.
use Rattle.std.specs.Prelude.{ℕ, List, [], ◌∷◌, Bool, false, Option, Some, None, codes, if◌then◌else◌}
use Rattle.std.specs.Str.{bytes_eq}
use Rattle.sh_base.specs.Decimals.{number_of}
use Rattle.sh_signal.specs.Conditions.{condition_of}
use Rattle.sh_builtin_environment.specs.TrapMaps.{TrapMap, trap_listing, with_action}
use Rattle.sh_signal.specs.declared.condition.Condition.{Condition}
use Rattle.sh_signal.specs.declared.condition.Condition.TheVariants.{Exit, Caught}
use Rattle.sh_builtin_environment.specs.Options.{Parsed, options_and_operands}
use Rattle.sh_builtin_environment.specs.declared.outcome.BuiltinFault.TheVariants as fault
use Rattle.sh_builtin_environment.specs.declared.outcome.Outcome.{Outcome}
use Rattle.sh_builtin_environment.specs.declared.outcome.Outcome.TheVariants.{Done, Fault, Output}
use Rattle.sh_builtin_environment.specs.declared.trapping.TrapOutcome.{TrapOutcome}
use Rattle.sh_kernel_processes.specs.Sets.{has, no_signals, with_signal}
use Rattle.sh_kernel_processes.specs.declared.set.SignalSet.{SignalSet}

-- ---- the traps, and the signals whose traps were set
pub record TrapsSet : Type 0 where
  pub traps : TrapMap
  pub signals : SignalSet

abbrev pub none_changed : TrapMap → TrapsSet
none_changed traps = record { traps = traps; signals = no_signals }

-- the same after trap, and its outcome
pub record Trapped : Type 0 where
  pub left : TrapsSet
  pub outcome : Outcome

abbrev pub with_outcome : TrapsSet → Outcome → Trapped
with_outcome left outcome = record { left = left; outcome = outcome }

-- what the code tells, with the traps
abbrev pub trapped_by : TrapMap → TrapOutcome → Trapped
trapped_by traps told = with_outcome (record { traps = traps; signals = told.signals }) told.outcome

-- ---- one condition
-- signals that were ignored when a shell that isn't interactive started can't be trapped or reset, and nothing is said of that
abbrev pub is_fixed : (fixed : SignalSet) → Condition → Bool
is_fixed fixed Exit = false
is_fixed fixed (Caught signal) = has fixed signal

abbrev pub with_condition : SignalSet → Condition → SignalSet
with_condition signals Exit = signals
with_condition signals (Caught signal) = with_signal signals signal

abbrev pub after_setting : (fixed : SignalSet) → TrapsSet → Option (List ℕ) → Condition → TrapsSet
after_setting fixed t action condition =
    if is_fixed fixed condition then t
    else record { traps = with_action t.traps condition action; signals = with_condition t.signals condition }

-- ---- conditions from left to right, up to one that is none
abbrev pub set_one : (fixed : SignalSet) → TrapsSet → Option (List ℕ) → List ℕ → Option Condition → (TrapsSet → Trapped) → Trapped
set_one fixed t action word None next = with_outcome t (Fault (fault.BadCondition word))
set_one fixed t action word (Some condition) next = next (after_setting fixed t action condition)

abbrev pub set_all : (fixed : SignalSet) → TrapsSet → Option (List ℕ) → List (List ℕ) → Trapped
set_all fixed t action [] = with_outcome t (Done 0)
set_all fixed t action (word ∷ words) = set_one fixed t action word (condition_of word) (λ after. set_all fixed after action words)

-- ---- a hyphen brings back the default; an action needs conditions after it, but a first operand that is a
-- number is a condition too, and all have the default
abbrev pub action_in : List ℕ → Option (List ℕ)
action_in word = if bytes_eq word (codes "-") then None else Some word

abbrev pub set_behind : (fixed : SignalSet) → TrapMap → List ℕ → List (List ℕ) → Trapped
set_behind fixed traps action [] = with_outcome (none_changed traps) (Fault fault.Usage)
set_behind fixed traps action (word ∷ words) = set_all fixed (none_changed traps) (action_in action) (word ∷ words)

abbrev pub set_by : (fixed : SignalSet) → TrapMap → List ℕ → List (List ℕ) → Option ℕ → Trapped
set_by fixed traps first others None = set_behind fixed traps first others
set_by fixed traps first others (Some n) = set_all fixed (none_changed traps) None (first ∷ others)

-- ---- without operands they are listed
abbrev pub trap_with : (fixed : SignalSet) → TrapMap → List (List ℕ) → Trapped
trap_with fixed traps [] = with_outcome (none_changed traps) (Output (trap_listing traps))
trap_with fixed traps (first ∷ others) = set_by fixed traps first others (number_of first)

abbrev pub trap_parsed : (fixed : SignalSet) → TrapMap → Option Parsed → Trapped
trap_parsed fixed traps None = with_outcome (none_changed traps) (Fault fault.Usage)
trap_parsed fixed traps (Some (last, operands)) = trap_with fixed traps operands

unfoldable pub trap_ran : (fixed : SignalSet) → TrapMap → List (List ℕ) → Trapped
trap_ran fixed traps arguments = trap_parsed fixed traps (options_and_operands [] arguments)
