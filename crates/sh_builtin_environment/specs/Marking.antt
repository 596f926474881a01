-- export and readonly (XCU 2.15): variables are marked, and given values.
use Rattle.std.specs.Prelude.{ℕ, ◌+◌, List, [], ◌∷◌, ◌==◌, Option, Some, None, codes, drop, take, position, if◌then◌else◌}
use Rattle.sh_builtin_environment.specs.Listing.{listing_text}
use Rattle.sh_builtin_environment.specs.Options.{Parsed, options_and_operands}
use Rattle.sh_builtin_environment.specs.Outcomes.{Ran, Stepped, behind, misuse, with_outcome, with_fault}
use Rattle.sh_builtin_environment.specs.declared.listing.Listing.TheVariants.{Marked}
use Rattle.sh_builtin_environment.specs.declared.attribute.Attribute.{Attribute}
use Rattle.sh_builtin_environment.specs.declared.attribute.Attribute.TheVariants.{Export, ReadOnly}
use Rattle.sh_builtin_environment.specs.declared.outcome.BuiltinFault.TheVariants as fault
use Rattle.sh_builtin_environment.specs.declared.outcome.Outcome.TheVariants.{Done, Output}
use Rattle.sh_vars.specs.Environment.{Environment, is_read_only, with_export, with_read_only, with_value}
use Rattle.sh_base.specs.Names.{is_name}

-- ---- an operand is a name, or a name, `=` and a value
abbrev pub equals_in : List ℕ → Option ℕ
equals_in operand = position (λ b. b == 61) operand

abbrev pub name_by : List ℕ → Option ℕ → List ℕ
name_by operand None = operand
name_by operand (Some i) = take i operand

abbrev pub value_by : List ℕ → Option ℕ → Option (List ℕ)
value_by operand None = None
value_by operand (Some i) = Some (drop (i + 1) operand)

abbrev pub name_in : List ℕ → List ℕ
name_in operand = name_by operand (equals_in operand)

abbrev pub value_in : List ℕ → Option (List ℕ)
value_in operand = value_by operand (equals_in operand)

-- ---- one operand; a value is given before the mark
abbrev pub with_attribute : Attribute → Environment → List ℕ → Environment
with_attribute Export env name = with_export env name
with_attribute ReadOnly env name = with_read_only env name

abbrev pub marked_with : Attribute → Environment → List ℕ → Option (List ℕ) → Stepped
marked_with attribute env name None = with_fault (with_attribute attribute env name) None
marked_with attribute env name (Some value) =
    if is_read_only env name then with_fault env (Some (fault.ReadOnly name))
    else with_fault (with_attribute attribute (with_value env name value) name) None

unfoldable pub marked_one : Attribute → Environment → List ℕ → Stepped
marked_one attribute env operand =
    if is_name (name_in operand) then marked_with attribute env (name_in operand) (value_in operand)
    else with_fault env (Some (fault.BadName operand))

-- ---- operands from left to right, up to one that is refused
abbrev pub marked_all : Attribute → Environment → List (List ℕ) → Ran
marked_all attribute env [] = with_outcome env (Done 0)
marked_all attribute env (operand ∷ others) =
    let step = marked_one attribute env operand in behind step.environment step.fault (λ after. marked_all attribute after others)

-- ---- without operands, or with -p, the variables that are marked are listed
abbrev pub mark_listed : Attribute → Environment → Ran
mark_listed attribute env = with_outcome env (Output (listing_text (Marked attribute) env))

abbrev pub mark_by : Attribute → Environment → Option Parsed → Ran
mark_by attribute env None = misuse env
mark_by attribute env (Some (last, [])) = mark_listed attribute env
mark_by attribute env (Some (None, operand ∷ others)) = marked_all attribute env (operand ∷ others)
mark_by attribute env (Some (Some letter, operand ∷ others)) = misuse env

unfoldable pub mark_ran : Attribute → Environment → List (List ℕ) → Ran
mark_ran attribute env arguments = mark_by attribute env (options_and_operands (codes "p") arguments)
