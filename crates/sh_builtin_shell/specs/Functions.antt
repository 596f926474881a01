-- The functions of a shell (XCU 2.9.5): a compound command for each name.
use Rattle.std.specs.Prelude.{ℕ, List, [], ◌∷◌, ◌++◌, Bool, not, Option, Some, None, option_map, if◌then◌else◌}
use Rattle.std.specs.List.{filter, find}
use Rattle.std.specs.Str.{bytes_eq}
use Rattle.sh_base.specs.Names.{is_name}
use Rattle.sh_syntax.specs.declared.tree.Command.{Command}

-- a function with its name
abbrev pub Named : Type 0
Named = List ℕ × Command

abbrev pub has_name : List ℕ → Named → Bool
has_name name function = bytes_eq function.0 name

-- the body of the function of a name
abbrev pub body_of : List Named → List ℕ → Option Command
body_of functions name = option_map (λ function. function.1) (find (has_name name) functions)

-- without the function of a name
abbrev pub without : List Named → List ℕ → List Named
without functions name = filter (λ function. not (has_name name function)) functions

-- a definition takes the place of one before it
abbrev pub defined : List Named → List ℕ → Command → List Named
defined functions name body = without functions name ++ (name, body) ∷ []

-- ---- unset -f (2.15): without the functions of these names, up to a word that is no name
abbrev pub without_all : List Named → List (List ℕ) → List Named
without_all functions [] = functions
without_all functions (name ∷ names) = if is_name name then without_all (without functions name) names else functions

abbrev pub unset_by : List Named → Option (List (List ℕ)) → List Named
unset_by functions None = functions
unset_by functions (Some names) = without_all functions names
