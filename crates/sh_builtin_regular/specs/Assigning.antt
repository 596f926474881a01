-- The variables have the fields of the line that was read (XCU read, 2.6.5).
use Rattle.std.specs.Prelude.{ℕ, List, [], ◌∷◌, Option, Some, None, length, if◌then◌else◌}
use Rattle.sh_builtin_environment.specs.Variables.{may_set}
use Rattle.sh_builtin_regular.specs.declared.reader.LineReader.{LineReader}
use Rattle.sh_expand_fields.specs.Lines.{line_split}
use Rattle.sh_vars.specs.Environment.{Environment, with_value}

-- the variables, and the name of the one that is read-only
pub record Assigned : Type 0 where
  pub environment : Environment
  pub refused : Option (List ℕ)

-- from left to right
abbrev pub assigned : Environment → List (List ℕ) → List (List ℕ) → Assigned
assigned env [] values = record { environment = env; refused = None }
assigned env (name ∷ names) [] = record { environment = env; refused = None }
assigned env (name ∷ names) (value ∷ values) =
    if may_set env name then assigned (with_value env name value) names values
    else record { environment = env; refused = Some name }

-- the fields are those by IFS before any variable is set
unfoldable pub line_assigned : Environment → LineReader → Assigned
line_assigned env reader = assigned env reader.names (line_split env (length reader.names) reader.line)
