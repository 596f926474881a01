-- The lines of messages, and what is said of a built-in that is refused.
use Rattle.std.specs.Prelude.{ℕ, List, [], ◌∷◌, ◌++◌, codes}
use Rattle.sh_builtin_environment.specs.declared.outcome.BuiltinFault.{BuiltinFault}
use Rattle.sh_builtin_environment.specs.declared.outcome.BuiltinFault.TheVariants as fault

-- a message is `psh: `, a text and a newline
abbrev pub line_of : List ℕ → List ℕ
line_of text = (codes "psh: " ++ text) ++ 10 ∷ []

-- of a built-in with wrong options or operands
abbrev pub usage : List ℕ → List ℕ
usage name = name ++ codes ": usage"

-- of a variable that can't be changed
abbrev pub read_only : List ℕ → List ℕ
read_only name = name ++ codes ": read only"

-- why a built-in is refused; but for a variable that is read-only, the text begins with the built-in's name
abbrev pub fault_text : List ℕ → BuiltinFault → List ℕ
fault_text name fault.Usage = usage name
fault_text name (fault.BadName word) = name ++ codes ": " ++ word ++ codes ": bad name"
fault_text name (fault.BadCondition word) = name ++ codes ": " ++ word ++ codes ": bad name"
fault_text name (fault.ReadOnly variable) = read_only variable
fault_text name (fault.CannotOpen path) = name ++ codes ": " ++ path ++ codes ": cannot open"

-- its status
abbrev pub status_of : BuiltinFault → ℕ
status_of fault.Usage = 2
status_of (fault.BadName word) = 2
status_of (fault.BadCondition word) = 2
status_of (fault.ReadOnly variable) = 2
status_of (fault.CannotOpen path) = 1
