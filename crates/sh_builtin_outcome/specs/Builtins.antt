-- Built-in utilities (XCU 1.6, 2.15): their names, and which of them are special.
use Rattle.std.specs.Prelude.{ℕ, List, [], ◌∷◌, Bool, true, false, Option, codes}
use Rattle.std.specs.List.{find}
use Rattle.std.specs.Str.{bytes_eq}
use Rattle.sh_builtin_outcome.specs.declared.builtin.Builtin.{Builtin}
use Rattle.sh_builtin_outcome.specs.declared.builtin.Builtin.TheVariants.{Alias, Bg, Bracket, Break, Cd, Colon, Command, Continue, Dot, Echo, Eval, Exec, Exit, Export, False, Fg, Jobs, Kill, Pwd, Read, ReadOnly, Return, Set, Shift, Test, Trap, True, Unalias, Unset, Wait}
use Rattle.sh_builtin_outcome.specs.declared.builtin.Row.{Row}

-- a row of the table: a name, and whether the built-in is special (2.15): then an error in it ends a shell that
-- isn't interactive, and assignments before it stay
pub record Named : Type 0 where
  pub name : List ℕ
  pub is_special : Bool

abbrev pub special : List ℕ → Named
special name = record { name = name; is_special = true }

abbrev pub regular : List ℕ → Named
regular name = record { name = name; is_special = false }

-- ---- the table
abbrev pub row_of : Builtin → Named
row_of Alias = regular (codes "alias")
row_of Bg = regular (codes "bg")
row_of Bracket = regular (codes "[")
row_of Break = special (codes "break")
row_of Cd = regular (codes "cd")
row_of Colon = special (codes ":")
row_of Command = regular (codes "command")
row_of Continue = special (codes "continue")
row_of Dot = special (codes ".")
row_of Echo = regular (codes "echo")
row_of Eval = special (codes "eval")
row_of Exec = special (codes "exec")
row_of Exit = special (codes "exit")
row_of Export = special (codes "export")
row_of False = regular (codes "false")
row_of Fg = regular (codes "fg")
row_of Jobs = regular (codes "jobs")
row_of Kill = regular (codes "kill")
row_of Pwd = regular (codes "pwd")
row_of Read = regular (codes "read")
row_of ReadOnly = special (codes "readonly")
row_of Return = special (codes "return")
row_of Set = special (codes "set")
row_of Shift = special (codes "shift")
row_of Test = regular (codes "test")
row_of Trap = special (codes "trap")
row_of True = regular (codes "true")
row_of Unalias = regular (codes "unalias")
row_of Unset = special (codes "unset")
row_of Wait = regular (codes "wait")

abbrev pub builtins : List Builtin
builtins =
    Alias ∷ Bg ∷ Bracket ∷ Break ∷ Cd ∷ Colon ∷ Command ∷ Continue ∷ Dot ∷ Echo ∷ Eval ∷ Exec ∷ Exit ∷ Export ∷ False ∷ Fg ∷ Jobs ∷ Kill ∷ Pwd ∷ Read ∷ ReadOnly ∷ Return ∷ Set ∷ Shift ∷ Test ∷ Trap ∷ True ∷ Unalias ∷ Unset ∷ Wait ∷ []

-- ---- what is read from it
abbrev pub name_of : Builtin → List ℕ
name_of builtin = (row_of builtin).name

abbrev pub is_special : Builtin → Bool
is_special builtin = (row_of builtin).is_special

abbrev pub is_named : Builtin → List ℕ → Bool
is_named builtin name = bytes_eq name (name_of builtin)

-- the built-in of a name
abbrev pub builtin_of : List ℕ → Option Builtin
builtin_of name = find (λ builtin. bytes_eq (name_of builtin) name) builtins

-- a row of the code
abbrev pub row_seen : Row → Named
row_seen row = record { name = row.name.now; is_special = row.is_special }
