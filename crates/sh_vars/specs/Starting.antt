-- What the first shell begins with.
use Rattle.std.specs.Prelude.{ℕ, List, [], ◌∷◌, Bool, false, true, Some, None, codes}
use Rattle.std.specs.FinMap.{from_entries}
use Rattle.sh_vars.specs.Environment.{Environment, VariableMap, Variable}
use Rattle.sh_base.specs.Separators.{default_separators}
use Rattle.sh_vars.specs.declared.shell_options.Options.{Options}

-- a variable with this value that is not read-only
unfoldable pub changeable : List ℕ → Bool → Variable
changeable value exported = record { value = Some value; exported = exported; read_only = false }

-- the variables of the first shell; PATH, HOME and PWD are exported
unfoldable pub starting_variables : VariableMap
starting_variables = from_entries (
    (codes "HOME", changeable (codes "/") true)
    ∷ (codes "IFS", changeable default_separators false)
    ∷ (codes "PATH", changeable (codes "/bin") true)
    ∷ (codes "PPID", changeable (codes "1") false)
    ∷ (codes "PS1", changeable (codes "$ ") false)
    ∷ (codes "PS2", changeable (codes "> ") false)
    ∷ (codes "PS4", changeable (codes "+ ") false)
    ∷ (codes "PWD", changeable (codes "/") true)
    ∷ [])

abbrev pub no_options : Options
no_options = record {
  all_export = false;
  no_clobber = false;
  exit_on_error = false;
  no_glob = false;
  interactive = false;
  monitor = false;
  no_unset = false;
}

-- PATH, HOME and PWD are exported; no options and no positional parameters; process 100 in the directory `/`
unfoldable pub starting : Environment
starting = record {
  variables = starting_variables;
  options = no_options;
  positional = [];
  special = record { zero = codes "psh"; process = 100; status = 0; background = None };
  directory = codes "/";
}
