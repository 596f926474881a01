-- The options of `set` and their letters (XCU 2.15 `set`, and 2.5.2 for `$-`).
use Rattle.std.specs.Prelude.{ℕ, Bool, false, List, [], ◌∷◌, Option, Some, ◌==◌, find, codes}
use Rattle.std.specs.List.{filter, filter_map}
use Rattle.std.specs.Option.{option_map_or}
use Rattle.sh_vars.specs.declared.shell_options.Options.{Options}
use Rattle.sh_vars.specs.declared.shell_options.ShellOption.{ShellOption}
use Rattle.sh_vars.specs.declared.shell_options.ShellOption.TheVariants.{AllExport, NoClobber, ExitOnError, NoGlob, Interactive, Monitor, NoUnset}

-- the letter after `-` that switches an option on; an option need not have one
abbrev pub letter_of : ShellOption → Option ℕ
letter_of AllExport = Some 97
letter_of NoClobber = Some 67
letter_of ExitOnError = Some 101
letter_of NoGlob = Some 102
letter_of Interactive = Some 105
letter_of Monitor = Some 109
letter_of NoUnset = Some 117

-- the name after `-o`
abbrev pub name_of : ShellOption → List ℕ
name_of AllExport = codes "allexport"
name_of NoClobber = codes "noclobber"
name_of ExitOnError = codes "errexit"
name_of NoGlob = codes "noglob"
name_of Interactive = codes "interactive"
name_of Monitor = codes "monitor"
name_of NoUnset = codes "nounset"

-- in the order in which `$-` shows them
abbrev pub all_options : List ShellOption
all_options = AllExport ∷ NoClobber ∷ ExitOnError ∷ NoGlob ∷ Interactive ∷ Monitor ∷ NoUnset ∷ []

abbrev pub option_with_letter : ℕ → Option ShellOption
option_with_letter letter = find (λ option. option_map_or (λ l. l == letter) (letter_of option) false) all_options

abbrev pub is_on : Options → ShellOption → Bool
is_on options AllExport = options.all_export
is_on options NoClobber = options.no_clobber
is_on options ExitOnError = options.exit_on_error
is_on options NoGlob = options.no_glob
is_on options Interactive = options.interactive
is_on options Monitor = options.monitor
is_on options NoUnset = options.no_unset

abbrev pub with_option : Options → ShellOption → Bool → Options
with_option options AllExport on = record options { all_export = on }
with_option options NoClobber on = record options { no_clobber = on }
with_option options ExitOnError on = record options { exit_on_error = on }
with_option options NoGlob on = record options { no_glob = on }
with_option options Interactive on = record options { interactive = on }
with_option options Monitor on = record options { monitor = on }
with_option options NoUnset on = record options { no_unset = on }

-- the value of `$-`
abbrev pub letters_of : Options → List ℕ
letters_of options = filter_map letter_of (filter (is_on options) all_options)
