-- set (XCU 2.15): options are switched, and positional parameters replaced.
use Rattle.std.specs.Prelude.{ℕ, List, [], ◌∷◌, ◌==◌, Bool, true, false, Option, Some, None, codes, if◌then◌else◌}
use Rattle.std.specs.Option.{option_and_then}
use Rattle.std.specs.Str.{bytes_eq}
use Rattle.sh_builtin_environment.specs.Listing.{listing_text}
use Rattle.sh_builtin_environment.specs.Options.{some_letters}
use Rattle.sh_builtin_environment.specs.Outcomes.{Ran, misuse, with_outcome}
use Rattle.sh_builtin_environment.specs.declared.listing.Listing.TheVariants.{Values}
use Rattle.sh_builtin_environment.specs.declared.outcome.Outcome.TheVariants.{Done, Output}
use Rattle.sh_builtin_environment.specs.declared.setting.Switched.{Switched}
use Rattle.sh_builtin_environment.specs.declared.setting.Word.{Word}
use Rattle.sh_builtin_environment.specs.declared.setting.Word.TheVariants.{Options, End, Operand, Bad}
use Rattle.sh_vars.specs.Environment.{Environment, with_options, with_positional}
use Rattle.sh_vars.specs.ShellOptions.{option_with_letter, with_option}
use Rattle.sh_vars.specs.declared.shell_options.Options.{Options as OptionSet}
use Rattle.sh_vars.specs.declared.shell_options.ShellOption.{ShellOption}
use Rattle.sh_vars.specs.declared.shell_options.ShellOption.TheVariants.{AllExport, NoClobber, ExitOnError, NoGlob, Interactive, Monitor, NoUnset}

-- ---- options by letter and by name; whether a shell is interactive can't be switched
abbrev pub is_settable : ShellOption → Bool
is_settable AllExport = true
is_settable NoClobber = true
is_settable ExitOnError = true
is_settable NoGlob = true
is_settable Interactive = false
is_settable Monitor = true
is_settable NoUnset = true

abbrev pub settable : Option ShellOption → Option ShellOption
settable None = None
settable (Some option) = if is_settable option then Some option else None

abbrev pub option_by_letter : ℕ → Option ShellOption
option_by_letter letter = settable (option_with_letter letter)

abbrev pub option_by_name : List ℕ → Option ShellOption
option_by_name name =
    if bytes_eq name (codes "allexport") then Some AllExport
    else if bytes_eq name (codes "noclobber") then Some NoClobber
    else if bytes_eq name (codes "errexit") then Some ExitOnError
    else if bytes_eq name (codes "noglob") then Some NoGlob
    else if bytes_eq name (codes "monitor") then Some Monitor
    else if bytes_eq name (codes "nounset") then Some NoUnset
    else None

-- ---- a letter; the option that `o` switches has its name in the next word
abbrev pub option_switched : (on : Bool) → Switched → Option ShellOption → Option Switched
option_switched on s None = None
option_switched on s (Some option) = Some (record s { options = with_option s.options option on })

abbrev pub name_awaited : (on : Bool) → Switched → Option Bool → Option Switched
name_awaited on s None = Some (record s { awaited = Some on })
name_awaited on s (Some before) = None

unfoldable pub letter_switched : (on : Bool) → Switched → ℕ → Option Switched
letter_switched on s letter = if letter == 111 then name_awaited on s s.awaited else option_switched on s (option_by_letter letter)

abbrev pub letters_switched : (on : Bool) → Switched → List ℕ → Option Switched
letters_switched on s [] = Some s
letters_switched on s (letter ∷ letters) = option_and_then (λ next. letters_switched on next letters) (letter_switched on s letter)

-- ---- a word of options: a hyphen, or a plus sign to switch them off, and letters
abbrev pub with_sign : Bool → Option (List ℕ) → Option (Bool × List ℕ)
with_sign on None = None
with_sign on (Some letters) = Some (on, letters)

abbrev pub sign_and_letters : List ℕ → Option (Bool × List ℕ)
sign_and_letters [] = None
sign_and_letters (b ∷ bs) =
    if b == 45 then with_sign true (some_letters bs) else if b == 43 then with_sign false (some_letters bs) else None

abbrev pub switched_word : Option Switched → Word
switched_word None = Bad
switched_word (Some next) = Options next

abbrev pub signed_word : Switched → Option (Bool × List ℕ) → Word
signed_word s None = Operand
signed_word s (Some (on, letters)) = switched_word (letters_switched on s letters)

abbrev pub word_by : Switched → List ℕ → Option Bool → Word
word_by s word None = if bytes_eq word (codes "--") then End else signed_word s (sign_and_letters word)
word_by s word (Some on) = switched_word (option_switched on (record s { awaited = None }) (option_by_name word))

unfoldable pub word_of : Switched → List ℕ → Word
word_of s word = word_by s word s.awaited

-- ---- the options that are then on, and the operands if there are any; none where a word is bad
abbrev pub Setting : Type 0
Setting = OptionSet × Option (List (List ℕ))

abbrev pub setting_at_end : Switched → Option Bool → Option Setting
setting_at_end s None = Some (s.options, None)
setting_at_end s (Some on) = None

abbrev pub set_behind : Switched → List ℕ → List (List ℕ) → Word → (Switched → Option Setting) → Option Setting
set_behind s word words (Options after) next = next after
set_behind s word words End next = Some (s.options, Some words)
set_behind s word words Operand next = Some (s.options, Some (word ∷ words))
set_behind s word words Bad next = None

abbrev pub set_from : Switched → List (List ℕ) → Option Setting
set_from s [] = setting_at_end s s.awaited
set_from s (word ∷ words) = set_behind s word words (word_of s word) (λ after. set_from after words)

abbrev pub no_name_awaited : OptionSet → Switched
no_name_awaited options = record { options = options; awaited = None }

-- ---- without arguments the variables are listed
abbrev pub with_operands : Environment → Option (List (List ℕ)) → Environment
with_operands env None = env
with_operands env (Some operands) = with_positional env operands

abbrev pub set_by : Environment → Option Setting → Ran
set_by env None = misuse env
set_by env (Some (options, operands)) = with_outcome (with_operands (with_options env options) operands) (Done 0)

unfoldable pub set_ran : Environment → List (List ℕ) → Ran
set_ran env [] = with_outcome env (Output (listing_text Values env))
set_ran env (argument ∷ arguments) = set_by env (set_from (no_name_awaited env.options) (argument ∷ arguments))
