-- What the arguments of `kill` ask for (XCU kill). The words are read from the left, and the first fault is told.
use Rattle.std.specs.Prelude.{ℕ, List, [], ◌∷◌, ◌==◌, ◌||◌, Bool, Option, Some, None, Result, Ok, Err, codes, if◌then◌else◌}
use Rattle.std.specs.List.{list_all}
use Rattle.std.specs.Option.{is_some}
use Rattle.std.specs.Str.{bytes_eq}
use Rattle.sh_base.specs.Decimals.{number_of}
use Rattle.sh_builtin_environment.specs.Options.{Parsed, letters_of, options_and_operands}
use Rattle.sh_builtin_environment.specs.declared.outcome.BuiltinFault.{BuiltinFault}
use Rattle.sh_builtin_environment.specs.declared.outcome.BuiltinFault.TheVariants.{BadName, Usage}
use Rattle.sh_builtin_jobs.specs.JobWords.{is_job_id}
use Rattle.sh_builtin_jobs.specs.SignalWords.{Sent, sent_by_name, sent_by_option, signal_of_status}
use Rattle.sh_builtin_jobs.specs.declared.command.KillCommand.{KillCommand}
use Rattle.sh_builtin_jobs.specs.declared.command.KillCommand.TheVariants.{Names, Name, Send}
use Rattle.sh_signal.specs.declared.signal.Signal.{Signal}
use Rattle.sh_signal.specs.declared.signal.Signal.TheVariants.{Terminate}

abbrev pub Reading : Type 0
Reading = Result KillCommand BuiltinFault

-- ---- an operand is the number of a process, a minus and the number of a group, or a job ID
abbrev pub group_number : List ℕ → Option ℕ
group_number [] = None
group_number (byte ∷ digits) = if byte == 45 then number_of digits else None

abbrev pub is_operand : List ℕ → Bool
is_operand word = is_some (number_of word) || (is_some (group_number word) || is_job_id word)

-- ---- operands of a signal: at least one
abbrev pub send_to : Option Signal → (operands : List (List ℕ)) → Reading
send_to signal [] = Err Usage
send_to signal (operand ∷ operands) =
    if list_all is_operand (operand ∷ operands) then Ok (Send (record { signal = signal; operands = operand ∷ operands })) else Err Usage

-- there is no option but the first
abbrev pub send_parsed : Option Signal → Option Parsed → Reading
send_parsed signal None = Err Usage
send_parsed signal (Some parsed) = send_to signal parsed.1

abbrev pub send_behind : Sent → (words : List (List ℕ)) → Reading
send_behind (Err fault) words = Err fault
send_behind (Ok signal) words = send_parsed signal (options_and_operands [] words)

-- ---- -s and its argument
abbrev pub send_named : (words : List (List ℕ)) → Reading
send_named [] = Err Usage
send_named (name ∷ words) = send_behind (sent_by_name name name) words

-- ---- -l and its operand
abbrev pub known_name : (word : List ℕ) → Option Signal → Reading
known_name word None = Err (BadName word)
known_name word (Some signal) = Ok (Name signal)

abbrev pub name_of_status : (word : List ℕ) → Option ℕ → Reading
name_of_status word None = Err Usage
name_of_status word (Some status) = known_name word (signal_of_status status)

abbrev pub names_of : (operands : List (List ℕ)) → Reading
names_of [] = Ok Names
names_of (word ∷ []) = name_of_status word (number_of word)
names_of (word ∷ other ∷ others) = Err Usage

abbrev pub names_parsed : Option Parsed → Reading
names_parsed None = Err Usage
names_parsed (Some parsed) = names_of parsed.1

-- ---- the first word, where it is an option: the text behind its hyphen
abbrev pub option_text : List ℕ → Option (List ℕ)
option_text word = if bytes_eq word (codes "--") then None else letters_of word

abbrev pub kill_with : (word text : List ℕ) → (words : List (List ℕ)) → Reading
kill_with word text words =
    if bytes_eq text (codes "l") then names_parsed (options_and_operands [] words)
    else (if bytes_eq text (codes "s") then send_named words
    else send_behind (sent_by_option word text) words)

-- without an option TERM is sent
abbrev pub kill_by : (word : List ℕ) → (words : List (List ℕ)) → Option (List ℕ) → Reading
kill_by word words None = send_behind (Ok (Some Terminate)) (word ∷ words)
kill_by word words (Some text) = kill_with word text words

abbrev pub kill_of : (arguments : List (List ℕ)) → Reading
kill_of [] = Err Usage
kill_of (word ∷ words) = kill_by word words (option_text word)
