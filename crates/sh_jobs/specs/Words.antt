-- The words for the states of jobs (XCU jobs, "state").
use Rattle.std.specs.Prelude.{ℕ, List, [], ◌∷◌, ◌++◌, ◌==◌, Option, Some, None, codes, decimal, if◌then◌else◌}
use Rattle.sh_signal.specs.Signals.{name_of, signal_with_number}
use Rattle.sh_signal.specs.declared.signal.Signal.{Signal}
use Rattle.sh_jobs.specs.declared.state.Ending.{Ending}
use Rattle.sh_jobs.specs.declared.state.Ending.TheVariants.{Exited, Signaled}
use Rattle.sh_jobs.specs.declared.state.JobState.{JobState}
use Rattle.sh_jobs.specs.declared.state.JobState.TheVariants.{Running, Suspended, Done}

-- a signal by its name with SIG; a number that is no signal's by its digits
abbrev pub name_or_number : ℕ → Option Signal → List ℕ
name_or_number number None = decimal number
name_or_number number (Some signal) = codes "SIG" ++ name_of signal

abbrev pub signal_text : ℕ → List ℕ
signal_text number = name_or_number number (signal_with_number number)

abbrev pub in_parentheses : List ℕ → List ℕ
in_parentheses text = codes " (" ++ text ++ 41 ∷ []

abbrev pub done_word : ℕ → List ℕ
done_word status = codes "Done" ++ (if status == 0 then [] else 40 ∷ decimal status ++ 41 ∷ [])

abbrev pub ending_word : Ending → List ℕ
ending_word (Exited status) = done_word status
ending_word (Signaled signal) = codes "Terminated" ++ in_parentheses (signal_text signal)

abbrev pub word : JobState → List ℕ
word Running = codes "Running"
word (Suspended signal) = codes "Stopped" ++ in_parentheses (signal_text signal)
word (Done ending) = ending_word ending
