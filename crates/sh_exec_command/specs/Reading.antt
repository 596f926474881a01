-- The next complete command of a text that is there whole (XCU 2.1): a shell reads one by the aliases that it has then (2.3.1), runs it, and
-- reads the next.
use Rattle.std.specs.Prelude.{ℕ, zero, suc, List, [], ◌∷◌, drop, Bool, true, Result, Ok, Err}
use Rattle.sh_aliases.specs.Aliases.{AliasTable}
use Rattle.sh_parse.specs.Reading.{reading}
use Rattle.sh_parse.specs.declared.Reading.{Reading}
use Rattle.sh_parse.specs.declared.Reading.TheVariants.{Complete, Blank, More}
use Rattle.sh_parse.specs.declared.ParseFault.{ParseFault}
use Rattle.sh_parse.specs.declared.ParseFault.TheVariants.{Refused, Unclosed, BadSubstitution, TooDeep, NoMemory}
use Rattle.sh_exec_command.specs.declared.found.InputFound.{InputFound}
use Rattle.sh_exec_command.specs.declared.found.InputFound.TheVariants as input
use Rattle.sh_exec_command.specs.declared.found.Found.{Found}
use Rattle.sh_exec_command.specs.declared.found.Found.TheVariants.{Nothing, Command, Fault}
use Rattle.sh_exec_command.specs.declared.found.Answer.{Answer}
use Rattle.sh_exec_command.specs.declared.found.Answer.TheVariants as answer
use Rattle.sh_exec_parts.specs.declared.message.Refusal.TheVariants as refusal

-- what a reading of a text that is there whole answers
abbrev pub answer_of : Result Reading ParseFault → Answer
answer_of (Ok (Complete tree used)) = answer.Command tree used
answer_of (Ok (Blank used)) = answer.Blank used
answer_of (Ok More) = answer.Fault refusal.Syntax 0
answer_of (Err (Refused at used)) = answer.Fault refusal.Syntax used
answer_of (Err (Unclosed at)) = answer.Unclosed
answer_of (Err (BadSubstitution at used)) = answer.Fault refusal.BadSubstitution used
answer_of (Err (TooDeep at used)) = answer.Fault refusal.TooDeep used
answer_of (Err (NoMemory _)) = answer.Fault refusal.Syntax 0

-- what is found by such an answer; a blank text leads on to the bytes after it
abbrev pub found_by : Answer → List ℕ → (ℕ → Found) → Found
found_by (answer.Command tree used) text on = Command tree (drop used text)
found_by (answer.Blank zero) text on = Nothing
found_by (answer.Blank (suc count)) text on = on count
found_by (answer.Fault refusal used) text on = Fault refusal (drop used text)
found_by answer.Unclosed text on = Fault refusal.Syntax []

-- what is found in a text after so many bytes
abbrev pub found_behind : AliasTable → List ℕ → ℕ → Found
found_behind aliases [] count = Nothing
found_behind aliases (byte ∷ bytes) (suc count) = found_behind aliases bytes count
found_behind aliases (byte ∷ bytes) zero = found_by (answer_of (reading aliases true (byte ∷ bytes))) (byte ∷ bytes) (found_behind aliases bytes)

-- what a reading turn finds in the rest of a text
abbrev pub next_command : AliasTable → List ℕ → Found
next_command aliases text = found_behind aliases text 0

-- ---- what an interactive shell has read so far by descriptor 0; at the end of the file no more follows
abbrev pub input_by : Result Reading ParseFault → (text : List ℕ) → InputFound
input_by (Ok (Complete tree used)) text = input.Command tree (drop used text)
input_by (Ok (Blank used)) text = input.Blank (drop used text)
input_by (Ok More) text = input.More text
input_by (Err (Refused at used)) text = input.Fault refusal.Syntax
input_by (Err (Unclosed at)) text = input.Fault refusal.Syntax
input_by (Err (BadSubstitution at used)) text = input.Fault refusal.BadSubstitution
input_by (Err (TooDeep at used)) text = input.Fault refusal.TooDeep
input_by (Err (NoMemory _)) text = input.Fault refusal.Syntax

abbrev pub input_found : AliasTable → (is_end : Bool) → (text : List ℕ) → InputFound
input_found aliases is_end text = input_by (reading aliases is_end text) text
