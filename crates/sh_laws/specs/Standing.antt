-- The place of a fault: in the bytes from one place up to, not including, another. Want of memory has no
-- place, and nothing is said of it.
use Rattle.std.specs.Prelude.{ℕ, ◌≤◌, ◌<◌, Ok, Err}
use Rattle.sh_parse_words.specs.declared.fault.PartFault.{PartFault}
use Rattle.sh_parse_words.specs.declared.fault.PartFault.TheVariants as fault
use Rattle.sh_parse.specs.Reading.{Answer}
use Rattle.sh_parse.specs.declared.ParseFault.TheVariants.{Refused, Unclosed, BadSubstitution, TooDeep, NoMemory}

abbrev pub Stands : ℕ → ℕ → PartFault → Type 0
Stands start stop (fault.BadSubstitution at) = (start ≤ at) × (at < stop)
Stands start stop (fault.TooDeep at) = (start ≤ at) × (at < stop)
Stands start stop (fault.Refused at) = (start ≤ at) × (at < stop)
Stands start stop (fault.NoMemory _) = Unit {0}

-- the place of a fault of a text is before the decision place at which the fault is told; what is unclosed is
-- told at the text's end
abbrev pub StandsBefore : Answer → Type 0
StandsBefore (Ok r) = Unit {0}
StandsBefore (Err (Refused at used)) = at < used
StandsBefore (Err (BadSubstitution at used)) = at < used
StandsBefore (Err (TooDeep at used)) = at < used
StandsBefore (Err (Unclosed at)) = Unit {0}
StandsBefore (Err (NoMemory _)) = Unit {0}
