-- What the scanner's calls answer, against the machine.
use Rattle.sh_token_scanner.specs.declared.step.Step.{Step}
use Rattle.sh_token_scanner.specs.declared.scanner.Event.{Event}
use Rattle.sh_token_scanner.specs.declared.scanner.Outcome.{Outcome}
use Rattle.sh_token_scanner.specs.declared.scanner.Ending.{Ending as Told}
use Rattle.sh_token_scanner.specs.declared.scanner.Marked.{Marked}
use Rattle.sh_token_scanner.specs.Machine.{State, Stepped, On, Before, After, TooDeep, DollarTooDeep, WordTooDeep}
use Rattle.sh_token_scanner.specs.Run.{Fed, Waits, Takes, Scanned, Ended, Deep, Open, Places, Ending, EndsIn, EndsDeep, EndsNot}

abbrev pub with_state : Step → State → Stepped
with_state Step.On s = On s
with_state Step.Before s = Before s
with_state Step.After s = After s
with_state Step.TooDeep s = TooDeep s
with_state Step.DollarTooDeep s = DollarTooDeep s
with_state Step.WordTooDeep s = WordTooDeep s

abbrev pub event : Event → State → Fed
event (Event.Waits h) s = Waits h s
event (Event.Takes step) s = Takes (with_state step s)

abbrev pub outcome : Outcome → Scanned
outcome (Outcome.Ended state prefix rest) = Ended state prefix.now rest.now
outcome (Outcome.Deep rest) = Deep rest.now
outcome (Outcome.Open form) = Open form.now

abbrev pub places : Marked → Places
places m = record { prefix = m.prefix.now; previous = m.previous.now; behind = m.behind.now; next = m.next.now; form = m.form.now; word = m.word.now }

abbrev pub ending : Told → State → Ending
ending Told.Ended s = EndsIn s
ending Told.TooDeep s = EndsDeep
ending Told.Open s = EndsNot
