-- The tokens of a text as a value of the program.
use Rattle.std.specs.Prelude.{ℕ, Option, Some, None}
use Rattle.sh_parse_documents.specs.declared.items.Items.{Items as Found}
use Rattle.sh_parse_documents.specs.Stream.{Ending, AtEnd, Cut, Items}

abbrev pub ending_of : Option ℕ → Ending
ending_of None = AtEnd
ending_of (Some at) = Cut at

abbrev pub all_items : Found → Items
all_items found = record { items = found.items.items; ending = ending_of found.cut }
