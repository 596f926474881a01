use Rattle.std.proofs.Common.{◌≡◌, ◌++◌, ◌-◌}
use Rattle.sh_parse_documents.specs.Documents.{places_from}
use Rattle.sh_parse_documents.proofs.cut.push_places.Given as goal

abbrev pub invariant-loop-place : goal.invariant-loop-place
invariant-loop-place l = l.places.items ++ places_from l.place (l.place-end - l.place) ≡ l.fn.places.items ++ places_from l.start l.count
