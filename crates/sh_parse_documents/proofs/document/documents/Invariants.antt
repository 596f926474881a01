use Rattle.std.proofs.Common.{◌≡◌, ◌≤◌, ◌++◌, length}
use Rattle.sh_parse_documents.specs.Documents.{documents, cut_all, between}
use Rattle.sh_parse_documents.specs.Cutting.{lines_before}
use Rattle.sh_parse_documents.proofs.document.documents.Given as goal

abbrev pub invariant-loop-delimiter : goal.invariant-loop-delimiter
invariant-loop-delimiter l =
    (l.found.items ++ cut_all l.«end» l.due (lines_before l.«end» l.rest) ≡ documents l.due-2 l.start (between l.start l.stop l.text)) × (length l.rest ≤ l.«end»)

abbrev pub decreases-loop-delimiter : goal.decreases-loop-delimiter
decreases-loop-delimiter l = length l.due
