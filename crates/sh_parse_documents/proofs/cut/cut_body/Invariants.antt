use Rattle.std.proofs.Common.{◌≡◌, ◌≤◌, length, false}
use Rattle.sh_parse_documents.specs.Documents.{cut_of}
use Rattle.sh_parse_documents.specs.Cutting.{lines_before, behind_taken}
use Rattle.sh_parse_documents.proofs.cut.cut_body.Given as goal

abbrev pub invariant-loop-place : goal.invariant-loop-place
invariant-loop-place l =
    (behind_taken l.text.items l.places.items (cut_of l.stop l.delimiter l.joined (lines_before l.stop l.rest)) ≡ cut_of l.stop l.delimiter false (lines_before l.stop l.bytes))
    × (length l.rest ≤ l.stop)

abbrev pub decreases-loop-place : goal.decreases-loop-place
decreases-loop-place l = length l.rest
