use Rattle.std.proofs.Common.{◌-◌, length}
use Rattle.sh_parse_documents.proofs.Scanning.{Scans}
use Rattle.sh_parse_documents.proofs.items.scan_items.Given as goal

abbrev pub invariant-loop-item : goal.invariant-loop-item
invariant-loop-item l = Scans l.at_end l.text l.items.items l.waiting l.at

abbrev pub decreases-loop-item : goal.decreases-loop-item
decreases-loop-item l = length l.text - l.at
