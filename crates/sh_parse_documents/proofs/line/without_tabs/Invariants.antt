use Rattle.std.proofs.Common.{◌≡◌, ◌≤◌, length}
use Rattle.sh_token_pieces.specs.Here.{without_tabs}
use Rattle.sh_parse_documents.proofs.line.without_tabs.Given as goal

abbrev pub invariant-loop-first : goal.invariant-loop-first
invariant-loop-first l = (without_tabs l.rest ≡ without_tabs l.line) × (length l.rest ≤ length l.line)

abbrev pub decreases-loop-first : goal.decreases-loop-first
decreases-loop-first l = length l.rest
