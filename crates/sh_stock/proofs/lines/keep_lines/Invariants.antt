use Rattle.std.proofs.Common.{◌≡◌, ◌++◌, drop}
use Rattle.sh_stock.specs.Lines.{kept_lines, unfinished_line}
use Rattle.sh_stock.proofs.lines.keep_lines.Given as goal

abbrev pub invariant-bytes : goal.invariant-bytes
invariant-bytes l = record {
  kept : l.kept ++ kept_lines l.text l.line (drop l.byte-index l.bytes) ≡ kept_lines l.text l.fn.line l.bytes;
  line : unfinished_line l.line (drop l.byte-index l.bytes) ≡ unfinished_line l.fn.line l.bytes;
}
