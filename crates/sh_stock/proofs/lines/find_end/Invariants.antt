use Rattle.std.proofs.Common.{◌≡◌, ◌-◌, ◌++◌, take, drop}
use Rattle.sh_stock.specs.Lines.{first_lines, newlines}
use Rattle.sh_stock.proofs.lines.find_end.Given as goal

abbrev pub invariant-bytes : goal.invariant-bytes
invariant-bytes l = record {
  prefix : take l.len l.bytes ++ first_lines l.missing (drop l.len l.bytes) ≡ first_lines l.lines l.bytes;
  missing : l.missing - newlines (drop l.len l.bytes) ≡ l.lines - newlines l.bytes;
}
