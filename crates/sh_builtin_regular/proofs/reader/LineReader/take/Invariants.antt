use Rattle.std.proofs.Common.{◌≡◌, length}
use Rattle.sh_builtin_regular.specs.Lines.{bytes_taken}
use Rattle.sh_builtin_regular.proofs.reader.LineReader.take.Given as goal

abbrev pub invariant-bytes : goal.invariant-bytes
invariant-bytes l = bytes_taken l.self l.rest ≡ bytes_taken l.fn.self l.bytes

abbrev pub decreases-bytes : goal.decreases-bytes
decreases-bytes l = length l.rest
