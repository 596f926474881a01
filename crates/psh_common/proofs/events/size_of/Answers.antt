use Rattle.std.proofs.Common.{sym}
use Rattle.psh_common.proofs.Reading.{size_of-more}
use Rattle.psh_common.proofs.events.size_of.Goals as goal

pub returns-in-Some : goal.returns-in-Some
returns-in-Some c = rw c.in-Some.is (sym (size_of-more c.args.text.now c.in-Some.field-0.now))
