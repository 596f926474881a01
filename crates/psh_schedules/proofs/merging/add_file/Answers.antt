use Rattle.std.proofs.Common.{sym}
use Rattle.psh_schedules.proofs.merging.add_file.Goals as goal

pub returns-clause-joined : goal.returns-clause-joined
returns-clause-joined g c = λ nodes is. rw (sym c.as_slice-kept.ensures.value) (c.in-Ok.ensures.joined nodes is)
