use Rattle.sh_tty.specs.Keys.{echo}
use Rattle.sh_tty.proofs.tty.Tty.key.Goals as goal

pub returns-clause-extends : goal.returns-clause-extends
returns-clause-extends c = (echo c.of-key.result c.self.inside.line.items, rw (← c.self.view_is) c.in_ok-press.ensures.bytes)
