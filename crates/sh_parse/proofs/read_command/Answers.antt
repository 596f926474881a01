use Rattle.sh_parse.proofs.Turning.{begins, goes_on, decides, fails}
use Rattle.sh_parse.proofs.read_command.Goals as goal

pub loop-turn-init : goal.loop-turn-init
loop-turn-init c = rw (c.in_ok-prefix.ensures, c.new-waiting.ensures) (begins c.args.aliases.now c.args.at_end c.args.text.now)

pub loop-turn-preserved : goal.loop-turn-preserved
loop-turn-preserved c = goes_on c.args.aliases.now c.args.at_end c.args.text.now c.loop-turn.judged c.in-On.next c.loop-turn.waiting c.in-On.left c.loop-turn.at c.in-On.place c.loop-turn.nul c.in-On.first c.loop-turn.invariant (rw c.new-command.ensures at (rw c.in-On.is at c.in-Ok.ensures))

pub returns-in-Read : goal.returns-in-Read
returns-in-Read c = decides c.args.aliases.now c.args.at_end c.args.text.now c.loop-turn.judged c.loop-turn.waiting c.loop-turn.at c.loop-turn.nul c.in-Read.reading c.loop-turn.invariant (rw c.new-command.ensures at (rw c.in-Read.is at c.in-Ok.ensures))

pub returns-in-Err : goal.returns-in-Err
returns-in-Err c =
    fails c.args.aliases.now c.args.at_end c.args.text.now c.loop-turn.judged c.loop-turn.waiting c.loop-turn.at c.loop-turn.nul c.in-Err.fault c.loop-turn.invariant (rw c.new-command.ensures at c.in-Err.ensures)
