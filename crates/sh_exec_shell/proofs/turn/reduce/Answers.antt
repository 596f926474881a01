use Rattle.sh_exec_forms.specs.Stacks.{run_of}
use Rattle.sh_exec_shell.proofs.Frames.{turned}
use Rattle.sh_exec_shell.proofs.turn.reduce.Goals as goal

-- the action leaves what is settled
pub returns-in-Ok-clause-state : goal.returns-in-Ok-clause-state
returns-in-Ok-clause-state c = λ s h.
    let acted = c.in_ok-active.ensures.state s h in
    turned s c.args.shell.now c.args.frames.now c.args.active c.settle.new.kernel c.act.new.shell c.settle.new.shell
    (run_of c.act.new.frames c.in_ok-active.active) (run_of c.settle.new.frames c.in-Ok.active) c.in_ok-active.child
    acted.shell_is acted.run acted.child (c.in-Ok.ensures.state _ acted.state)
