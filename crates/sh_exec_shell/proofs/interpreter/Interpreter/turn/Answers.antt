use Rattle.std.proofs.Common.{ap, subst, sym, ◌∙◌}
use Rattle.sh_exec_forms.specs.Stacks.{run_of}
use Rattle.sh_exec_shell.specs.Forks.{IsTurned}
use Rattle.sh_exec_shell.specs.Reduction.{shell_turn}
use Rattle.sh_exec_shell.proofs.Frames.{shell_turned}
use Rattle.sh_exec_shell.proofs.interpreter.Interpreter.turn.Goals as goal

-- what the reduction leaves behind what came first, with the end of the process at the root
pub returns-clause-state : goal.returns-clause-state
returns-clause-state c = λ s h.
    let forms = c.reduce.new.frames in
    subst (λ made. IsTurned c.reduce.new.kernel c.reduce.new.shell (run_of forms c.replace.new.dest) made (shell_turn s c.args.self.now)) (sym c.unboxed.ensures)
    (shell_turned s c.args.self.now c.self.inside.shell c.self.inside.frames c.replace-active.result
    c.drop_first.new.kernel c.drop_first.new.shell (run_of c.drop_first.new.frames c.in_ok-active.active)
    c.reduce.new.kernel c.reduce.new.shell (run_of forms c.in_ok-next.next) (run_of forms c.replace.new.dest) c.in_ok-next.child
    (cc) (c.in_ok-active.ensures.state s h) c.in_ok-next.ensures.state (ap (run_of forms) c.replace.ensures.after ∙ c.root.ensures))
