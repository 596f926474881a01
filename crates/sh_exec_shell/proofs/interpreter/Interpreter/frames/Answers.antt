use Rattle.std.proofs.Common.{ap, sym}
use Rattle.sh_exec_forms.specs.Running.{InterpreterState}
use Rattle.sh_exec_shell.proofs.Frames.{tree_within}
use Rattle.sh_exec_shell.proofs.interpreter.Interpreter.frames.Goals as goal

pub returns-clause-tree : goal.returns-clause-tree
returns-clause-tree c =
    tree_within c.as_slice.result.now c.self.inside.frames c.self.inside.active c.args.self.now.run c.as_slice.ensures
    (sym (ap (λ (it : InterpreterState). it.run) c.self.view_is))
