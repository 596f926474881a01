use Rattle.std.proofs.Common.{◌<◌, ◌≤◌, length, sym, subst}
use Rattle.sh_exec_shell.proofs.Frames.{alone, rooted_within}
use Rattle.sh_exec_shell.proofs.interpreter.root.Goals as goal

-- with a form round the place nothing is at the root
pub returns-in-len1-up : goal.returns-in-len1-up
returns-in-len1-up c =
    sym (rooted_within c.args.shell.now c.args.frames.now c.args.active (subst (λ forms. 1 ≤ length forms) c.as_slice.ensures c.in-len1-up.len_at_least))

-- with none all is at the root
pub returns-in-empty : goal.returns-in-empty
returns-in-empty c =
    alone c.args.shell.now c.args.frames.now c.args.active c.at_end.result (subst (λ frames. length frames < 1) c.as_slice.ensures c.in-empty.len_below) c.at_end.ensures
