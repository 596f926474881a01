use Rattle.std.proofs.Common.{◌∙◌}
use Rattle.sh_exec_machine.proofs.Undoing.{goes_on}
use Rattle.sh_exec_machine.proofs.undo.end_redirections.Goals as goal

pub undone-preserved : goal.undone-preserved
undone-preserved c = ((λ s h. goes_on c.args.stay c.args.pid c.undone.undone c.pop.new.self _ c.in-Some.one c.undone.kernel c.end_redirection.new.kernel s c.in-Some.ensures.items c.end_redirection.ensures.state (c.undone.invariant.0 s h)), (c.end_redirection.ensures.terminal ∙ c.undone.invariant.1), (c.end_redirection.ensures.watch ∙ c.undone.invariant.2))
