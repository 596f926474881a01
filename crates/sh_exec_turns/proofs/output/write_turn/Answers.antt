use Rattle.std.proofs.Common.{ap, refl, subst, ◌∙◌}
use Rattle.sh_exec_forms.specs.Running.{At}
use Rattle.sh_exec_waiting.specs.Writing.{written_by}
use Rattle.sh_exec_machine.specs.Transfers.{HasGiven, give_bytes}
use Rattle.sh_exec_turns.specs.Acting.{write_turn}
use Rattle.sh_exec_turns.proofs.output.write_turn.Goals as goal

pub returns-clause-state : goal.returns-clause-state
unfolding write_turn
returns-clause-state c s stands =
    let g = subst
    (λ bytes. HasGiven c.give_bytes.new.kernel c.in_ok-given.given (give_bytes s c.args.shell.now.pid c.args.piece.descriptor bytes))
    c.as_slice.ensures (c.in_ok-given.ensures.state s stands) in
    record { state = g.state; shell_is = refl; run = ap At (c.in_ok-active.ensures ∙ ap (written_by c.args.piece c.args.finish) g.answer) }
