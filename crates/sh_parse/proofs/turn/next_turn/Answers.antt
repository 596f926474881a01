use Rattle.sh_token.specs.declared.token.TokenFault.{TokenFault}
use Rattle.sh_parse.proofs.Turning.{taken_turns, end_turns, none_turns}
use Rattle.sh_parse.proofs.turn.next_turn.Goals as goal

pub returns-in_default : goal.returns-in_default
returns-in_default c =
    taken_turns c.args.command.now.aliases c.args.at_end c.args.command.now.text c.args.judged c.args.waiting c.args.at c.in-Ok.item c.first_nul-nul.result c.take.result (rw c.text-text.ensures at c.first_nul-nul.ensures)
    (rw c.text-text.ensures at c.in-Ok.ensures.answers) c.in_default.not-End (rw c.text-text.ensures at c.in-Ok.ensures.placed) c.requires.inside (c.take.ensures c.args.at_end)

pub returns-in-End : goal.returns-in-End
returns-in-End c =
    rw c.turn_of.ensures
    (end_turns c.args.command.now.aliases c.args.at_end c.args.command.now.text c.args.judged c.args.waiting c.args.at c.in-Ok.item c.end.result (rw c.text-text.ensures at c.in-Ok.ensures.answers) c.in-End.is
    (rw c.text-text.ensures at (c.end.ensures c.args.at_end c.args.waiting)))

pub returns-in-Err-Unfinished : goal.returns-in-Err-Unfinished
returns-in-Err-Unfinished c =
    rw c.turn_of-in-Err-Unfinished.ensures
    (none_turns c.args.command.now.aliases c.args.at_end c.args.command.now.text c.args.judged c.args.waiting c.args.at TokenFault.Unfinished c.cut.result
    (rw (c.text-text.ensures, c.in-Err-Unfinished.field-0-is) at c.in-Err-Unfinished.ensures.answers) (λ x. x) (rw c.text-text.ensures at c.cut.ensures))

pub returns-in-Err-TooDeep : goal.returns-in-Err-TooDeep
returns-in-Err-TooDeep c =
    rw c.turn_of-in-Err-TooDeep.ensures
    (none_turns c.args.command.now.aliases c.args.at_end c.args.command.now.text c.args.judged c.args.waiting c.args.at (TokenFault.TooDeep c.in-Err-TooDeep.field-0-0) c.cut-in-Err-TooDeep.result
    (rw (c.text-text.ensures, c.in-Err-TooDeep.field-0-is) at c.in-Err-TooDeep.ensures.answers) (λ x. x) (rw c.text-text.ensures at c.cut-in-Err-TooDeep.ensures))
