use Rattle.std.proofs.Common.{sym, ap, ◌∙◌, Some}
use Rattle.sh_parse_commands.specs.Documents.{bodies_of}
use Rattle.sh_parse_commands.specs.Programs.{read_text}
use Rattle.sh_parse.specs.Reading.{complete_answer}
use Rattle.sh_parse.proofs.Lines.{whole_said, whole_tells}
use Rattle.sh_parse.proofs.turn.tell.Goals as goal

pub returns-then-is_whole : goal.returns-then-is_whole
returns-then-is_whole c =
    rw c.turn_of.ensures
    (whole_tells c.args.command.now.aliases c.args.command.now.text c.args.judged c.args.waiting c.args.newline c.args.nul c.complete.result
    (complete_answer c.in-Ok.prefix c.args.newline.«end» (bodies_of (read_text c.args.command.now.aliases) 500 c.args.command.now.text c.due_at-due.result.now c.args.newline))
    (whole_said c.args.command.now.aliases c.args.command.now.text c.args.waiting c.args.newline c.args.judged c.in-Ok.prefix c.in-Ok.is (sym c.is_none.ensures ∙ c.if-is_none.false) (sym c.is_whole.ensures ∙ c.if-is_whole.true)
    ∙ ap (λ d. Some (complete_answer c.in-Ok.prefix c.args.newline.«end» (bodies_of (read_text c.args.command.now.aliases) 500 c.args.command.now.text d c.args.newline))) (sym c.due_at-due.ensures))
    c.complete.ensures)
