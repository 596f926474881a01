use Rattle.std.proofs.Common.{◌<◌, ◌∙◌, ap, sym, arith}
use Rattle.sh_exec_command.specs.Reading.{next_command}
use Rattle.sh_exec_command.specs.declared.found.Answer.TheVariants as answer
use Rattle.sh_exec_command.specs.declared.found.Found.TheVariants.{Command, Fault}
use Rattle.sh_exec_parts.specs.declared.message.Refusal.TheVariants as refusal
use Rattle.sh_exec_command.proofs.Finding.{by_command, by_fault, by_nothing, by_blank, by_unclosed, not_empty, told_of}
use Rattle.sh_exec_command.proofs.reading.find_command.Goals as goal

pub returns-then-used-eq0 : goal.returns-then-used-eq0
returns-then-used-eq0 c =
    let some = not_empty c.lines.rest _ c.as_slice.ensures (sym c.is_empty.ensures ∙ c.lines-test.true) in
    let told = told_of c.args.aliases.now c.lines.rest _ _ _ c.as_slice-in-lines.ensures c.in_ok-tree.ensures (c.in-Blank.is ∙ ap answer.Blank c.if-used-eq0.true) in
    by_nothing c.args.aliases.now c.lines.rest some told ∙ sym c.lines.invariant

pub lines-preserved : goal.lines-preserved
lines-preserved c =
    let some = not_empty c.lines.rest _ c.as_slice.ensures (sym c.is_empty.ensures ∙ c.lines-test.true) in
    let above : 0 < c.in-Blank.used = omega arith in
    let told = told_of c.args.aliases.now c.lines.rest _ _ _ c.as_slice-in-lines.ensures c.in_ok-tree.ensures c.in-Blank.is in
    c.lines.invariant ∙ by_blank c.args.aliases.now c.lines.rest some c.in-Blank.used above told ∙ ap (next_command c.args.aliases.now) (sym c.skip-in-Blank.ensures)

pub returns-in-Fault : goal.returns-in-Fault
returns-in-Fault c =
    let some = not_empty c.lines.rest _ c.as_slice.ensures (sym c.is_empty.ensures ∙ c.lines-test.true) in
    let told = told_of c.args.aliases.now c.lines.rest _ _ _ c.as_slice-in-lines.ensures c.in_ok-tree.ensures c.in-Fault.is in
    ap (Fault c.in-Fault.refusal) c.skip-in-Fault.ensures ∙ by_fault c.args.aliases.now c.lines.rest some c.in-Fault.refusal c.in-Fault.used told ∙ sym c.lines.invariant

pub returns-in-Unclosed : goal.returns-in-Unclosed
returns-in-Unclosed c =
    let some = not_empty c.lines.rest _ c.as_slice.ensures (sym c.is_empty.ensures ∙ c.lines-test.true) in
    let told = told_of c.args.aliases.now c.lines.rest _ _ _ c.as_slice-in-lines.ensures c.in_ok-tree.ensures c.in-Unclosed.is in
    ap (Fault refusal.Syntax) (c.new-in-Unclosed.ensures ∙ c.new.ensures) ∙ by_unclosed c.args.aliases.now c.lines.rest some told ∙ sym c.lines.invariant

pub returns-in-Command : goal.returns-in-Command
returns-in-Command c =
    let some = not_empty c.lines.rest _ c.as_slice.ensures (sym c.is_empty.ensures ∙ c.lines-test.true) in
    let told = told_of c.args.aliases.now c.lines.rest _ _ _ c.as_slice-in-lines.ensures c.in_ok-tree.ensures c.in-Command.is in
    ap (Command c.in-Command.tree) c.skip.ensures ∙ by_command c.args.aliases.now c.lines.rest some c.in-Command.tree c.in-Command.used told ∙ sym c.lines.invariant
