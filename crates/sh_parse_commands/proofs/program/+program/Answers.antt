use Rattle.std.proofs.Common.{◌≡◌, suc, ◌-◌, true, Some, None, sym, ap, subst, ◌∙◌, arith}
use Rattle.std.proofs.lemmas.Grind.{common_steps}
use Rattle.sh_token_grammar.specs.Shell.{substitution}
use Rattle.sh_parse_documents.specs.Waiting.{nothing}
use Rattle.sh_parse_documents.specs.Stream.{waiting_behind}
use Rattle.sh_parse_documents.specs.Scanned.{all_items}
use Rattle.sh_parse_leaves.specs.Results.{Gives, GivesFault}
use Rattle.sh_parse_leaves.specs.Leaves.{name_size, assignment_leaf}
use Rattle.sh_parse_leaves.specs.Words.{within}
use Rattle.sh_parse_commands.specs.Judging.{none_of, with_input, takes}
use Rattle.sh_parse_commands.specs.Programs.{inside_at, reader_at}
use Rattle.std.specs.Option.{option_map}
use Rattle.sh_parse_commands.specs.Replacing.{origin, with_tokens}
use Rattle.sh_parse_commands.proofs.Steps.{answer_fault, none_left, parts_done, piece_answered, word_plain, word_assigned, bodies_fault, bodies_done, item_taken}
use Rattle.sh_parse_commands.proofs.Replaced.{plain, replaced, value_fault, tokens_fault, tokens_next, tokens_taken, text_fault, text_ended}
use Rattle.sh_parse_commands.proofs.program.+program.Goals as goal

pub answer-returns : goal.answer-returns
answer-returns t c =
    answer_fault (reader_at c.args.scope.aliases.now c.args.scope.from.now c.args.scope.depth) c.args.text.now c.args.request.now c.as_slice.result.now c.in-Err.fault c.fault_in.result c.level_fault.result (c.as_slice.ensures.value ∙ c.in_ok-inner.ensures) c.in-Err.ensures c.fault_in.ensures c.level_fault.ensures

pub bodies_within-returns-in-Err : goal.bodies_within-returns-in-Err
bodies_within-returns-in-Err t c =
    bodies_fault (reader_at c.args.scope.aliases.now c.args.scope.from.now c.args.scope.depth) c.args.left c.args.text.now c.args.due.now c.args.item.now c.as_slice-rest.result.now c.loop-document.rest.now c.new-bodies.result.items c.loop-document.bodies.items c.in-Some.document.now c.in-Some.others.now c.in-Err.fault
    (c.as_slice-rest.ensures.value ∙ c.in_ok-found.ensures) c.new-bodies.ensures.items c.loop-document.invariant (let h = c.in-Some.ensures.cases.0 in cc) c.in-Err.ensures

pub bodies_within-returns : goal.bodies_within-returns
bodies_within-returns t c =
    bodies_done (reader_at c.args.scope.aliases.now c.args.scope.from.now c.args.scope.depth) c.args.left c.args.text.now c.args.due.now c.args.item.now c.as_slice-rest.result.now c.loop-document.rest.now c.new-bodies.result.items c.loop-document.bodies.items
    (c.as_slice-rest.ensures.value ∙ c.in_ok-found.ensures) c.new-bodies.ensures.items c.loop-document.invariant (none_left c.loop-document.rest.now c.in_default.ensures.cases)

pub judge_within-returns-in_ok-put-in-Ok-bodies_within : goal.judge_within-returns-in_ok-put-in-Ok-bodies_within
judge_within-returns-in_ok-put-in-Ok-bodies_within t c =
    let yes : c.in_ok-show.field-0 ≡ true = (let f = c.if-not-branch.false in cc) in
    item_taken (reader_at c.args.scope.aliases.now c.args.scope.from.now c.args.scope.depth) c.args.left c.args.text.now c.args.due.now c.args.item.now c.args.prefix.now c.show.new.self c.put.new.self c.open-open.result c.in-Ok.leaf c.in-Ok-bodies_within.bodies.items
    (c.in_ok-show.ensures.with yes ∙ ap (λ z. with_input c.args.prefix.now z) c.in_ok-input.ensures)
    (ap takes (c.in_ok-show.ensures.with yes) ∙ sym c.in_ok-show.ensures.taken ∙ yes)
    c.open-open.ensures (grind (arith, common_steps, c.if-left-open.false)) c.in-Ok.ensures c.in-Ok-bodies_within.ensures c.in_ok-put-in-Ok-bodies_within.ensures

pub parts_in-returns : goal.parts_in-returns
parts_in-returns t c =
    parts_done (reader_at c.args.scope.aliases.now c.args.scope.from.now c.args.scope.depth) c.args.left c.args.text.now c.args.pieces.now c.args.bytes.now c.loop-piece.builder c.loop-piece.rest.now c.loop-piece.behind.now c.in_ok-parts.parts
    c.loop-piece.invariant (none_left c.loop-piece.rest.now c.in_default.ensures.cases) c.in_ok-parts.ensures

pub put_piece-returns-in_ok-put_program-in-Ok : goal.put_piece-returns-in_ok-put_program-in-Ok
put_piece-returns-in_ok-put_program-in-Ok t c =
    piece_answered (reader_at c.args.scope.aliases.now c.args.scope.from.now c.args.scope.depth) c.args.text.now c.args.builder.now c.args.piece.now c.args.is_empty c.args.bytes.now c.take_piece.new.builder c.put_program.new.self c.in-Ok-Some.request c.in-Ok.program c.in_ok-program-in-Ok.program
    (let e = c.in-Ok-Some.ensures in let q = c.in-Ok-Some.field-0-is in cc) c.in-Ok.ensures c.in_ok-program-in-Ok.ensures c.in_ok-put_program-in-Ok.ensures

pub word_leaf-returns-in_ok-leaf-in-Ok : goal.word_leaf-returns-in_ok-leaf-in-Ok
word_leaf-returns-in_ok-leaf-in-Ok t c =
    let n : name_size c.in_ok-prefix.prefix.items ≡ None = ap name_size (sym c.as_slice.ensures.value) ∙ sym c.name_size.ensures ∙ c.in_default.is in
    word_plain (reader_at c.args.scope.aliases.now c.args.scope.from.now c.args.scope.depth) c.args.left c.args.text.now c.args.pieces.now c.args.span c.in_ok-prefix.prefix.items c.text_from-bytes.result.now c.text_between-source.result.now c.in-Ok.parts c.in_ok-leaf-in-Ok.leaf
    c.text_from-bytes.ensures c.text_between-source.ensures c.in_ok-prefix.ensures n c.in-Ok.ensures c.in_ok-leaf-in-Ok.ensures

pub word_leaf-returns-in-Ok-parts_in : goal.word_leaf-returns-in-Ok-parts_in
word_leaf-returns-in-Ok-parts_in t c =
    let n : name_size c.in_ok-prefix.prefix.items ≡ Some c.in-Some.size = ap name_size (sym c.as_slice.ensures.value) ∙ sym c.name_size.ensures ∙ c.in-Some.is in
    word_assigned (reader_at c.args.scope.aliases.now c.args.scope.from.now c.args.scope.depth) c.args.left c.args.text.now c.args.pieces.now c.args.span c.in_ok-prefix.prefix.items c.text_from-bytes.result.now c.text_between-source.result.now c.in-Some.size c.pieces_through.result.now c.pieces_behind-others.result.now c.behind_pieces-behind.result.now c.in-Ok-parts_in.value c.in_ok-leaf-in-Ok-parts_in.leaf
    c.text_from-bytes.ensures c.text_between-source.ensures c.in_ok-prefix.ensures n c.pieces_behind-others.ensures c.pieces_through.ensures c.behind_pieces-behind.ensures c.in-Ok-parts_in.ensures
    (c.in_ok-leaf-in-Ok-parts_in.ensures ∙ ap (λ z. assignment_leaf z c.in-Some.size c.in-Ok-parts_in.value c.text_between-source.result.now) c.as_slice-in-Ok-parts_in.ensures.value)

pub judge_token-returns-in_default : goal.judge_token-returns-in_default
judge_token-returns-in_default t c =
    plain c.args.scope.aliases.now (inside_at c.args.scope.aliases.now c.args.scope.depth) (origin c.args.scope.from.now c.args.left c.args.text.now) c.args.due.now c.args.item.now c.args.prefix.now c.judge_within.new.prefix c.judge_within.result
    (sym c.in_ok-alias.ensures ∙ ap (option_map (λ alias. alias.now)) c.in_default.is) c.judge_within.ensures

pub judge_token-returns-in-Ok : goal.judge_token-returns-in-Ok
judge_token-returns-in-Ok t c =
    replaced c.args.scope.aliases.now (inside_at c.args.scope.aliases.now c.args.scope.depth) (origin c.args.scope.from.now c.args.left c.args.text.now) c.args.due.now c.args.item.now c.in-Some.alias.now c.args.prefix.now c.judge_value.new.prefix c.end_value.new.self
    (sym c.in_ok-alias.ensures ∙ ap (option_map (λ alias. alias.now)) c.in-Some.is) c.in-Ok.ensures c.end_value.ensures

pub judge_token-returns-in-Err : goal.judge_token-returns-in-Err
judge_token-returns-in-Err t c =
    value_fault c.args.scope.aliases.now (inside_at c.args.scope.aliases.now c.args.scope.depth) (origin c.args.scope.from.now c.args.left c.args.text.now) c.args.due.now c.args.item.now c.in-Some.alias.now c.args.prefix.now c.in-Err.fault c.fault_of_value.result
    (sym c.in_ok-alias.ensures ∙ ap (option_map (λ alias. alias.now)) c.in-Some.is) c.in-Err.ensures c.fault_of_value.ensures

pub program-returns-in-Ok : goal.program-returns-in-Ok
program-returns-in-Ok t c =
    let n : suc (c.args.scope.depth - 1) ≡ c.args.scope.depth = (let f = c.if-scope-eq0.false in omega (f, arith)) in
    subst (λ z. Gives c.ended_by.result (reader_at c.args.scope.aliases.now c.args.scope.from.now z c.args.left c.args.text.now)) n (
    text_ended c.args.scope.aliases.now (c.args.scope.depth - 1) (origin c.args.scope.from.now c.args.left c.args.text.now) (all_items c.in_ok-found.found) c.in-Ok.waiting c.judge_all.new.prefix c.ended_by.result
    c.in_ok-found.ensures
    (ap (λ z. with_tokens c.args.scope.aliases.now (inside_at c.args.scope.aliases.now (c.args.scope.depth - 1)) (origin c.args.scope.from.now c.args.left c.args.text.now) nothing z (none_of substitution)) (sym c.as_slice.ensures.value)
    ∙ ap (λ z. with_tokens c.args.scope.aliases.now (inside_at c.args.scope.aliases.now (c.args.scope.depth - 1)) (origin c.args.scope.from.now c.args.left c.args.text.now) nothing c.as_slice.result.now z) (sym c.in_ok-prefix.ensures)
    ∙ c.in-Ok.ensures.judged)
    (c.in-Ok.ensures.waiting ∙ ap (λ z. waiting_behind nothing z) c.as_slice.ensures.value)
    c.ended_by.ensures
    )

pub program-returns : goal.program-returns
program-returns t c =
    let n : suc (c.args.scope.depth - 1) ≡ c.args.scope.depth = (let f = c.if-scope-eq0.false in omega (f, arith)) in
    subst (λ z. GivesFault c.in-Err.fault (reader_at c.args.scope.aliases.now c.args.scope.from.now z c.args.left c.args.text.now)) n (
    text_fault c.args.scope.aliases.now (c.args.scope.depth - 1) (origin c.args.scope.from.now c.args.left c.args.text.now) (all_items c.in_ok-found.found) c.in-Err.fault
    c.in_ok-found.ensures
    (subst (λ z. GivesFault c.in-Err.fault (with_tokens c.args.scope.aliases.now (inside_at c.args.scope.aliases.now (c.args.scope.depth - 1)) (origin c.args.scope.from.now c.args.left c.args.text.now) nothing z (none_of substitution))) c.as_slice.ensures.value
    (subst (λ z. GivesFault c.in-Err.fault (with_tokens c.args.scope.aliases.now (inside_at c.args.scope.aliases.now (c.args.scope.depth - 1)) (origin c.args.scope.from.now c.args.left c.args.text.now) nothing c.as_slice.result.now z)) c.in_ok-prefix.ensures c.in-Err.ensures.judged))
    )
