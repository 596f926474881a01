use Rattle.std.proofs.Common.{rules, ◌≡◌, ◌<◌, ◌&&◌, not, true, false, ◌∷◌, [], Some, length, take}
use Rattle.std.specs.List.{position}
use Rattle.sh_token_pieces.specs.Here.{is_end_line}
use Rattle.sh_parse_documents.proofs.Sizes.{is_line_end, none_due, all_over, no_line_at_end, no_line_yet, end_reached, line_reached}
use Rattle.sh_parse_documents.proofs.bodies.bodies_size.Goals as goal

pub returns-then-at_end-clause-size : goal.returns-then-at_end-clause-size
returns-then-at_end-clause-size c =
    let is : c.loop-delimiter.due.now ≡ c.in-Some.delimiter.now ∷ c.in-Some.others.now = search rules in
    no_line_at_end c.args.at_end c.args.text.now c.args.due.now c.loop-delimiter.due.now c.loop-delimiter.joined c.loop-delimiter.rest.now c.loop-delimiter.invariant
    c.in-Some.delimiter.now c.in-Some.others.now is c.if-at_end.true (search rules)

pub returns-else-at_end-clause-size : goal.returns-else-at_end-clause-size
returns-else-at_end-clause-size c =
    let is : c.loop-delimiter.due.now ≡ c.in-Some.delimiter.now ∷ c.in-Some.others.now = search rules in
    no_line_yet c.args.at_end c.args.text.now c.args.due.now c.loop-delimiter.due.now c.loop-delimiter.joined c.loop-delimiter.rest.now c.loop-delimiter.invariant
    c.in-Some.delimiter.now c.in-Some.others.now is c.if-at_end.false (search rules)

pub returns-clause-size : goal.returns-clause-size
returns-clause-size c =
    let is : c.loop-delimiter.due.now ≡ [] = none_due c.loop-delimiter.due.now c.in_default.ensures.variant.1 in
    all_over c.args.at_end c.args.text.now c.args.due.now c.loop-delimiter.due.now c.loop-delimiter.joined c.loop-delimiter.rest.now c.loop-delimiter.invariant is

pub loop-delimiter-preserved-then-ends_body : goal.loop-delimiter-preserved-then-ends_body
loop-delimiter-preserved-then-ends_body c =
    let is : c.loop-delimiter.due.now ≡ c.in-Some.delimiter.now ∷ c.in-Some.others.now = search rules in
    let p : position is_line_end c.loop-delimiter.rest.now ≡ Some c.in-Some-first_newline.place = search rules in
    let inside : c.in-Some-first_newline.place < length c.loop-delimiter.rest.now = search rules in
    let ends : (not c.loop-delimiter.joined && is_end_line c.in-Some.delimiter.now (take c.in-Some-first_newline.place c.loop-delimiter.rest.now)) ≡ true = search rules in
    rw c.behind-after.ensures (end_reached c.args.at_end c.args.text.now c.args.due.now c.loop-delimiter.due.now c.loop-delimiter.joined c.loop-delimiter.rest.now c.loop-delimiter.invariant
    c.in-Some.delimiter.now c.in-Some.others.now is c.in-Some-first_newline.place p inside ends)

pub loop-delimiter-preserved : goal.loop-delimiter-preserved
loop-delimiter-preserved c =
    let is : c.loop-delimiter.due.now ≡ c.in-Some.delimiter.now ∷ c.in-Some.others.now = search rules in
    let p : position is_line_end c.loop-delimiter.rest.now ≡ Some c.in-Some-first_newline.place = search rules in
    let inside : c.in-Some-first_newline.place < length c.loop-delimiter.rest.now = search rules in
    let ends : (not c.loop-delimiter.joined && is_end_line c.in-Some.delimiter.now (take c.in-Some-first_newline.place c.loop-delimiter.rest.now)) ≡ false = search rules in
    rw (c.behind-after.ensures, c.joins_next-joined.ensures) (line_reached c.args.at_end c.args.text.now c.args.due.now c.loop-delimiter.due.now c.loop-delimiter.joined c.loop-delimiter.rest.now c.loop-delimiter.invariant
    c.in-Some.delimiter.now c.in-Some.others.now is c.in-Some-first_newline.place p inside ends)
