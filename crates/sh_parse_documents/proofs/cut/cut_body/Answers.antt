use Rattle.std.proofs.Common.{rules, ◌≡◌, ◌∙◌, ap, ◌-◌, ◌<◌, ◌++◌, ◌&&◌, not, true, false, [], Some, None, suc, length, take, drop, arith}
use Rattle.std.specs.List.{position}
use Rattle.std.proofs.lemmas.List.{length-drop}
use Rattle.sh_token_pieces.specs.Here.{is_end_line, joins_next}
use Rattle.sh_parse_documents.specs.Documents.{body_line, kept_places, lines_from, over, cut_of}
use Rattle.sh_parse_documents.specs.Cutting.{lines_before}
use Rattle.sh_parse_documents.proofs.Lines.{is_line_end}
use Rattle.sh_parse_documents.proofs.Cutting.{behind_line, at_end_line, at_stop, at_last_line, ended, taken}
use Rattle.sh_parse_documents.proofs.cut.cut_body.Goals as goal

pub returns-then-ends_body-clause-cut : goal.returns-then-ends_body-clause-cut
returns-then-ends_body-clause-cut c =
    let p : position is_line_end c.loop-place.rest.now ≡ Some c.in-Some.place = search rules in
    let short : c.in-Some.place < length c.loop-place.rest.now = search rules in
    let ends : (not c.loop-place.joined && is_end_line c.args.delimiter.now (take c.in-Some.place c.loop-place.rest.now)) ≡ true = search rules in
    rw c.behind_place-after.ensures
    (ended c.loop-place.text.items c.loop-place.places.items (cut_of c.args.stop c.args.delimiter.now false (lines_before c.args.stop c.args.bytes.now))
    (cut_of c.args.stop c.args.delimiter.now c.loop-place.joined (lines_before c.args.stop c.loop-place.rest.now)) (c.args.stop - length c.loop-place.rest.now)
    (lines_before c.args.stop (drop (suc c.in-Some.place) c.loop-place.rest.now)) c.loop-place.invariant.0
    (at_end_line c.args.stop c.args.delimiter.now c.loop-place.joined c.loop-place.rest.now c.loop-place.invariant.1 c.in-Some.place p short ends))

pub loop-place-preserved : goal.loop-place-preserved
loop-place-preserved c =
    let p : position is_line_end c.loop-place.rest.now ≡ Some c.in-Some.place = search rules in
    let short : c.in-Some.place < length c.loop-place.rest.now = search rules in
    let on : (not c.loop-place.joined && is_end_line c.args.delimiter.now (take c.in-Some.place c.loop-place.rest.now)) ≡ false = search rules in
    let here = c.loop-place.invariant.1 in
    let l = length-drop (suc c.in-Some.place) c.loop-place.rest.now in
    let text : c.push_line.new.text.items ≡ c.loop-place.text.items ++ body_line c.args.delimiter.now c.loop-place.joined (take (suc c.in-Some.place) c.loop-place.rest.now) = search rules in
    let places : c.push_line.new.places.items ≡ c.loop-place.places.items
    ++ kept_places c.args.delimiter.now c.loop-place.joined (c.args.stop - length c.loop-place.rest.now) (take (suc c.in-Some.place) c.loop-place.rest.now) = search rules in
    rw (c.behind_place-after.ensures, c.joins_next-joined.ensures, c.prefix-line.ensures) (
      taken c.loop-place.text.items c.loop-place.places.items (cut_of c.args.stop c.args.delimiter.now false (lines_before c.args.stop c.args.bytes.now))
          c.args.delimiter.now c.loop-place.joined (c.args.stop - length c.loop-place.rest.now) (take (suc c.in-Some.place) c.loop-place.rest.now)
          (cut_of c.args.stop c.args.delimiter.now c.loop-place.joined (lines_before c.args.stop c.loop-place.rest.now))
          (cut_of c.args.stop c.args.delimiter.now (joins_next c.args.delimiter.now (take c.in-Some.place c.loop-place.rest.now)) (lines_before c.args.stop (drop (suc c.in-Some.place) c.loop-place.rest.now)))
          c.push_line.new.text.items c.push_line.new.places.items c.loop-place.invariant.0
          (behind_line c.args.stop c.args.delimiter.now c.loop-place.joined c.loop-place.rest.now c.loop-place.invariant.1 c.in-Some.place p short on) text places,
      omega (l, here, short, arith),
    )

pub returns-clause-cut : goal.returns-clause-cut
returns-clause-cut c =
    let stop = c.args.stop in
    let d = c.args.delimiter.now in
    let rest = c.loop-place.rest.now in
    let whole = cut_of stop d false (lines_before stop c.args.bytes.now) in
    let p : position is_line_end rest ≡ None = search rules in
    let text : c.push_line-2.new.text.items ≡ c.loop-place.text.items ++ body_line d c.loop-place.joined rest = search rules in
    let places : c.push_line-2.new.places.items ≡ c.loop-place.places.items ++ kept_places d c.loop-place.joined (stop - length rest) rest = search rules in
    let goes_on : (not c.loop-place.joined && is_end_line d rest) ≡ false = search rules in
    let z : stop ≡ stop - 0 = omega arith in
    ended c.push_line-2.new.text.items c.push_line-2.new.places.items whole (over stop (lines_from stop [])) stop (lines_before stop [])
    (taken c.loop-place.text.items c.loop-place.places.items whole d c.loop-place.joined (stop - length rest) rest
    (cut_of stop d c.loop-place.joined (lines_before stop rest)) (over stop (lines_from stop []))
    c.push_line-2.new.text.items c.push_line-2.new.places.items c.loop-place.invariant.0
    (at_stop stop d c.loop-place.joined rest c.loop-place.invariant.1 p goes_on) text places) (ap (λ n. over stop (lines_from n [])) z)

pub loop-place-smaller : goal.loop-place-smaller
loop-place-smaller c =
    let short : c.in-Some.place < length c.loop-place.rest.now = search rules in
    let l = length-drop (suc c.in-Some.place) c.loop-place.rest.now in
    rw c.behind_place-after.ensures (omega (l, short, arith))

pub returns-then-ends_body-2-clause-cut : goal.returns-then-ends_body-2-clause-cut
returns-then-ends_body-2-clause-cut c =
    let stop = c.args.stop in
    let d = c.args.delimiter.now in
    let rest = c.loop-place.rest.now in
    let p : position is_line_end rest ≡ None = search rules in
    let ends : (not c.loop-place.joined && is_end_line d rest) ≡ true = search rules in
    let z : stop ≡ stop - 0 = omega arith in
    ended c.loop-place.text.items c.loop-place.places.items (cut_of stop d false (lines_before stop c.args.bytes.now))
    (cut_of stop d c.loop-place.joined (lines_before stop rest)) (stop - length rest) (lines_before stop []) c.loop-place.invariant.0
    (at_last_line stop d c.loop-place.joined rest c.loop-place.invariant.1 p ends ∙ ap (λ n. over (stop - length rest) (lines_from n [])) z)
