use Rattle.std.proofs.Common.{rules, ◌≡◌, ◌+◌, ◌<◌, ◌++◌, ◌∷◌, []}
use Rattle.sh_parse_documents.specs.Documents.{places_from}
use Rattle.sh_parse_documents.proofs.Places.{one_more}
use Rattle.sh_parse_documents.proofs.cut.push_places.Goals as goal

pub loop-place-preserved : goal.loop-place-preserved
loop-place-preserved c =
    let more : c.push.new.self.items ≡ c.loop-place.places.items ++ c.loop-place.place ∷ [] = search rules in
    let inside : c.loop-place.place < c.args.start + c.args.count = search rules in
    one_more c.loop-place.places.items c.push.new.self.items (c.args.places.now.items ++ places_from c.args.start c.args.count)
    c.loop-place.place (c.args.start + c.args.count) more inside c.loop-place.invariant
