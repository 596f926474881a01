use Rattle.std.proofs.Common.{◌≡◌, ◌++◌, ◌∙◌, [], ap, sym, map, drop}
use Rattle.std.proofs.lemmas.List.{drop_all}
use Rattle.sh_expand_fields.specs.Classes.{class_of}
use Rattle.sh_expand_fields.specs.Splitting.{field_splitting}
use Rattle.sh_expand_fields.specs.Scan.{scan, fields_of}
use Rattle.sh_expand_fields.proofs.Scans.{scan_splits}
use Rattle.sh_expand_fields.proofs.splitting.split.Goals as goal

pub returns : goal.returns
returns c =
    let s = c.items.splitter in
    let d : drop c.items.item-index c.args.items.now ≡ [] = drop_all _ _ c.items-test.false in
    c.in_ok-fields.ensures
    ∙ ap (λ l. fields_of s ++ scan s.any s.current.items (map (class_of c.bytes-ifs.result.now) l)) (sym d)
    ∙ c.items.invariant
    ∙ scan_splits (map (class_of c.bytes-ifs.result.now) c.args.items.now)
    ∙ ap (λ ifs. field_splitting (map (class_of ifs) c.args.items.now)) c.bytes-ifs.ensures
