use Rattle.std.proofs.Common.{◌≡◌, ◌++◌, [], false, map, drop}
use Rattle.sh_expand_fields.specs.Classes.{class_of}
use Rattle.sh_expand_fields.specs.Scan.{scan, fields_of}
use Rattle.sh_expand_fields.proofs.splitting.split.Given as goal

abbrev pub invariant-items : goal.invariant-items
invariant-items l = fields_of l.splitter ++ scan l.splitter.any l.splitter.current.items (map (class_of l.ifs) (drop l.item-index l.items)) ≡ scan false [] (map (class_of l.ifs) l.items)
