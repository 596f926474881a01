use Rattle.std.proofs.Common.{rules}
use Rattle.sh_aliases.proofs.Tables.{put_between, put_over}
use Rattle.sh_aliases.proofs.table.put.Goals as goal

pub returns-then-has_name_at-clause-ok : goal.returns-then-has_name_at-clause-ok
returns-then-has_name_at-clause-ok c =
    put_over c.args.aliases.now.items c.args.alias c.place-place.result (search rules) (search rules)

pub returns-clause-ok : goal.returns-clause-ok
returns-clause-ok c = search (rules, put_between c.args.aliases.now.items c.args.alias c.place-place.result (search rules) (search rules))
