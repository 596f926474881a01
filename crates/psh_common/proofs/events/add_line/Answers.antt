use Rattle.std.proofs.Common.{◌≡◌, ◌∙◌, ◌++◌, OnOk, Some, option_map, subst, sym}
use Rattle.psh_common.proofs.Reading.{line_named}
use Rattle.psh_common.proofs.events.add_line.Goals as goal

pub returns-clause-ok : goal.returns-clause-ok
returns-clause-ok c =
    subst (λ o. OnOk c.add_named.result (option_map (λ turns. c.args.all.now.items ++ turns) o ≡ Some c.add_named.new.all.items))
    (sym (line_named c.args.text.now (sym c.is_empty.ensures ∙ c.if-is_empty.false))) c.add_named.ensures.ok
