use Rattle.std.proofs.Common.{◌++◌, ◌-◌, ◌∙◌, ap}
use Rattle.sh_expand_fields.proofs.Series.{on}
use Rattle.sh_expand_fields.specs.Lines.{texts}
use Rattle.sh_expand_fields.proofs.line.texts.Goals as goal

pub fields-preserved : goal.fields-preserved
fields-preserved c =
    ap (λ line. c.push.new.self ++ texts c.args.ifs.now (c.fields.more - 1) line) c.behind-rest.ensures
    ∙ on c.args.ifs.now c.fields.more c.fields.rest.now c.fields.found c.push.new.self c.in_ok-field.field-0 c.fields-test.true c.in_ok-field.ensures c.in_ok-push.ensures.pushed
    ∙ c.fields.invariant
