use Rattle.std.proofs.Common.{◌∙◌, sym}
use Rattle.sh_expand_fields.proofs.Ends.{gone, kept}
use Rattle.sh_expand_fields.proofs.line_fields.before_white.Goals as goal

pub returns-then-not-is_white : goal.returns-then-not-is_white
returns-then-not-is_white c =
    kept c.args.ifs.now c.in-Some.prefix.now c.marks.rest.now c.in-Some.mark.now c.in-Some.ensures.cases.0 (sym c.is_white.ensures ∙ c.if-not-is_white.true)
    ∙ c.marks.invariant

pub marks-preserved : goal.marks-preserved
marks-preserved c =
    gone c.args.ifs.now c.in-Some.prefix.now c.marks.rest.now c.in-Some.mark.now c.in-Some.ensures.cases.0 (sym c.is_white.ensures ∙ c.if-not-is_white.false)
    ∙ c.marks.invariant
