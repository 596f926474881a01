use Rattle.std.proofs.Common.{◌∙◌, sym}
use Rattle.sh_expand_fields.proofs.Parts.{pattern_here, pattern_behind, only_pattern}
use Rattle.sh_expand_fields.proofs.component.has_pattern.Goals as goal

pub returns-then-is_pattern : goal.returns-then-is_pattern
returns-then-is_pattern c =
    pattern_here c.components.rest.now (c.in-Some.component.now, c.in-Some.behind.now) c.in-Some.ensures.parts (sym c.is_pattern.ensures ∙ c.if-is_pattern.true) ∙ c.components.invariant

pub components-preserved : goal.components-preserved
components-preserved c =
    pattern_behind c.components.rest.now (c.in-Some.component.now, c.in-Some.behind.now) c.in-Some.ensures.parts (sym c.is_pattern.ensures ∙ c.if-is_pattern.false) ∙ c.components.invariant

pub returns : goal.returns
returns c = c.is_pattern-2.ensures ∙ only_pattern c.components.rest.now c.in_default.ensures.parts ∙ c.components.invariant
