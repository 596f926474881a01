use Rattle.std.proofs.Common.{◌∙◌, [], sym, refl, subst, true, Some}
use Rattle.sh_expand_fields.specs.Pathnames.{IsIn}
use Rattle.sh_expand_fields.specs.Walk.{Leads, Taken}
use Rattle.sh_expand_fields.proofs.Names.{clash, listing, texts}
use Rattle.sh_expand_fields.proofs.Leading.{last_lacks, last_literal, last_taken}
use Rattle.sh_expand_fields.proofs.Ones.{adds_none, adds_one, adds_same}
use Rattle.sh_expand_fields.proofs.pathnames.add_last.Goals as goal

pub returns-then-is_pattern : goal.returns-then-is_pattern
returns-then-is_pattern c =
    adds_same _ _ (Taken c.args.before.now [] c.args.component.now (texts c.deref.result.now)) (Leads true c.args.files.now c.args.directory.now c.args.before.now c.args.component.now) c.in_ok-add_taken.ensures
    (last_taken c.args.files.now c.args.directory.now c.args.before.now c.args.component.now (texts c.deref.result.now) (sym c.is_pattern.ensures ∙ c.if-is_pattern.true) (listing _ _ _ _ c.in_ok-names.ensures c.in-Some.is c.deref.ensures.value))

pub returns-then-has_name : goal.returns-then-has_name
returns-then-has_name c =
    adds_one _ _ _ (Leads true c.args.files.now c.args.directory.now c.args.before.now c.args.component.now) c.in_ok-add_path.ensures
    (last_literal c.args.files.now c.args.directory.now c.args.before.now c.args.component.now c.deref-then-has_name.result.now (texts c.deref-2.result.now) (sym c.is_pattern.ensures ∙ c.if-is_pattern.false)
    (c.deref-then-has_name.ensures.value ∙ c.in_ok-name.ensures)
    (listing _ _ _ _ c.in_ok-names.ensures c.in-Some.is c.deref-2.ensures.value)
    (subst (λ x. IsIn (Some (texts c.deref-2.result.now)) x) (c.deref-3.ensures.value ∙ sym c.deref-then-has_name.ensures.value) (c.has_name.ensures.0 c.if-has_name.true)))

pub returns : goal.returns
returns c =
    adds_none _ _ (Leads true c.args.files.now c.args.directory.now c.args.before.now c.args.component.now) refl
    (last_lacks c.args.files.now c.args.directory.now c.args.before.now c.args.component.now c.deref-3.result.now (texts c.deref-2.result.now) (sym c.is_pattern.ensures ∙ c.if-is_pattern.false)
    (c.deref-3.ensures.value ∙ c.in_ok-name.ensures)
    (listing _ _ _ _ c.in_ok-names.ensures c.in-Some.is c.deref-2.ensures.value)
    (λ i. clash c.has_name.result (c.has_name.ensures.1 i) c.if-has_name.false))
